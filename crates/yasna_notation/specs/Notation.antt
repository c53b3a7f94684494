-- The laws of a type made as the notation of ASN.1 says (X.680), and what reading it does.
use Rattle.std.specs.Prelude.{◌≡◌, ◌<◌, ◌^◌, List, [], ◌∷◌, Bool, true, Option, Some, None, Result}
use Rattle.yasna_base.specs.declared.error.ASN1Error.{ASN1Error}
use Rattle.yasna_base.specs.declared.mode.BERMode.{BERMode}
use Rattle.yasna_base.specs.declared.tag.Tag.{Tag}
use Rattle.yasna_base.specs.Beginnings.{BeginsBy}
use Rattle.yasna_base.specs.Canonical.{IsWritten}
use Rattle.yasna_base.specs.Coding.{IsCoding}
use Rattle.yasna_base.specs.Exact.{Fitting, IsExact}
use Rattle.yasna_base.specs.Grammar.{Grammar, Members, Encoding, Depth}
use Rattle.yasna_base.specs.Identifier.{end_tag, AnyTag}
use Rattle.yasna_reader.specs.ByTags.{NoMatchElsewhere}
use Rattle.yasna_reader.specs.Decodes.{Decodes, RepeatsError}
use Rattle.yasna_reader.specs.State.{Reading, IsFresh, untagged}
use Rattle.yasna_notation.specs.Elements.{AreSingleElements}

-- what a type means
pub record Meaning (A : Type 0) : Type 1 where
  -- whether it is known by which tags its encodings begin, and these
  pub tags_known : Bool
  pub tags : List Tag
  -- whether it has a tag of its own, in place of which another may be
  pub retagged : Bool
  -- which bytes encode a value, in a mode within a number of levels, where this tag is in place of the type's own
  pub under : Option Tag → Grammar A
  -- which bytes encode some value
  pub any_under : Option Tag → Members
  -- whether reading a value may allocate
  pub may_allocate : Bool
  -- which values are equal
  pub same : A → A → Type 0
  -- the encoding of a value in a canonical mode, under such a tag, and its depth
  pub encoding_under : Option Tag → Encoding A
  pub depth : Depth A
  -- which values can be written
  pub can : A → Type 0
  -- which values have an encoding in a mode within a number of levels
  pub fits : Fitting A

-- the laws of reading and of a canonical mode, of a type each of whose encodings is one element, and begins with one of the tags where that is known
pub record IsNotation {A : Type 0} (tags_known : Bool) (ts : List Tag) (E : A → A → Type 0) (B : Grammar A) (S : Members) (encoding : Encoding A)
    (Fits : Fitting A) (Can : A → Type 0) : Type 0 where
  pub coding : IsCoding E B S
  pub begins : tags_known ≡ true → BeginsBy ts S
  pub single : AreSingleElements S
  pub exact : IsExact E B encoding Fits Can

-- `IsNotation` under any tag but that of the end of contents: B u is the grammar where the tag u is in place of the type's own
abbrev pub IsNotationUnderTags : {A : Type 0} → (A → A → Type 0) → (Option Tag → Grammar A) → (Option Tag → Members) → (Option Tag → Encoding A) → Fitting A →
    (A → Type 0) → Type 0
IsNotationUnderTags E B S encoding Fits Can = AnyTag (λ t. IsNotation true (t ∷ []) E (B (Some t)) (S (Some t)) (encoding (Some t)) Fits Can)

-- the laws of a type, under its own tag and under those that may be in place of it
pub record NotationKeepsLaws {A : Type 0} (tags_known : Bool) (ts : List Tag) (retagged : Bool) (E : A → A → Type 0) (B : Option Tag → Grammar A)
    (S : Option Tag → Members) (encoding : Option Tag → Encoding A) (Fits : Fitting A) (Can : A → Type 0) : Type 0 where
  pub own : IsNotation tags_known ts E (B None) (S None) (encoding None) Fits Can
  pub others : retagged ≡ true → IsNotationUnderTags E B S encoding Fits Can

abbrev pub MeaningKeepsLaws : {A : Type 0} → Meaning A → Type 0
MeaningKeepsLaws x = NotationKeepsLaws x.tags_known x.tags x.retagged x.same x.under x.any_under x.encoding_under x.fits x.can

-- the laws by which what BER reads is written again, under a type's own tag and under those that may be in place of it
pub record IsWrittenAs {A : Type 0} (retagged : Bool) (E : A → A → Type 0) (B : Option Tag → Grammar A) (encoding : Option Tag → Encoding A) (depth : Depth A)
    (Can : A → Type 0) : Type 0 where
  pub own : IsWritten E (B None) (encoding None) depth Can
  pub others : retagged ≡ true → AnyTag (λ t. IsWritten E (B (Some t)) (encoding (Some t)) depth Can)

abbrev pub IsWrittenMeaning : {A : Type 0} → Meaning A → Type 0
IsWrittenMeaning x = IsWrittenAs x.retagged x.same x.under x.encoding_under x.depth x.can

-- no encoding is empty
abbrev pub IsNonEmpty : {A : Type 0} → Encoding A → Type 0
IsNonEmpty {A} encoding = (m : BERMode) (v : A) → encoding m v ≡ [] → ⊥

abbrev pub IsNonEmptyEncoding : {A : Type 0} → Meaning A → Type 0
IsNonEmptyEncoding x = (u : Option Tag) → IsNonEmpty (x.encoding_under u)

-- what a type means whose values represent those of another
abbrev pub represented_by : {U A : Type 0} → (U → A) → Meaning A → Meaning U
represented_by f x = record {
  tags_known = x.tags_known;
  tags = x.tags;
  retagged = x.retagged;
  under = λ u m n v b. x.under u m n (f v) b;
  any_under = x.any_under;
  may_allocate = x.may_allocate;
  same = λ v w. x.same (f v) (f w);
  encoding_under = λ u m v. x.encoding_under u m (f v);
  depth = λ m v. x.depth m (f v);
  can = λ v. x.can (f v);
  fits = λ m n v. x.fits m n (f v);
}

-- what reading a value does; where its tags are known and none of them is, it consumes nothing, and no error is sticky
pub record DecodesAs {A : Type 0} (tags_known : Bool) (ts : List Tag) (may_allocate : Bool) (B : Grammar A) (S : Members) (s : Reading) (r : Result A ASN1Error)
    (s' : Reading) :
    Type 0 where
  pub decodes : Decodes may_allocate B S s r s'
  pub no_match : tags_known ≡ true → NoMatchElsewhere ts s r s'

-- what reading a value does, where an implicit tag may wait
pub record ReadsAs {A : Type 0} (tags_known : Bool) (ts : List Tag) (retagged may_allocate : Bool) (B : Option Tag → Grammar A) (S : Option Tag → Members)
    (s : Reading) (r : Result A ASN1Error) (s' : Reading) :
    Type 0 where
  -- where none waits
  pub fresh : IsFresh s → DecodesAs tags_known ts may_allocate (B None) (S None) s r s'
  -- where one waits that may be in place of the type's own, it is used up
  pub replaced : retagged ≡ true → (t : Tag) → (t ≡ end_tag → ⊥) → t.tag_number < 2 ^ 64 → s.failed ≡ None → s.tag ≡ Some t →
      DecodesAs true (t ∷ []) may_allocate (B (Some t)) (S (Some t)) (untagged s) r (untagged s')
  pub repeats : RepeatsError s r s'

abbrev pub ReadsMeaning : {A : Type 0} → Meaning A → Reading → Result A ASN1Error → Reading → Type 0
ReadsMeaning x = ReadsAs x.tags_known x.tags x.retagged x.may_allocate x.under x.any_under
