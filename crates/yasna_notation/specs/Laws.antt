-- That types which are made as the notation says satisfy its laws.
use Rattle.std.proofs.Common.{◌≡◌, ◌∷◌, ◌++◌, [], ◌<◌, ◌^◌, ℕ, List, Bool, true, false, Option, Some, Vec, String, FitsSigned, length, pos, refl, ap, arith}
use Rattle.std.proofs.lemmas.Bool.{and_parts}
use Rattle.std.specs.Prelude.{◌&&◌, if◌then◌else◌}
use Rattle.std.specs.Global.{Global}
use Rattle.std.specs.Int.{Width}
use Rattle.std.specs.List.{AllByRecursion}
use Rattle.std.specs.Str.{encode_utf8_all}
use Rattle.yasna_base.specs.declared.mode.BERMode.{BERMode}
use Rattle.yasna_base.specs.declared.mode.BERMode.TheVariants.{Ber, Der, Cer}
use Rattle.yasna_base.specs.declared.tag.PCBit.{PCBit}
use Rattle.yasna_base.specs.declared.tag.PCBit.TheVariants.{Primitive, Constructed}
use Rattle.yasna_base.specs.declared.tag.Tag.{Tag}
use Rattle.yasna_base.specs.declared.tag.TagClass.TheVariants.{Application}
use Rattle.yasna_times.specs.declared.models.generalized_time.GeneralizedTime.{GeneralizedTime}
use Rattle.yasna_times.specs.declared.models.utc_time.UTCTime.{UTCTime}
use Rattle.yasna_base.specs.BigInteger.{IsBigInteger, CanBigInteger, big_integer_encoding}
use Rattle.yasna_base.specs.Bits.{BitString, bits_segmentation, IsBits, bits_contents, bit_segments, bits_encoding}
use Rattle.yasna_base.specs.Boolean.{IsBoolean, boolean_encoding}
use Rattle.yasna_base.specs.Canonical.{Always, leaf_depth, enclosed_encoding, definite_element, indefinite_element, canonical_element}
use Rattle.yasna_base.specs.Coding.{Any}
use Rattle.yasna_base.specs.Digits.{IsBytes}
use Rattle.yasna_base.specs.Element.{Primitively, Enclosed, AnyEnclosed}
use Rattle.yasna_base.specs.Exact.{Fitting, written_fits, enclosed_fits, elements_fit, raw_fits}
use Rattle.yasna_base.specs.Grammar.{Grammar, Members, Encoding}
use Rattle.yasna_base.specs.Identifier.{class_number, identifier, end_tag, AnyTag, BeginsWithTag, begins, tag_or}
use Rattle.yasna_base.specs.Integer.{IsSigned, IsUnsigned, integer_encoding}
use Rattle.yasna_base.specs.Null.{IsNull, null_encoding}
use Rattle.yasna_base.specs.Octets.{IsOctets, octets_full, octets_segmentation, octets_encoding, octets_depth}
use Rattle.yasna_base.specs.Oid.{AreComponents, IsEncodableOid, oid_encoding}
use Rattle.yasna_base.specs.Pieces.{Each}
use Rattle.yasna_base.specs.Raw.{RawValue, IsRaw, raw_cer_encoding, raw_encoding}
use Rattle.yasna_base.specs.Segmented.{Segmentation, segmented_encoding}
use Rattle.yasna_base.specs.Segments.{segments}
use Rattle.yasna_base.specs.SequenceOf.{IsListOf, AnyListOf, elements_encoding}
use Rattle.yasna_base.specs.TaggedDerValue.{raw_of}
use Rattle.yasna_base.specs.Text.{IsStringOf, IsUtf8In, InUtf8, characters, utf8_encoding, utf8_depth}
use Rattle.yasna_base.specs.UnderTags.{IsExactUnderTags}
use Rattle.yasna_base.proofs.Beginnings.{begins_by_tag}
use Rattle.yasna_base.proofs.BigInteger.{big_integer_coding, big_integer_written}
use Rattle.yasna_base.proofs.Boolean.{boolean_coding, boolean_written}
use Rattle.yasna_base.proofs.Canonical.{written_along, written_where, written_always}
use Rattle.yasna_base.proofs.Coding.{along}
use Rattle.yasna_base.proofs.Exact.{exact_along, written_exact, raw_keeps_exact}
use Rattle.yasna_base.proofs.Identifier.{begins_some}
use Rattle.yasna_base.proofs.Integer.{signed_under, unsigned_under, number_written}
use Rattle.yasna_base.proofs.Null.{null_coding, null_written}
use Rattle.yasna_base.proofs.Octets.{octets_coding, octets_written}
use Rattle.yasna_base.proofs.Oid.{oid_under, oid_written_under}
use Rattle.yasna_base.proofs.Raw.{raw_coding}
use Rattle.yasna_base.proofs.Segmented.{segmented_begins}
use Rattle.yasna_base.proofs.Texts.{class_coding, class_written, string_text}
use Rattle.yasna_base.proofs.UnderTags.{tagged_exact_under_tags, list_exact_under_tags}
use Rattle.yasna_times.specs.GeneralizedTime.{SpellsGeneralizedTime, generalized_time_encoding, generalized_time_depth}
use Rattle.yasna_times.specs.Models.{utc_of, moment_of}
use Rattle.yasna_times.specs.UtcTime.{SpellsUtcTime, utc_time_encoding, utc_time_depth}
use Rattle.yasna_times.proofs.TimeLaws.{utc_time_keeps, generalized_time_keeps}
use Rattle.yasna_times.proofs.Times.{general_moment}
use Rattle.yasna_notation.specs.Elements.{AreSingleElements}
use Rattle.yasna_notation.specs.Notation.{IsNotation, IsNotationUnderTags, NotationKeepsLaws}

module _ {A : Type 0} {E : A → A → Type 0} {B : Tag → Grammar A} {S : Tag → Members} {encoding : Tag → Encoding A} {Fits : Fitting A} {Can : A → Type 0}
    (own : Tag) (laws : IsExactUnderTags E B S encoding Fits Can)
    (begins : (t : Tag) (m : BERMode) (n : ℕ) (b : List ℕ) → S t m n b → BeginsWithTag t b) (single : AnyTag (λ t. AreSingleElements (S t))) where
  at : (t : Tag) → (t ≡ end_tag → ⊥) → t.tag_number < 2 ^ 64 → IsNotation true (t ∷ []) E (B t) (S t) (encoding t) Fits Can
  at t not_end range =
      let x = laws t not_end range in
      record { coding = x.0; begins = λ _. begins_by_tag t (begins t); single = single t not_end range; exact = x.1 }

  -- a type that satisfies its laws under any tag satisfies them under its own, and where another tag is in place of that
  pub element_lawful : (own ≡ end_tag → ⊥) → own.tag_number < 2 ^ 64 →
      NotationKeepsLaws true (own ∷ []) true E (λ u. B (tag_or u own)) (λ u. S (tag_or u own)) (λ u. encoding (tag_or u own)) Fits Can
  element_lawful not_end range = record { own = at own not_end range; others = λ _ t e r. at t e r }

-- values of which something is seen satisfy the laws of what is seen
pub seen_laws : {U A : Type 0} {B : Tag → Grammar A} {S : Tag → Members} {encoding : Tag → Encoding A} {Fits : Fitting A} {Can : A → Type 0} (view : U → A) →
    IsExactUnderTags (λ v w. v ≡ w) B S encoding Fits Can →
    IsExactUnderTags (λ v w. view v ≡ view w) (λ t m n v b. B t m n (view v) b) S (λ t m v. encoding t m (view v)) (λ m n v. Fits m n (view v))
    (λ v. Can (view v))
seen_laws view laws t not_end range = let x = laws t not_end range in (along view x.0, exact_along view x.1)

-- primitive types
pub boolean_laws : IsExactUnderTags (λ v w. v ≡ w) (Primitively IsBoolean) (λ t. Any (Primitively IsBoolean t))
    boolean_encoding (written_fits leaf_depth Always) Always
boolean_laws t not_end range = (boolean_coding t not_end, written_exact (boolean_written t range))

pub null_laws : IsExactUnderTags (λ v w. v ≡ w) (Primitively IsNull) (λ t. Any (Primitively IsNull t))
    null_encoding (written_fits leaf_depth Always) Always
null_laws t not_end range = (null_coding t not_end, written_exact (null_written t range))

pub signed_laws : (w : Width) → IsExactUnderTags (λ v u. v ≡ u) (Primitively (IsSigned w))
    (λ t. Any (Primitively (IsSigned w) t)) integer_encoding (written_fits leaf_depth (FitsSigned w)) (FitsSigned w)
signed_laws w t not_end range = (signed_under w t not_end, written_exact (number_written (λ z. z) (FitsSigned w) t range))

pub unsigned_laws : (k : ℕ) → IsExactUnderTags (λ v u. v ≡ u) (Primitively (IsUnsigned k))
    (λ t. Any (Primitively (IsUnsigned k) t)) (λ t m v. integer_encoding t m (pos v)) (written_fits leaf_depth (λ u. u < 2 ^ k))
    (λ u. u < 2 ^ k)
unsigned_laws k t not_end range = (unsigned_under k t not_end, written_exact (number_written pos (λ u. u < 2 ^ k) t range))

pub oid_laws : IsExactUnderTags (λ v w. v ≡ w) (Primitively AreComponents)
    (λ t. Any (Primitively AreComponents t)) oid_encoding (written_fits leaf_depth IsEncodableOid) IsEncodableOid
oid_laws t not_end range = (oid_under t not_end, written_exact (oid_written_under t range))

pub big_integer_laws : IsExactUnderTags (λ v w. v ≡ w) (Primitively IsBigInteger)
    (λ t. Any (Primitively IsBigInteger t)) big_integer_encoding (written_fits leaf_depth CanBigInteger) CanBigInteger
big_integer_laws t not_end range = (big_integer_coding t not_end, written_exact (big_integer_written t range))

-- strings
abbrev pub octets_of : Vec ℕ Global → List ℕ
octets_of v = v.items

pub octets_laws : IsExactUnderTags (λ v w. v ≡ w) IsOctets (λ t. Any (IsOctets t)) octets_encoding
    (written_fits octets_depth IsBytes) IsBytes
octets_laws t not_end range = (octets_coding t not_end, written_exact (octets_written t range))

pub octets_begin : (t : Tag) (m : BERMode) (n : ℕ) (b : List ℕ) → Any (IsOctets t) m n b → BeginsWithTag t b
octets_begin t m n b p = segmented_begins octets_segmentation n m t p.0 b p.1

pub bits_begin : (t : Tag) (m : BERMode) (n : ℕ) (b : List ℕ) → Any (IsBits t) m n b → BeginsWithTag t b
bits_begin t m n b p = segmented_begins bits_segmentation n m t p.0 b p.1

pub string_begins : {A : Type 0} (K : BERMode → A → List ℕ → Type 0) (t : Tag) (m : BERMode) (n : ℕ) (b : List ℕ) →
    Any (IsStringOf K t) m n b → BeginsWithTag t b
string_begins K t m n b p = segmented_begins octets_segmentation n m t p.1.octets b p.1.string

pub text_begins : (In : ℕ → Type 0) (t : Tag) (m : BERMode) (n : ℕ) (b : List ℕ) →
    Any (IsStringOf (IsUtf8In In) t) m n b → BeginsWithTag t b
text_begins In = string_begins (IsUtf8In In)

pub text_laws : IsExactUnderTags (λ v w. characters v ≡ characters w) (λ t m n v b. IsStringOf (IsUtf8In InUtf8) t m n (characters v) b)
    (λ t. Any (IsStringOf (IsUtf8In InUtf8) t)) (λ t m v. utf8_encoding t m (characters v))
    (written_fits (λ m v. utf8_depth m (characters v)) Always) Always
text_laws t not_end range = (
  along characters (class_coding InUtf8 t not_end),
  written_exact (written_always string_text (written_along characters (class_written InUtf8 t range))),
)

pub class_laws : (In : ℕ → Type 0) → IsExactUnderTags (λ v w. characters v ≡ characters w)
    (λ t m n v b. IsStringOf (IsUtf8In In) t m n (characters v) b) (λ t. Any (IsStringOf (IsUtf8In In) t))
    (λ t m v. utf8_encoding t m (characters v)) (written_fits (λ m v. utf8_depth m (characters v)) (λ v. AllByRecursion In (characters v)))
    (λ v. AllByRecursion In (characters v))
class_laws In t not_end range = (
  along characters (class_coding In t not_end),
  written_exact (written_where (λ (v : String Global).
      (λ can. can.in_class, λ can. record { characters = (string_text v).characters; in_class = can }))
      (written_along characters (class_written In t range))),
)

-- times
pub utc_laws : IsExactUnderTags (λ v w. utc_of v ≡ utc_of w) (λ t m n v b. IsStringOf SpellsUtcTime t m n (utc_of v) b)
    (λ t. Any (IsStringOf SpellsUtcTime t)) (λ t m v. utc_time_encoding t m (utc_of v))
    (written_fits (λ m v. utc_time_depth m (utc_of v)) Always) Always
utc_laws t not_end range =
    let x = utc_time_keeps t not_end range in
    (along utc_of x.0, written_exact (written_where (λ (v : UTCTime). (λ can. tt, λ can. v.in_range)) (written_along utc_of x.1)))

pub general_laws : IsExactUnderTags (λ v w. moment_of v ≡ moment_of w) (λ t m n v b. IsStringOf SpellsGeneralizedTime t m n (moment_of v) b)
    (λ t. Any (IsStringOf SpellsGeneralizedTime t)) (λ t m v. generalized_time_encoding t m (moment_of v))
    (written_fits (λ m v. generalized_time_depth m (moment_of v)) Always) Always
general_laws t not_end range =
    let x = generalized_time_keeps t not_end range in
    (along moment_of x.0, written_exact (written_where (λ (v : GeneralizedTime). (λ can. tt, λ can. general_moment v)) (written_along moment_of x.1)))

-- the tag that a module writes as [APPLICATION number]
abbrev pub application : ℕ → Tag
application number = record { tag_class = Application; tag_number = number }

-- a tag of that class isn't that of the end of contents
pub application_not_end : (k : ℕ) → application k ≡ end_tag → ⊥
application_not_end k e = let c = ap (λ (t : Tag). class_number t.tag_class) e in absurd (omega arith)

-- an element of any tag
pub any_laws : IsNotation false [] (λ v w. raw_of v ≡ raw_of w) (λ m n v b. IsRaw m n (raw_of v) b) (Any IsRaw)
    (λ m v. raw_encoding (raw_of v).tag m (raw_of v)) (λ m n v. raw_fits m n (raw_of v)) Always
any_laws = record {
  coding = along raw_of raw_coding;
  begins = λ e. absurd (cc);
  single = λ m n b p. p;
  exact = exact_along raw_of raw_keeps_exact;
}

-- nothing is required if no other tag may be there
pub never_retagged : {P : Type 0} → false ≡ true → P
never_retagged e = absurd (cc)

-- an EXPLICIT tag
pub explicit_laws : {A : Type 0} {tags_known : Bool} {ts : List Tag} {E : A → A → Type 0} {B : Grammar A} {S : Members} {encoding : Encoding A} {Fits : Fitting A}
    {Can : A → Type 0} → IsNotation tags_known ts E B S encoding Fits Can →
    IsExactUnderTags E (λ t. Enclosed B t) (λ t. AnyEnclosed S t) (λ t. enclosed_encoding encoding t) (enclosed_fits Fits) Can
explicit_laws x = tagged_exact_under_tags x.coding x.exact

-- a SEQUENCE OF
pub list_laws : {A : Type 0} {tags_known : Bool} {ts : List Tag} {E : A → A → Type 0} {B : Grammar A} {S : Members} {encoding : Encoding A} {Fits : Fitting A}
    {Can : A → Type 0} → IsNotation tags_known ts E B S encoding Fits Can →
    IsExactUnderTags (λ (v w : Vec A Global). Each E v.items w.items) (λ t m n (v : Vec A Global) b. IsListOf B t m n v.items b) (λ t. AnyListOf S t)
    (λ t m (v : Vec A Global). enclosed_encoding (elements_encoding encoding) t m v.items)
    (λ m n (v : Vec A Global). enclosed_fits (elements_fit Fits) m n v.items) (λ (v : Vec A Global). AllByRecursion Can v.items)
list_laws {A} x = list_exact_under_tags (λ (v : Vec A Global). v.items) x.coding x.exact

-- a tag in place of the type's own
module _ {A : Type 0} {tags_known : Bool} {ts : List Tag} {E : A → A → Type 0} {B : Option Tag → Grammar A} {S : Option Tag → Members}
    {encoding : Option Tag → Encoding A} {Fits : Fitting A} {Can : A → Type 0} {unambiguous retagged : Bool} (own : Tag)
    (lawful : unambiguous ≡ true → NotationKeepsLaws tags_known ts retagged E B S encoding Fits Can) (all : retagged && unambiguous ≡ true) where
  under : IsNotationUnderTags E B S encoding Fits Can
  under = let x = and_parts retagged unambiguous all in (lawful x.1).others x.0

  pub implicit_lawful : (own ≡ end_tag → ⊥) → own.tag_number < 2 ^ 64 →
      NotationKeepsLaws true (own ∷ []) true E (λ u. B (Some (tag_or u own))) (λ u. S (Some (tag_or u own))) (λ u. encoding (Some (tag_or u own))) Fits Can
  implicit_lawful not_end range = record { own = under own not_end range; others = λ _. under }

-- a type whose values represent those of another
pub defined_type_laws : {U A : Type 0} {tags_known : Bool} {ts : List Tag} {E : A → A → Type 0} {B : Grammar A} {S : Members} {encoding : Encoding A} {Fits : Fitting A}
    {Can : A → Type 0} (f : U → A) → IsNotation tags_known ts E B S encoding Fits Can →
    IsNotation tags_known ts (λ v w. E (f v) (f w)) (λ m n v b. B m n (f v) b) S (λ m v. encoding m (f v)) (λ m n v. Fits m n (f v)) (λ v. Can (f v))
defined_type_laws f x = record { coding = along f x.coding; begins = x.begins; single = x.single; exact = exact_along f x.exact }

pub represented_lawful : {U A : Type 0} {tags_known : Bool} {ts : List Tag} {retagged : Bool} {E : A → A → Type 0} {B : Option Tag → Grammar A}
    {S : Option Tag → Members} {encoding : Option Tag → Encoding A} {Fits : Fitting A} {Can : A → Type 0} (f : U → A) →
    NotationKeepsLaws tags_known ts retagged E B S encoding Fits Can →
    NotationKeepsLaws tags_known ts retagged (λ v w. E (f v) (f w)) (λ u m n v b. B u m n (f v) b) S (λ u m v. encoding u m (f v)) (λ m n v. Fits m n (f v))
    (λ v. Can (f v))
represented_lawful f x = record { own = defined_type_laws f x.own; others = λ r t not_end range. defined_type_laws f (x.others r t not_end range) }

-- what begins with an identifier isn't empty
begun_non_empty : (t : Tag) (bit : PCBit) (r : List ℕ) → identifier t bit ++ r ≡ [] → ⊥
begun_non_empty t bit r e = omega (arith, begins_some t (identifier t bit ++ r) (begins bit r refl), ap length e)

-- no element is empty, as a canonical mode writes it
pub element_non_empty : (m : BERMode) (t : Tag) (bit : PCBit) (c : List ℕ) → canonical_element m t bit c ≡ [] → ⊥
unfolding canonical_element definite_element indefinite_element
element_non_empty m t Primitive c e = begun_non_empty t Primitive _ e
element_non_empty Ber t Constructed c e = begun_non_empty t Constructed _ e
element_non_empty Der t Constructed c e = begun_non_empty t Constructed _ e
element_non_empty Cer t Constructed c e = begun_non_empty t Constructed _ e

-- nor a string, whole or cut
whole_or_cut_non_empty : (b : Bool) (x y : List ℕ) → (x ≡ [] → ⊥) → (y ≡ [] → ⊥) → (if b then x else y) ≡ [] → ⊥
whole_or_cut_non_empty true x y p q = p
whole_or_cut_non_empty false x y p q = q

string_non_empty : {A : Type 0} (k : Segmentation A) (contents : A → List ℕ) (cut : A → List A) (t : Tag) (m : BERMode) (v : A) →
    segmented_encoding k contents cut t m v ≡ [] → ⊥
string_non_empty k contents cut t Ber v = element_non_empty _ _ _ _
string_non_empty k contents cut t Der v = element_non_empty _ _ _ _
string_non_empty k contents cut t Cer v = whole_or_cut_non_empty _ _ _ (element_non_empty _ _ _ _) (element_non_empty _ _ _ _)

pub octets_non_empty : (t : Tag) (m : BERMode) (v : List ℕ) → octets_encoding t m v ≡ [] → ⊥
octets_non_empty = string_non_empty octets_segmentation (λ v. v) (segments octets_full)

pub bits_non_empty : (t : Tag) (m : BERMode) (v : BitString) → bits_encoding t m v ≡ [] → ⊥
bits_non_empty = string_non_empty bits_segmentation bits_contents bit_segments

pub text_non_empty : (t : Tag) (m : BERMode) (v : List ℕ) → utf8_encoding t m v ≡ [] → ⊥
text_non_empty t m v = octets_non_empty t m (encode_utf8_all v)

-- nor an element of any tag
pub raw_non_empty : (t : Tag) (m : BERMode) (v : RawValue) → raw_encoding t m v ≡ [] → ⊥
raw_non_empty t Ber v = element_non_empty _ _ _ _
raw_non_empty t Der v = element_non_empty _ _ _ _
raw_non_empty t Cer v = by_bit v.bit
  where
    by_bit : (bit : PCBit) → raw_cer_encoding t bit v.payload ≡ [] → ⊥
    by_bit Primitive = element_non_empty _ _ _ _
    by_bit Constructed = begun_non_empty t Constructed _
