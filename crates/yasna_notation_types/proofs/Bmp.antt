-- What reading a BMPString does.
use Rattle.std.proofs.Common.{◌≡◌, ◌∷◌, [], true, false, Option, String, Result, Ok, Err, ap, subst, arith}
use Rattle.std.specs.Global.{Global}
use Rattle.std.specs.List.{list_all}
use Rattle.yasna_base.specs.declared.error.ASN1Error.{ASN1Error}
use Rattle.yasna_base.specs.declared.error.ASN1ErrorKind.TheVariants.{Invalid}
use Rattle.yasna_base.specs.declared.mode.BERMode.{BERMode}
use Rattle.yasna_base.specs.declared.tag.Tag.{Tag}
use Rattle.yasna_base.specs.Coding.{Any}
use Rattle.yasna_base.specs.Error.{error_of}
use Rattle.yasna_base.specs.Grammar.{Grammar, Members}
use Rattle.yasna_base.specs.Identifier.{end_tag, tag_or}
use Rattle.yasna_base.specs.Octets.{IsDeepOctets, octets_segmentation}
use Rattle.yasna_base.specs.Text.{IsBmp, IsStringOf, bmp_tag, characters}
use Rattle.yasna_base.proofs.Beginnings.{begins_by_tag}
use Rattle.yasna_base.proofs.Identifier.{not_end}
use Rattle.yasna_base.proofs.Segmented.{deep_begins}
use Rattle.yasna_bytes.specs.Contents.{MayAllocate}
use Rattle.yasna_reader.specs.Primitive.{ReadsSeen}
use Rattle.yasna_reader.specs.State.{Reading}
use Rattle.yasna_notation.specs.Bounded.{Within}
use Rattle.yasna_notation.specs.Laws.{string_begins}
use Rattle.yasna_notation.specs.Notation.{ReadsAs}
use Rattle.yasna_notation.proofs.OneTag.{allocating_read}
use Rattle.yasna_notation_types.specs.Bmp.{EncodesBmp, is_known, has_known, encodes_bmp_coding}
use Rattle.yasna_notation.proofs.WithinMode.{ReadingLaws, mode_within, mode_outside, mode_none}

abbrev B : Option Tag → Grammar (String Global)
B u = EncodesBmp (tag_or u bmp_tag)

abbrev S : Option Tag → Members
S u = Any (IsStringOf IsBmp (tag_or u bmp_tag))

begun : (t : Tag) → (t ≡ end_tag → ⊥) → ReadingLaws true (t ∷ []) (λ v w. characters v ≡ characters w) (EncodesBmp t) (Any (IsStringOf IsBmp t))
begun t other = record { coding = encodes_bmp_coding t other; begins = λ _. begins_by_tag t (string_begins IsBmp t) }

alike : (m : BERMode) (v w : String Global) → characters v ≡ characters w → has_known v ≡ has_known w
alike m v w e = ap (list_all is_known) e

other_30 : bmp_tag ≡ end_tag → ⊥
other_30 = not_end 30 (λ e. omega arith)

module _ (s : Reading) (r : Result (String Global) ASN1Error) (s' : Reading)
    (h : ReadsSeen (IsStringOf IsBmp) characters IsDeepOctets MayAllocate bmp_tag s r s') where
  abbrev pub ReadsKnown : Result (String Global) ASN1Error → Type 0
  ReadsKnown x = ReadsAs true (bmp_tag ∷ []) true true (λ u. Within has_known (B u)) (λ u. Any (Within has_known (B u))) s x s'

  any_text : ReadsAs true (bmp_tag ∷ []) true true B S s r s'
  any_text = allocating_read (IsStringOf IsBmp) characters IsDeepOctets bmp_tag other_30 (λ t n m z. deep_begins octets_segmentation n m t z) s r s' h

  pub known_read : (v : String Global) → r ≡ Ok v → has_known v ≡ true → ReadsKnown (Ok v)
  known_read v was is = mode_within (λ v. v) B S (λ m. has_known) alike true (bmp_tag ∷ []) true true (begun bmp_tag other_30) (λ _ t other range. begun t other) s v s' is
      (subst (λ z. ReadsAs true (bmp_tag ∷ []) true true B S s z s') was any_text)

  pub unknown_read : (v : String Global) → r ≡ Ok v → has_known v ≡ false → ReadsKnown (Err (error_of Invalid))
  unknown_read v was is = mode_outside (λ v. v) B S (λ m. has_known) alike true (bmp_tag ∷ []) true true (begun bmp_tag other_30) (λ _ t other range. begun t other) s v s' is
      (subst (λ z. ReadsAs true (bmp_tag ∷ []) true true B S s z s') was any_text)

  pub no_text_read : (e : ASN1Error) → r ≡ Err e → ReadsKnown (Err e)
  no_text_read e was = mode_none {U = String Global} (λ v. v) B S (λ m. has_known) alike true (bmp_tag ∷ []) true true (begun bmp_tag other_30) (λ _ t other range. begun t other) s e s'
      (subst (λ z. ReadsAs {A = String Global} true (bmp_tag ∷ []) true true B S s z s') was any_text)
