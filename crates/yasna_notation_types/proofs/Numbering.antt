-- What reading an ENUMERATED as an enum does.
use Rattle.std.proofs.Common.{◌≡◌, ◌∷◌, [], ℤ, Bool, true, false, Result, Ok, Err, subst, arith}
use Rattle.std.specs.Int.{w64}
use Rattle.yasna_base.specs.declared.error.ASN1Error.{ASN1Error}
use Rattle.yasna_base.specs.declared.error.ASN1ErrorKind.TheVariants.{Invalid}
use Rattle.yasna_base.specs.Coding.{Any}
use Rattle.yasna_base.specs.Element.{Primitively}
use Rattle.yasna_base.specs.Enumerated.{enumerated_tag}
use Rattle.yasna_base.specs.Error.{error_of}
use Rattle.yasna_base.specs.Identifier.{tag_or}
use Rattle.yasna_base.specs.Integer.{IsSigned, integer_encoding}
use Rattle.yasna_base.proofs.Identifier.{not_end}
use Rattle.yasna_bytes.specs.Contents.{NeverAllocates}
use Rattle.yasna_reader.specs.Primitive.{Reads, NoLevel}
use Rattle.yasna_reader.specs.State.{Reading}
use Rattle.yasna_notation.specs.Bounded.{Within, passes_alike}
use Rattle.yasna_notation.specs.Notation.{ReadsAs, ReadsMeaning}
use Rattle.yasna_notation.proofs.Bounding.{read_within, read_outside, read_none}
use Rattle.yasna_notation.proofs.OneTag.{leaf_read}
use Rattle.yasna_notation.proofs.Represented.{represented_by, represented_by_none}
use Rattle.yasna_notation_types.specs.Named.{EncodesNumber, named_means, numbers_lawful}

module _ {A : Type 0} (number : A → ℤ) (named : ℤ → Bool) (Allowed : A → Type 0) (s : Reading) (r : Result ℤ ASN1Error) (s' : Reading)
    (h : Reads (Primitively (IsSigned w64)) NoLevel NeverAllocates enumerated_tag s r s') where
  number_read : ReadsAs true (enumerated_tag ∷ []) true false EncodesNumber (λ u. Any (EncodesNumber u)) s r s'
  number_read = leaf_read (Primitively (IsSigned w64)) enumerated_tag (not_end 10 (λ e. omega arith)) s r s' h

  -- a value has the number that was read
  pub value_read : (z : ℤ) (v : A) → r ≡ Ok z → named z ≡ true → number v ≡ z → ReadsMeaning (named_means number named Allowed) s (Ok v) s'
  value_read z v was is one =
      represented_by number true (enumerated_tag ∷ []) true false (λ u. Within named (EncodesNumber u)) (λ u. Any (Within named (EncodesNumber u))) s v z s' one
      (read_within EncodesNumber (λ u. Any (EncodesNumber u)) (λ u. integer_encoding (tag_or u enumerated_tag)) named (λ v w e. passes_alike named e) true
      (enumerated_tag ∷ []) true false numbers_lawful.own numbers_lawful.others s z s' is
      (subst (λ x. ReadsAs true (enumerated_tag ∷ []) true false EncodesNumber (λ u. Any (EncodesNumber u)) s x s') was number_read))

  -- no value has the number that was read
  pub no_value_read : (z : ℤ) → r ≡ Ok z → named z ≡ false → ReadsMeaning (named_means number named Allowed) s (Err (error_of Invalid)) s'
  no_value_read z was is =
      represented_by_none number true (enumerated_tag ∷ []) true false (λ u. Within named (EncodesNumber u)) (λ u. Any (Within named (EncodesNumber u))) s
      (error_of Invalid) s'
      (read_outside EncodesNumber (λ u. Any (EncodesNumber u)) (λ u. integer_encoding (tag_or u enumerated_tag)) named (λ v w e. passes_alike named e) true
      (enumerated_tag ∷ []) true false numbers_lawful.own numbers_lawful.others s z s' is
      (subst (λ x. ReadsAs true (enumerated_tag ∷ []) true false EncodesNumber (λ u. Any (EncodesNumber u)) s x s') was number_read))

  -- no number was read
  pub no_number_read : (e : ASN1Error) → r ≡ Err e → ReadsMeaning (named_means number named Allowed) s (Err e) s'
  no_number_read e was =
      represented_by_none number true (enumerated_tag ∷ []) true false (λ u. Within named (EncodesNumber u)) (λ u. Any (Within named (EncodesNumber u))) s e s'
      (read_none EncodesNumber (λ u. Any (EncodesNumber u)) (λ u. integer_encoding (tag_or u enumerated_tag)) named (λ v w e. passes_alike named e) true
      (enumerated_tag ∷ []) true false numbers_lawful.own numbers_lawful.others s e s'
      (subst (λ x. ReadsAs true (enumerated_tag ∷ []) true false EncodesNumber (λ u. Any (EncodesNumber u)) s x s') was number_read))
