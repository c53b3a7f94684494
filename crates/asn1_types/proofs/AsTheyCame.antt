-- Types that are left open, and those whose elements are kept as they came.
use Rattle.std.proofs.Common.{◌≡◌, ◌∙◌, ◌<◌, ◌≤◌, Bool, true, List, [], ◌∷◌, Result, Ok, Err, refl, sym, subst, ap, length, arith}
use Rattle.std.specs.Global.{Box}
use Rattle.std.specs.List.{list_any}
use Rattle.std.specs.Prelude.{codes}
use Rattle.std.specs.Result.{IfOk}
use Rattle.asn1_types.specs.declared.model.Notation.{Notation}
use Rattle.asn1_types.specs.declared.model.Notation.TheVariants as notations
use Rattle.asn1_types.specs.declared.model.TagClass.{TagClass}
use Rattle.asn1_types.specs.declared.problem.Stop.{Stop}
use Rattle.asn1_types.specs.declared.resolver.Resolver.{Resolver}
use Rattle.asn1_types.specs.Context.{Context, IsUnchanged}
use Rattle.asn1_types.specs.Names.{has_text}
use Rattle.asn1_types.specs.Notations.{HasElements, IsAsItCame, IsElementsOf, IsOfField, IsOpenType, IsUnderLayer, elements_by, field, no_type, parameter, under_its_tag}
use Rattle.asn1_types.specs.Tags.{class_written}
use Rattle.asn1_types.specs.Trees.{IsWithin}
use Rattle.asn1_syntax.specs.declared.token.Token.{Token}
use Rattle.asn1_syntax.specs.declared.tree.TagNotation.{TagNotation}
use Rattle.asn1_syntax.specs.declared.tree.TypeNotation.{TypeNotation}
use Rattle.asn1_syntax.specs.declared.tree.TypeNotation.TheVariants as trees

one_is_open : {incomplete : Bool} (words : List Token) → 1 ≤ length words → length words < 2 → IsOpenType incomplete words notations.Any
one_is_open [] low high = absurd (omega (arith, low))
one_is_open (a ∷ []) low high = parameter refl refl
one_is_open (a ∷ b ∷ more) low high = absurd (omega (arith, high))

-- one word is left open
pub as_parameter : {incomplete : Bool} (given words : List Token) → given ≡ words → 1 ≤ length given → length given < 2 →
    IsOpenType incomplete words notations.Any
as_parameter {incomplete} given words same low high = subst (λ (ws : List Token). IsOpenType incomplete ws notations.Any) same (one_is_open given low high)

one_is_missing : {incomplete : Bool} (words : List Token) → incomplete ≡ true → 1 ≤ length words → length words < 2 →
    IsOpenType incomplete words notations.Missing
one_is_missing [] is low high = absurd (omega (arith, low))
one_is_missing (a ∷ []) is low high = no_type is refl refl
one_is_missing (a ∷ b ∷ more) is low high = absurd (omega (arith, high))

-- one word is the name of a type that no module gives
pub as_missing : {incomplete : Bool} (given words : List Token) → incomplete ≡ true → given ≡ words → 1 ≤ length given → length given < 2 →
    IsOpenType incomplete words notations.Missing
as_missing {incomplete} given words is same low high =
    subst (λ (ws : List Token). IsOpenType incomplete ws notations.Missing) same (one_is_missing given is low high)

-- whether modules may be absent stays
pub still_incomplete : {a b : Resolver} → IsUnchanged a b → a.is_incomplete ≡ true → b.is_incomplete ≡ true
still_incomplete same is = ap (λ (k : Context). k.is_incomplete) same.context ∙ is

-- words with `&` name a field
pub as_field : {incomplete : Bool} (given words : List Token) (found : Bool) {n : Notation} → given ≡ words →
    found ≡ list_any (has_text (codes "&")) given → found ≡ true → IsOfField n → IsOpenType incomplete words n
as_field given words found same is there of =
    field (subst (λ (ws : List Token). list_any (has_text (codes "&")) ws ≡ true) same (sym is ∙ there)) of

pub elements_same : {n : Notation} {set sequence : Bool} {a b : Bool} → n ≡ elements_by set sequence → set ≡ a → sequence ≡ b → n ≡ elements_by a b
elements_same {n} {sequence = sequence} {a = a} is first second =
    subst (λ (x : Bool). n ≡ elements_by a x) second (subst (λ (x : Bool). n ≡ elements_by x sequence) first is)

-- the elements of a type within another one
pub as_elements : {t u : TypeNotation} {n : Notation} → IsWithin t u → HasElements u n → IsElementsOf t n
as_elements {u = u} within has = record { inner = u; within = within; has = has }

-- elements under the tag that is written before a type
pub as_under_tag : (t : TypeNotation) {tag : TagNotation} {inner : Box TypeNotation} {class : TagClass} (r : Result Notation Stop) →
    t ≡ trees.Tagged tag inner → class ≡ class_written tag.class → IfOk r (IsUnderLayer class) → IfOk r (IsAsItCame t)
as_under_tag t {tag = tag} {class = class} (Ok n) is same under = under_its_tag is (subst (λ (x : TagClass). IsUnderLayer x n) same under)
as_under_tag t (Err e) is same under = tt
