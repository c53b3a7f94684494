use Rattle.std.proofs.Common.{◌≡◌, rules, inr, [], sym, subst}
use Rattle.std.specs.List.{AllByRecursion}
use Rattle.yasna_base.specs.declared.error.ASN1ErrorKind.TheVariants.{Invalid}
use Rattle.yasna_base.specs.Error.{kind_of}
use Rattle.yasna_writer.proofs.Sets.{not_set_of, set_of_contents, is_not}
use Rattle.yasna_writer.proofs.set.DERWriterSet.into_set_of.Goals as goal

pub returns-then-not-are_non_empty : goal.returns-then-not-are_non_empty
returns-then-not-are_non_empty c =
    let taken = c.in_ok-parts.ensures in
    let kind : kind_of c.new.result ≡ Invalid = search rules in
    inr (
      taken.0,
      inr (
        kind,
        not_set_of _ _ taken.1 (λ all. is_not c.are_non_empty.result c.if-not-are_non_empty.true
            (c.are_non_empty.ensures.1 (subst (λ z. AllByRecursion (λ v. v.items ≡ [] → ⊥) z) (sym c.deref.ensures.value) all))),
      ),
    )

pub returns : goal.returns
returns c =
    let taken = c.in_ok-parts.ensures in
    let all = subst (λ z. AllByRecursion (λ v. v.items ≡ [] → ⊥) z) c.deref.ensures.value
    (c.are_non_empty.ensures.0 c.if-not-are_non_empty.false) in
    (taken.0, set_of_contents c.in_ok-parts.parts.items _ taken.1 all)
