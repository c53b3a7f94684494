use Rattle.std.proofs.Common.{◌∙◌, subst, ◌^◌, ◌<◌, ℕ, List, rules}
use Rattle.std.specs.List.{AllByRecursion}
use Rattle.yasna_base.proofs.OidText.{read_again}
use Rattle.yasna_base.proofs.laws.oid_is_read_again.Goals as goal

pub returns-in-Ok : goal.returns-in-Ok
returns-in-Ok c =
    let small = subst (λ (ks : List ℕ). AllByRecursion (λ n. n < 2 ^ 64) ks) (c.deref.ensures.value ∙ c.components.ensures) c.are_small.ensures in
    read_again c.args.oid.now c.deref-in-Ok.result.now c.from_str.result c.requires small
    (c.deref-in-Ok.ensures ∙ (c.in-Ok.ensures {u = tt}).ok) c.from_str.ensures.exact

pub returns-in-Err : goal.returns-in-Err
returns-in-Err c = search rules
