use Rattle.std.proofs.Common.{rules, subst}
use Rattle.std.specs.Prelude.{IsTrue}
use Rattle.std.proofs.lemmas.Fn.{always_returns_same}
use Rattle.std.specs.Ordering.{is_lt}
use Rattle.yasna_base.specs.Order.{octets_cmp}
use Rattle.asn1show_names.specs.Names.{IsSorted, Row}
use Rattle.asn1show_names.proofs.Sorted.{decides}
use Rattle.asn1show_names.proofs.names.Names.is_sorted.Goals as goal

pub returns : goal.returns
returns c =
    subst (λ rows. (IsTrue c.is_sorted_by.result → IsSorted rows) × (IsSorted rows → IsTrue c.is_sorted_by.result)) c.deref.ensures.value
    (decides _ c.is_sorted_by.result
    (c.is_sorted_by.ensures.cases (λ (x y : Row). is_lt (octets_cmp x.0.now y.0.now)) (always_returns_same _ _ _ (λ a r f' k. search rules))))
