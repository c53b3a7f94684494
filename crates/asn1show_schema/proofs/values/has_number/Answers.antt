use Rattle.std.proofs.Common.{sym, ◌∙◌}
use Rattle.asn1show_schema.proofs.Numbers.{truth_exactly}
use Rattle.asn1show_schema.proofs.values.has_number.Goals as goal

pub returns-in-len1 : goal.returns-in-len1
returns-in-len1 c =
    let h = c.has_truth.ensures in
    let same = truth_exactly c.args.value c.args.contents.now c.args.number (sym c.universal_number.ensures ∙ c.if-universal_number-eq1.true) c.in-len1.len_at_least c.in-len1.len_below in
    (λ t. same.0 (h.0 t), λ x. h.1 (same.1 x))
