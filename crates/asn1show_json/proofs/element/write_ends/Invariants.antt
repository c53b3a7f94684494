use Rattle.std.proofs.Common.{◌≡◌, ◌++◌}
use Rattle.asn1show_json.specs.Json.{end_tokens}
use Rattle.asn1show_json.proofs.element.write_ends.Given as goal

-- what is written, and the ends that are left, are all
abbrev pub invariant-loop-left : goal.invariant-loop-left
invariant-loop-left l = (l.json.before ≡ l.initial.json.before) × (l.json.tokens ++ end_tokens l.left ≡ l.initial.json.tokens ++ end_tokens l.ends)

abbrev pub decreases-loop-left : goal.decreases-loop-left
decreases-loop-left l = l.left
