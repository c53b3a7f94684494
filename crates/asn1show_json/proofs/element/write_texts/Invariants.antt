use Rattle.std.proofs.Common.{◌≡◌, ◌++◌, ℕ, List, length}
use Rattle.std.specs.Prelude.{map}
use Rattle.json.specs.Token.{string}
use Rattle.asn1show_json.proofs.element.write_texts.Given as goal

-- as many texts are written as diagnostics were taken
abbrev pub invariant-loop-diagnostic : goal.invariant-loop-diagnostic
invariant-loop-diagnostic l =
    (l.json.before ≡ l.initial.json.before) × (texts : List (List ℕ)) × (length texts ≡ l.diagnostic-index)
    × (l.json.tokens ≡ l.initial.json.tokens ++ map string texts)
