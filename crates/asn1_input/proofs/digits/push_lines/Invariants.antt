use Rattle.std.proofs.Common.{◌≡◌, ◌++◌, drop}
use Rattle.std.specs.List.{concat}
use Rattle.asn1_input.specs.Reader.{texts}
use Rattle.asn1_input.specs.Text.{base64_of_text}
use Rattle.asn1_input.proofs.digits.push_lines.Given as goal

-- what is taken, and the lines that are left, are all
abbrev pub invariant-loop-line : goal.invariant-loop-line
invariant-loop-line l =
    l.digits.items ++ base64_of_text (concat (texts (drop l.line-index l.lines))) ≡ l.initial.digits.items ++ base64_of_text (concat (texts l.lines))
