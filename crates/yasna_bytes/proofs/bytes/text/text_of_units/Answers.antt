use Rattle.std.proofs.Common.{arith, ◌≡◌, ◌++◌, sym, subst, append-nil, ◌∙◌, string_bytes}
use Rattle.std.specs.Char.Utf16.{utf16_lossy_chars, utf16_chars}
use Rattle.std.specs.Str.{encode_utf8_all}
use Rattle.yasna_base.specs.Text.{units}
use Rattle.yasna_bytes.proofs.Text.{units_none}
use Rattle.yasna_bytes.proofs.bytes.text.text_of_units.Goals as goal

pub returns : goal.returns
unfolding utf16_chars
returns c =
    let none = units_none c.loop-rest.rest.now (omega (arith, c.in_default.len_below)) in
    let written = string_bytes c.loop-rest.text in
    let whole = encode_utf8_all (utf16_lossy_chars (units c.args.octets.now)) in
    sym (append-nil written) ∙ subst (λ us. written ++ encode_utf8_all (utf16_lossy_chars us) ≡ whole) none c.loop-rest.invariant
