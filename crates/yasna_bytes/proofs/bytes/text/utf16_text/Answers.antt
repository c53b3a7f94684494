use Rattle.std.proofs.Common.{rules, ◌≡◌, [], length, sym}
use Rattle.std.specs.Char.Utf16.{utf16_chars}
use Rattle.yasna_base.proofs.Lists.{empty_is}
use Rattle.yasna_bytes.proofs.Text.{made_of}
use Rattle.yasna_bytes.proofs.bytes.text.utf16_text.Goals as goal

pub returns-then-is_empty : goal.returns-then-is_empty
unfolding utf16_chars
returns-then-is_empty c =
    let l : length c.args.octets.now ≡ 0 = search rules in
    rw (empty_is c.args.octets.now l) (sym (made_of c.new.result [] c.new.ensures.bytes))

pub returns-in-Ok : goal.returns-in-Ok
returns-in-Ok c = sym (made_of c.in-Ok.text _ (c.in-Ok.ensures {u = tt}))
