use Rattle.std.proofs.Common.{◌≡◌, ◌≤◌, ◌/◌, ◌%◌, ◌<◌, ◌∙◌, length, sym, ap, refl, arith}
use Rattle.std.specs.Prelude.{slice_get, Some}
use Rattle.std.proofs.lemmas.Bool.Decides.{nat_tests}
use Rattle.std.proofs.lemmas.Option.{slice_get_past, slice_get_read}
use Rattle.yasna_writer.proofs.Blocks.{slot_in_block, slot_in_none}
use Rattle.yasna_writer.proofs.slots.get_in.Goals as goal

pub returns-in_err-block : goal.returns-in_err-block
returns-in_err-block c =
    let full = c.args.full.now in
    let past : length full ≤ c.args.index / 4096 = grind (arith, nat_tests, (c.in_err-block.ensures {u = tt}).lookup) in
    c.from_residual.ensures ∙ sym (slot_in_none full c.args.index c.requires (slice_get_past full (c.args.index / 4096) past))

pub returns : goal.returns
returns c =
    let full = c.args.full.now in
    let b = c.in_ok-block.block.now in
    let look = (c.in_ok-block.ensures {u = tt}).lookup in
    let within : c.args.index / 4096 < length full = grind (arith, nat_tests, look) in
    let there : slice_get full (c.args.index / 4096) ≡ Some b = slice_get_read full (length full) (c.args.index / 4096) b refl within look.1 in
    c.get_of.ensures ∙ ap (λ xs. slice_get xs (c.args.index % 4096)) c.deref.ensures.value ∙ sym (slot_in_block full c.args.index b c.requires there)
