use Rattle.std.proofs.Common.{◌/◌, ◌%◌, ◌<◌, length, slice_index_or, refl, arith}
use Rattle.std.specs.Vec.{with_item}
use Rattle.std.proofs.lemmas.Option.{slice_get-get_or}
use Rattle.yasna_writer.proofs.Blocks.{in_blocks_length, block_is_full, put_in_block}
use Rattle.yasna_writer.proofs.slots.set_in.Goals as goal

pub bounds-full-index : goal.bounds-full-index
bounds-full-index c = omega (arith, c.requires.within, in_blocks_length c.args.full.now c.requires.full)

pub index_mut-requires : goal.index_mut-requires
index_mut-requires c =
    let k = c.args.index / 4096 in
    let b = slice_index_or c.args.full.now k c.index-full-index.result in
    let within : k < length c.args.full.now = omega (arith, c.requires.within, in_blocks_length c.args.full.now c.requires.full) in
    omega (arith, b.ok.0, block_is_full c.args.full.now k b c.requires.full (slice_get-get_or c.args.full.now k c.index-full-index.result within))

pub returns-clause-full : goal.returns-clause-full
returns-clause-full c =
    let k = c.args.index / 4096 in
    let b = slice_index_or c.args.full.now k c.index-full-index.result in
    let within : k < length c.args.full.now = omega (arith, c.requires.within, in_blocks_length c.args.full.now c.requires.full) in
    (put_in_block c.args.full.now c.args.index b (with_item b (c.args.index % 4096) c.args.slot) c.args.slot c.requires.full c.requires.within
    (slice_get-get_or c.args.full.now k c.index-full-index.result within) refl).1

pub returns-clause-put : goal.returns-clause-put
returns-clause-put c =
    let k = c.args.index / 4096 in
    let b = slice_index_or c.args.full.now k c.index-full-index.result in
    let within : k < length c.args.full.now = omega (arith, c.requires.within, in_blocks_length c.args.full.now c.requires.full) in
    (put_in_block c.args.full.now c.args.index b (with_item b (c.args.index % 4096) c.args.slot) c.args.slot c.requires.full c.requires.within
    (slice_get-get_or c.args.full.now k c.index-full-index.result within) refl).0
