use Rattle.std.proofs.Common.{None, length, ap, ◌∙◌, rules}
use Rattle.std.proofs.lemmas.List.{take_all}
use Rattle.yasna_base.specs.SequenceOf.{elements_encoding}
use Rattle.yasna_writer.proofs.KnownLengths.{items_length_more}
use Rattle.yasna_notation.proofs.lists.items_len.Goals as goal

pub loop-item-preserved : goal.loop-item-preserved
loop-item-preserved g c =
    let more = items_length_more (g.N.Notation.means.encoding_under None c.args.mode) c.args.items.now c.loop-item.item-index c.item-item.result
    c.loop-item-test.true c.item-item.is in
    search (rules, more)

pub returns : goal.returns
returns g c =
    c.loop-item.invariant ∙ ap (λ vs. length (elements_encoding (g.N.Notation.means.encoding_under None) c.args.mode vs))
    (take_all c.loop-item.item-index c.args.items.now c.loop-item-test.false)
