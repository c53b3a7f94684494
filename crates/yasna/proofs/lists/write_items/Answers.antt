use Rattle.std.proofs.Common.{◌≡◌, Ok, subst, rules}
use Rattle.std.proofs.lemmas.List.{take_all}
use Rattle.yasna_base.specs.SequenceOf.{elements_encoding}
use Rattle.yasna_writer.specs.View.{Written, WroteParts}
use Rattle.yasna_writer.proofs.PartByPart.{one_more}
use Rattle.yasna.proofs.lists.write_items.Goals as goal

pub loop-item-preserved : goal.loop-item-preserved
loop-item-preserved g c =
    let wrote : c.encode_der.result ≡ Ok tt = search rules in
    one_more (λ u. g.T.DEREncodable.encoding) c.args.items.now c.loop-item.item-index c.item-item.result c.args.seq.now c.loop-item.seq
    c.next.result.now c.encode_der.new.writer c.encode_der.result c.loop-item.invariant c.next.ensures.value c.encode_der.ensures
    c.loop-item-test.true c.item-item.is tt wrote (search rules) (search rules) (search rules)

pub returns : goal.returns
returns g c =
    let old : Written = c.args.seq.now in
    subst (λ vs. WroteParts (elements_encoding g.T.DEREncodable.encoding old.mode vs) old c.loop-item.seq (Ok tt))
    (take_all c.loop-item.item-index c.args.items.now c.loop-item-test.false) c.loop-item.invariant
