use Rattle.std.proofs.Common.{refl}
use Rattle.asn1_types.proofs.Adding.{continues_value}
use Rattle.asn1_types.proofs.types.declared.Goals as goal

pub returns : goal.returns
returns c = continues_value c.take_looser-looser.ensures c.requires.assigned c.requires.place c.add_definition.ensures.assignment
    c.in_ok-index.ensures.added c.args.notation c.new-tags.ensures.items refl c.requires.notation
