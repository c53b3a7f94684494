use Rattle.std.proofs.Common.{refl, true}
use Rattle.asn1_types.proofs.components.push_part.Goals as goal

pub returns-clause-part : goal.returns-clause-part
returns-clause-part c = record {
  part = record {
    «module» = c.args.«module»;
    name = c.args.name;
    notation = c.args.notation;
    presence = c.args.presence;
    is_addition = c.are_additions-is_addition.result;
    is_own = true;
  };
  is = record {
    «module» = refl;
    name_is = refl;
    notation = refl;
    presence_is = refl;
    is_addition = c.are_additions-is_addition.ensures;
    is_own = refl;
  };
  items = c.in_ok-push.ensures.items;
}
