use Rattle.std.proofs.Common.{refl}
use Rattle.yasna_reader.specs.declared.set_of.Order.TheVariants.{Any}
use Rattle.yasna_reader.specs.State.{part_of}
use Rattle.yasna_reader.proofs.ListTurns.{turns_in_order}
use Rattle.yasna_reader.proofs.sequence_of.PartsReader+ReaderState.collect_rest.Goals as goal

pub collect-requires : goal.collect-requires
collect-requires g c κs = ((refl, tt), (c.requires.fresh, turns_in_order Any g.F.FnMut c.args.f (part_of c.args.self.now) c.requires.turns))
