use Rattle.std.proofs.Common.{refl}
use Rattle.yasna_base.specs.Sequence.{sequence_tag}
use Rattle.yasna_reader.specs.declared.set_of.Order.TheVariants.{Any}
use Rattle.yasna_reader.proofs.ListTurns.{takes_in_order}
use Rattle.yasna_reader.proofs.state.ReaderState.read_sequence_of.Goals as goal

pub read_list-requires : goal.read_list-requires
read_list-requires g c κs = ((refl, tt), takes_in_order Any g.F.FnMut c.args.f sequence_tag c.args.self.now c.requires)
