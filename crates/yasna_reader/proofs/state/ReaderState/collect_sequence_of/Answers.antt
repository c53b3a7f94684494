use Rattle.std.proofs.Common.{rules, refl}
use Rattle.yasna_base.specs.Sequence.{sequence_tag}
use Rattle.yasna_reader.specs.declared.set_of.Order.TheVariants.{Any}
use Rattle.yasna_reader.proofs.ListTurns.{collects_any, takes_in_order}
use Rattle.yasna_reader.proofs.state.ReaderState.collect_sequence_of.Goals as goal

pub collect_list-requires : goal.collect_list-requires
collect_list-requires g c κs = ((refl, tt), takes_in_order Any g.F.FnMut c.args.f sequence_tag c.args.self.now c.requires)

pub returns : goal.returns
returns g c = search (rules, collects_any)
