use Rattle.yasna_base.specs.Octets.{IsDeepOctets}
use Rattle.yasna_base.specs.Text.{IsStringOf}
use Rattle.yasna_bytes.specs.Contents.{MayAllocate}
use Rattle.yasna_reader.proofs.Primitives.{at_view}
use Rattle.yasna_reader.proofs.state.ReaderState.judged.Goals as goal

pub returns : goal.returns
returns g c = at_view (IsStringOf (g.J.Judge.encodes c.args.judge)) g.J.Judge.view IsDeepOctets MayAllocate c.args.tag c.expected.result _ c.args.self.now
    c.string_of.result c.self.view_is c.expected.ensures c.string_of.ensures
