use Rattle.yasna_base.specs.Element.{Primitively}
use Rattle.yasna_reader.specs.Primitive.{NoLevel}
use Rattle.yasna_reader.proofs.Primitives.{at_view}
use Rattle.yasna_reader.proofs.state.ReaderState.parse_primitive.Goals as goal

pub returns : goal.returns
returns g c = at_view (Primitively g.T.Contents.means) g.T.Contents.view NoLevel g.T.Contents.may_allocate c.args.tag c.expected.result _ c.args.self.now c.read_value.result
    c.self.view_is c.expected.ensures c.read_value.ensures
