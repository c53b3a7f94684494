use Rattle.std.proofs.Common.{Vec, ℕ}
use Rattle.std.specs.Global.{Global}
use Rattle.yasna_base.specs.Octets.{IsOctets, IsDeepOctets}
use Rattle.yasna_bytes.specs.Contents.{MayAllocate}
use Rattle.yasna_reader.proofs.Primitives.{at_view}
use Rattle.yasna_reader.proofs.state.ReaderState.octets.Goals as goal

pub returns : goal.returns
returns c = at_view IsOctets (λ (v : Vec ℕ Global). v.items) IsDeepOctets MayAllocate c.args.tag c.expected.result _ c.args.self.now
    c.octet_string.result c.self.view_is c.expected.ensures c.octet_string.ensures
