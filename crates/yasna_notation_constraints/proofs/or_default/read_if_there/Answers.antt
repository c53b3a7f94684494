use Rattle.std.proofs.Common.{rules}
use Rattle.yasna_reader.specs.State.{part_of}
use Rattle.yasna_notation.proofs.Contents.{optional_called}
use Rattle.yasna_notation_constraints.proofs.or_default.read_if_there.Goals as goal

pub returns : goal.returns
returns g c =
    optional_called _ _ g.P.PartReader.reads (part_of c.args.seq.now) c.read_optional.result (part_of c.read_optional.new.self) c.read_optional.ensures
    (λ p q x h. search rules)
