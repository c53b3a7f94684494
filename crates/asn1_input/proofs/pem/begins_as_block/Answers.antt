use Rattle.asn1_input.specs.Blocks.{begin_boundary, unindented}
use Rattle.asn1_input.proofs.Boundaries.{prefix_tested}
use Rattle.asn1_input.proofs.pem.begins_as_block.Goals as goal

pub returns : goal.returns
returns c = prefix_tested (unindented c.args.line.now) c.unindented.result.now begin_boundary c.starts_with.result c.unindented.ensures c.starts_with.ensures.value
