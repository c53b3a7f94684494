use Rattle.std.proofs.Common.{arith}
use Rattle.yasna_base.specs.BigInteger.{IsBigInteger}
use Rattle.yasna_base.specs.Integer.{integer_tag}
use Rattle.yasna_base.specs.Element.{Primitively}
use Rattle.yasna_bytes.specs.Contents.{big_integer_in}
use Rattle.yasna_reader.specs.Primitive.{NoLevel}
use Rattle.yasna_base.proofs.Identifier.{not_end}
use Rattle.yasna_notation.proofs.OneTag.{allocating_read}
use Rattle.yasna_notation.proofs.simple.BigIntegerNotation.read.Goals as goal

pub returns : goal.returns
returns c =
    allocating_read (Primitively IsBigInteger) big_integer_in NoLevel integer_tag (not_end 2 (λ e. omega arith)) (λ t n m s d. d.1) c.args.reader.now
    c.read_bigint_bytes.result c.read_bigint_bytes.new.self c.read_bigint_bytes.ensures
