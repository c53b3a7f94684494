use Rattle.yasna_base.specs.Raw.{IsRaw}
use Rattle.yasna_base.specs.TaggedDerValue.{raw_of}
use Rattle.yasna.proofs.Closures.{raw_by}
use Rattle.yasna_reader.proofs.Sticky.{raw_repeats_error}
use Rattle.yasna.proofs.raw.TaggedDerValueBERDecodable.decode_ber.Goals as goal

pub returns-clause-decodes : goal.returns-clause-decodes
returns-clause-decodes c failed = (raw_by IsRaw raw_of).decodes c.args.reader.now c.read_tagged_der.result c.read_tagged_der.new.self (failed, c.requires)
    c.read_tagged_der.ensures

pub returns-clause-failed : goal.returns-clause-failed
returns-clause-failed c = raw_repeats_error c.read_tagged_der.ensures
