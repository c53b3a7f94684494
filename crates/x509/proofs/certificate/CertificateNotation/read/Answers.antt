use Rattle.yasna_notation.proofs.Represented.{read_for, failed_for}
use Rattle.x509.specs.contracts.certificate.CertificateRepresentsFields.TheImpl.{ghosts as fields}
use Rattle.x509.proofs.certificate.CertificateNotation.read.Goals as goal

pub returns : goal.returns
returns c =
    read_for fields.value_of _ _ _ _ _ _ c.args.reader.now c.from_value.result c.in-Ok.fields c.read.result c.read.new.reader c.in-Ok.is
    c.from_value.ensures c.read.ensures

pub returns-in-Err : goal.returns-in-Err
returns-in-Err c =
    failed_for fields.value_of _ _ _ _ _ _ c.args.reader.now c.in-Err.error c.read.result c.read.new.reader c.in-Err.is c.read.ensures
