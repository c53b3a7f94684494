use Rattle.std.proofs.Common.{subst}
use Rattle.yasna_notation.specs.Notation.{ReadsMeaning}
use Rattle.ldap.specs.Filters.{whole}
use Rattle.ldap.proofs.FilterReading.{made_read, made_not_read}
use Rattle.ldap.proofs.filter_reading.+fn-read_filter-read_parted+read_filter.Goals as goal

pub returns-in-Ok : goal.returns-in-Ok
returns-in-Ok t c =
    let s = c.args.reader.now in
    let left = c.read_parted.new.reader in
    made_read s c.from_parts.result c.in-Ok.parts left c.from_parts.ensures (subst (λ r. ReadsMeaning whole s r left) c.in-Ok.is c.read_parted.ensures)

pub returns-in-Err : goal.returns-in-Err
returns-in-Err t c =
    let s = c.args.reader.now in
    let left = c.read_parted.new.reader in
    made_not_read s c.in-Err.error left (subst (λ r. ReadsMeaning whole s r left) c.in-Err.is c.read_parted.ensures)
