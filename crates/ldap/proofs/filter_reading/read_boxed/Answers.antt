use Rattle.std.proofs.Common.{subst}
use Rattle.yasna_notation.specs.Notation.{ReadsMeaning}
use Rattle.ldap.specs.Filters.{the_filter}
use Rattle.ldap.proofs.FilterReading.{boxed_read, boxed_not_read}
use Rattle.ldap.proofs.filter_reading.read_boxed.Goals as goal

pub returns-in-Ok : goal.returns-in-Ok
returns-in-Ok g c =
    let s = c.args.reader.now in
    let left = c.read.new.arg2 in
    let h = c.requires.reads _ _ _ _ c.read.result c.read.ensures in
    boxed_read s c.in-Ok.filter left c.boxed.result c.boxed.ensures (subst (λ r. ReadsMeaning the_filter s r left) c.in-Ok.is h)

pub returns : goal.returns
returns g c =
    let s = c.args.reader.now in
    let left = c.read.new.arg2 in
    let h = c.requires.reads _ _ _ _ c.read.result c.read.ensures in
    boxed_not_read s c.in-Err.error left (subst (λ r. ReadsMeaning the_filter s r left) c.in-Err.is h)
