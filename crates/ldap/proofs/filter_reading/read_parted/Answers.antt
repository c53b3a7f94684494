use Rattle.yasna_notation.proofs.Found.{choice_read, choice_not_read}
use Rattle.ldap.proofs.FilterReading.{whole_coding}
use Rattle.ldap.proofs.filter_reading.read_parted.Goals as goal

pub returns-in-Ok : goal.returns-in-Ok
returns-in-Ok g c =
    choice_read c.args.reader.now c.in-Ok.tag c.lookahead_tag.result c.read_found.result c.read_found.new.reader c.lookahead_tag.ensures c.in-Ok.is
    c.read_found.ensures

pub returns-in-Err : goal.returns-in-Err
returns-in-Err g c =
    choice_not_read c.args.reader.now whole_coding c.in-Err.error c.lookahead_tag.result c.lookahead_tag.ensures c.in-Err.is
