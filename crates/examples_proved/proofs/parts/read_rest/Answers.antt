use Rattle.std.proofs.Common.{Ok, rules}
use Rattle.examples_proved.proofs.parts.read_rest.Goals as goal

pub returns-in_err-kind : goal.returns-in_err-kind
returns-in_err-kind c = (Ok c.in_ok-serial.serial, c.decode_ber.new.reader, search rules, search rules)

pub returns-in_err-marks : goal.returns-in_err-marks
returns-in_err-marks c =
    (Ok c.in_ok-serial.serial, c.decode_ber.new.reader, search rules, (Ok c.in_ok-kind.kind, c.read_kind.new.reader, search rules, search rules))

pub returns : goal.returns
returns c =
    (Ok c.in_ok-serial.serial, c.decode_ber.new.reader, search rules, (Ok c.in_ok-kind.kind, c.read_kind.new.reader, search rules, search rules))
