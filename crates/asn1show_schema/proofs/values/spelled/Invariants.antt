use Rattle.std.proofs.Common.{◌≡◌, take}
use Rattle.asn1show_schema.specs.Values.{spelled_number}
use Rattle.asn1show_schema.proofs.values.spelled.Given as goal

abbrev pub invariant-loop-octet : goal.invariant-loop-octet
invariant-loop-octet l = l.sum ≡ spelled_number l.is_negative (take l.octet-index l.octets)
