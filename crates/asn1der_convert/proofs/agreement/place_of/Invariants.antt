use Rattle.std.proofs.Common.{◌-◌, length, drop}
use Rattle.asn1der_convert.proofs.Agreements.{NoneHas}
use Rattle.asn1der_convert.proofs.agreement.place_of.Given as goal

abbrev pub invariant-loop-place : goal.invariant-loop-place
invariant-loop-place l = NoneHas l.shape (drop l.place l.all) → NoneHas l.shape l.all

abbrev pub decreases-loop-place : goal.decreases-loop-place
decreases-loop-place l = length l.all - l.place
