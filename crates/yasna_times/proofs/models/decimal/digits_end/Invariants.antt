use Rattle.std.proofs.Common.{◌-◌, ◌≤◌, length}
use Rattle.yasna_times.specs.Decimal.{HasDigits}
use Rattle.yasna_times.proofs.models.decimal.digits_end.Given as goal

-- all before are digits
abbrev pub invariant-loop-end : goal.invariant-loop-end
invariant-loop-end l =
    record {
      order : l.from ≤ l.end;
      inside : l.end ≤ length l.bytes;
      digits : HasDigits l.bytes l.from l.end;
    }

abbrev pub decreases-loop-end : goal.decreases-loop-end
decreases-loop-end l = length l.bytes - l.end
