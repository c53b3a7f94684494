-- What `Counted` holds.
use Rattle.std.specs.Prelude.{ℕ, Bool, is_some}
use Rattle.yasna_tool_run.specs.declared.ends.Counted.{Counted}

-- the reader or writer
abbrev pub end_of : {E : Type 0} → Counted E → E
end_of c = c.end

-- how often it failed
abbrev pub failure_count : {E : Type 0} → Counted E → ℕ
failure_count c = c.failures

-- whether a flush reached it since the last write
abbrev pub is_flushed : {E : Type 0} → Counted E → Bool
is_flushed c = is_some c.flushed
