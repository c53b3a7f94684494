use Rattle.std.proofs.Common.{◌≡◌, true, arith, inl, refl, rules}
use Rattle.std.proofs.KnownBytes.{Keeps-refl}
use Rattle.std.specs.Io.KnownBytes.{IsAtEnd}
use Rattle.yasna_tool_run.proofs.Errors.{when_io_error, when_rejected}
use Rattle.yasna_tool_run.proofs.Statuses.{clauses_done, clauses_usage, clauses_io_error}
use Rattle.yasna_tool_run.proofs.tool.tool.Goals as goal

pub returns-in-Ok : goal.returns-in-Ok
returns-in-Ok g c =
    let ran = c.in-Ok.ensures {u = tt} in
    clauses_done {E = IsAtEnd (g.R.Source.remaining c.run_kind.new.reader)} {F = g.W.Sink.flushed c.run_kind.new.writer ≡ true}
    ran.to_the_end ran.flushed (c.in-Some.mode, c.in-Some.kind, c.in-Some.ensures {u = tt}, ran.recoded)
    (c.in-Some.mode, c.in-Some.kind, c.in-Some.ensures {u = tt}) c.run_kind.ensures.failed_read

pub returns-in_default : goal.returns-in_default
returns-in_default g c =
    clauses_usage c.report_usage.ensures (c.in_default.ensures {u = tt}) (refl, refl) (λ _. Keeps-refl (g.W.Sink.contents c.args.writer.now))

pub returns-in-Err-Device : goal.returns-in-Err-Device
returns-in-Err-Device g c =
    clauses_io_error c.report_io_error.ensures (c.in-Some.mode, c.in-Some.kind, c.in-Some.ensures {u = tt})
    (when_io_error _ _ c.in-Err-Device.is c.in-Err-Device.field-0-is c.run_kind.ensures.io_error) c.run_kind.ensures.failed_read

pub returns-in-Err-Refused-clause-rejected : goal.returns-in-Err-Refused-clause-rejected
returns-in-Err-Refused-clause-rejected g c =
    λ _. when_rejected _ _ c.in-Err-Refused.is c.in-Err-Refused.field-0-is c.run_kind.ensures.rejected

pub returns-in-Err-Refused-clause-taken : goal.returns-in-Err-Refused-clause-taken
returns-in-Err-Refused-clause-taken g c = inl (c.in-Some.mode, c.in-Some.kind, c.in-Some.ensures {u = tt})

pub returns-in-Err-Refused-clause-ok : goal.returns-in-Err-Refused-clause-ok
returns-in-Err-Refused-clause-ok g c = λ h. absurd (grind arith)

pub returns-in-Err-Refused-clause-recoded : goal.returns-in-Err-Refused-clause-recoded
returns-in-Err-Refused-clause-recoded g c = λ h. absurd (grind arith)

pub returns-in-Err-Refused-clause-io_error : goal.returns-in-Err-Refused-clause-io_error
returns-in-Err-Refused-clause-io_error g c = λ h. absurd (grind arith)

pub returns-in-Err-Refused-clause-not_taken : goal.returns-in-Err-Refused-clause-not_taken
returns-in-Err-Refused-clause-not_taken g c = search rules

pub returns-in-Err-Refused-clause-usage : goal.returns-in-Err-Refused-clause-usage
returns-in-Err-Refused-clause-usage g c = λ h. absurd (grind arith)
