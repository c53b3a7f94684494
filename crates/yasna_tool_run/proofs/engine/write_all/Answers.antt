use Rattle.std.proofs.Common.{◌∙◌, arith, rules}
use Rattle.yasna_tool_run.proofs.Writes.{wrote_more}
use Rattle.yasna_tool_run.proofs.engine.write_all.Goals as goal

pub loop-rest-preserved : goal.loop-rest-preserved
loop-rest-preserved g c =
    let inv = c.loop-rest.invariant in (
      wrote_more _ _ _ c.args.bytes.now inv.0.0 c.loop-rest.rest.now c.in-Ok.count inv.0.1 inv.0.2 c.in-Ok.ensures.bytes,
      c.in-Ok.ensures.count.0 (omega (arith, c.in-Ok.count-test.1)) ∙ inv.1,
    )

pub returns-in-Ok-flush-clause-flushed : goal.returns-in-Ok-flush-clause-flushed
returns-in-Ok-flush-clause-flushed g c = search rules
