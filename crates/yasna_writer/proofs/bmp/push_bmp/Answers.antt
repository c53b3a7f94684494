use Rattle.std.proofs.Common.{length, arith}
use Rattle.std.proofs.lemmas.Iterator.{YieldsList-from_chars}
use Rattle.std.proofs.lemmas.Iterator.Consumers.{YieldsList-turn, YieldsList-end}
use Rattle.std.proofs.lemmas.List.{length_push}
use Rattle.std.specs.Str.{chars}
use Rattle.yasna_writer.proofs.Bmps.{appended_character, appended_all}
use Rattle.yasna_writer.proofs.bmp.push_bmp.Goals as goal

pub loop-c-preserved : goal.loop-c-preserved
loop-c-preserved c =
    let text = c.args.string.now in
    let i = c.loop-c.invariant in
    let t = YieldsList-turn (YieldsList-from_chars text c.utf8.string cc) c.loop-c.yielded _ c.loop-c.yielded_by _ _ c.in-Some.c c.in-Some.is
    c.next.ensures.steps in
    rw (length_push c.loop-c.yielded c.in-Some.c) (
      appended_character _ _ _ (chars text) _ c.in-Some.c t (c.in_ok-push_character.ensures {u = tt}).items i.0,
      omega (arith, i.1, (c.in_ok-push_character.ensures {u = tt}).grows),
    )

pub returns-clause-items : goal.returns-clause-items
returns-clause-items c =
    let text = c.args.string.now in
    let t = YieldsList-end (YieldsList-from_chars text c.utf8.string cc) c.loop-c.yielded _ c.loop-c.yielded_by _ _ c.in-None.is c.next.ensures.steps in
    appended_all _ _ (chars text) (length c.loop-c.yielded) (omega (arith, t.1)) c.loop-c.invariant.0
