use Rattle.message_modules.proofs.Adding.{no_file_yet, one_file_more}
use Rattle.message_modules.proofs.modules_of.Goals as goal

pub loop-lines-init : goal.loop-lines-init
loop-lines-init c = no_file_yet c.new-all.ensures.items

pub loop-lines-preserved : goal.loop-lines-preserved
loop-lines-preserved c = one_file_more c.args.files.now c.loop-lines.lines-index _ c.loop-lines-test.true c.loop-lines.invariant c.in_ok-source.ensures
    c.in_ok-add_modules.ensures
