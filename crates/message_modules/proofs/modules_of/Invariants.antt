use Rattle.std.proofs.Common.{take}
use Rattle.message_modules.specs.Sources.{AreModulesOf}
use Rattle.message_modules.proofs.modules_of.Given as goal

abbrev pub invariant-loop-lines : goal.invariant-loop-lines
invariant-loop-lines l = AreModulesOf (take l.lines-index l.files) l.all.items
