use Rattle.std.proofs.Common.{◌*◌, ◌+◌, take}
use Rattle.asn1_types.specs.Written.{AreWritten}
use Rattle.asn1_types.proofs.components.+components.Given as goal

abbrev pub decreases-written_parts : goal.decreases-written_parts
decreases-written_parts l = 3 * l.depth + 2

abbrev pub decreases-push_components : goal.decreases-push_components
decreases-push_components l = 3 * l.depth

abbrev pub invariant-written_parts-loop-component : goal.invariant-written_parts-loop-component
invariant-written_parts-loop-component l =
    AreWritten l.scope.modules.now l.scope.known.now l.«module» (take l.component-index l.components) l.written.section l.written.parts.items

abbrev pub decreases-push_component : goal.decreases-push_component
decreases-push_component l = 3 * l.depth + 1
