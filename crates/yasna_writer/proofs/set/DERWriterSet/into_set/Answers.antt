use Rattle.std.proofs.Common.{subst}
use Rattle.yasna_writer.specs.Parts.{parts_of}
use Rattle.yasna_writer.specs.Set.{AreTagged}
use Rattle.yasna_writer.proofs.SetParts.{set_contents}
use Rattle.yasna_writer.proofs.set.DERWriterSet.into_set.Goals as goal

pub returns-in-Ok : goal.returns-in-Ok
returns-in-Ok c =
    let taken = c.in_ok-into_parts.ensures in
    let tagged = c.in_ok-parts.parts.items in
    (taken.0, set_contents _ tagged _ (subst (λ ps. AreTagged ps (parts_of tagged)) taken.1 c.in_ok-parts.ensures) (c.in-Ok.ensures {u = tt}))
