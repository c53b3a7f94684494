use Rattle.yasna_times.specs.UtcTime.{IsUtcZone}
use Rattle.yasna_base.proofs.Options.{option_weaker}
use Rattle.yasna_times.proofs.Zone.{no_utc_zone}
use Rattle.yasna_times.proofs.models.zone.utc_zone.Goals as goal

pub returns : goal.returns
returns c =
    option_weaker c.signed.result _ _ _ _
    (no_utc_zone c.args.bytes.now c.args.at c.in-Some.seconds (λ a. let e = c.if-is_zulu.ensures.1 a in cc) c.in-Some.ensures)
    (λ o s. IsUtcZone.signed c.in-Some.seconds c.in-Some.ensures s)
    c.signed.ensures
