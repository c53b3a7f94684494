use Rattle.yasna_times.specs.GeneralizedTime.{IsZone}
use Rattle.yasna_times.specs.Zone.{seconds_of}
use Rattle.yasna_base.proofs.Options.{option_weaker}
use Rattle.yasna_times.proofs.Zone.{no_amount_zone, no_sign_zone}
use Rattle.yasna_times.proofs.models.zone.zone.Goals as goal

pub returns-in_default : goal.returns-in_default
returns-in_default c =
    no_amount_zone c.args.bytes.now (seconds_of c.args.given) c.args.at c.if-at-bytes.false (λ a. let e = c.if-is_zulu.ensures.1 a in cc) c.in_default.ensures

pub returns : goal.returns
returns c =
    option_weaker c.signed.result _ _ _ _
    (no_sign_zone c.args.bytes.now (seconds_of c.args.given) c.args.at c.in-Some.seconds c.if-at-bytes.false
    (λ a. let e = c.if-is_zulu.ensures.1 a in cc) c.in-Some.ensures.0)
    (λ o s. IsZone.signed c.in-Some.seconds c.in-Some.ensures.0 s)
    c.signed.ensures
