use Rattle.std.proofs.Common.{arith, sym, subst}
use Rattle.std.proofs.lemmas.Grind.{common_steps}
use Rattle.std.proofs.lemmas.Str.{IsUtf8-from_ascii}
use Rattle.std.specs.Str.{IsUtf8}
use Rattle.yasna_times.proofs.UtcTime.{utc_text_ascii}
use Rattle.yasna_times.proofs.models.utc_time.UTCTime.to_string.Goals as goal

pub unwrap-requires : goal.unwrap-requires
unwrap-requires c =
    let utf8 : IsUtf8 c.text.result = subst IsUtf8 (sym c.text.ensures) (IsUtf8-from_ascii _ (utc_text_ascii c.args.self.now.datetime)) in
    grind (arith, common_steps, utf8, c.from_utf8.ensures.cases)
