use Rattle.std.proofs.Common.{◌∙◌, sym, subst}
use Rattle.std.proofs.lemmas.Result.{IfOk-weaker}
use Rattle.yasna_times.specs.UtcTime.{IsUtcText}
use Rattle.yasna_times.proofs.UtcTime.{utc_text_spells}
use Rattle.yasna_times.proofs.models.utc_time.UTCTime.to_bytes.Goals as goal

pub returns-clause-spells : goal.returns-clause-spells
returns-clause-spells c =
    let t = c.args.self.now in
    let spells = utc_text_spells t.datetime t.in_range in
    IfOk-weaker c.from_slice.result _ _ (λ v e. subst (λ s. IsUtcText s t.datetime) (sym (e ∙ c.text.ensures)) spells) c.from_slice.ensures.items
