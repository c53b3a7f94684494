use Rattle.yasna_times.proofs.GeneralizedTime.{general_text_is}
use Rattle.yasna_times.proofs.GeneralText.{general_ranges, general_text_spells}
use Rattle.yasna_times.proofs.UtcTime.{utc_text_is, utc_text_spells}
use Rattle.yasna_times.proofs.laws.texts_of_times.Goals as goal

pub returns-clause-utc : goal.returns-clause-utc
returns-clause-utc c = record { one = utc_text_is; canonical = utc_text_spells }

pub returns-clause-general : goal.returns-clause-general
returns-clause-general c = record { one = general_text_is; ranges = general_ranges; canonical = general_text_spells }
