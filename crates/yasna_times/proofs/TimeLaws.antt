-- Both times satisfy the laws.
use Rattle.std.proofs.Common.{◌≡◌, ◌^◌, ◌<◌, arith}
use Rattle.yasna_times.specs.declared.models.generalized_time.GeneralizedTime.{GeneralizedTime}
use Rattle.yasna_times.specs.declared.models.utc_time.UTCTime.{UTCTime}
use Rattle.yasna_base.specs.declared.tag.Tag.{Tag}
use Rattle.yasna_base.specs.Canonical.{Always, IsWritten}
use Rattle.yasna_base.specs.Coding.{IsCoding, Any}
use Rattle.yasna_times.specs.GeneralizedTime.{IsGeneralMoment, SpellsGeneralizedTime, EncodesGeneralizedTime, GeneralizedTimeKeepsLaws, general_text}
use Rattle.yasna_times.specs.GeneralizedTime.{generalized_time_encoding, generalized_time_depth, generalized_time_tag}
use Rattle.yasna_times.specs.Models.{utc_of, moment_of, EncodesUtc, EncodesGeneral}
use Rattle.yasna_base.specs.Text.{IsStringOf}
use Rattle.yasna_times.specs.UtcTime.{IsUtcDateTime, SpellsUtcTime, EncodesUtcTime, UtcTimeKeepsLaws, utc_text, utc_time_encoding, utc_time_depth, utc_time_tag}
use Rattle.yasna_base.proofs.Canonical.{written_along, written_where}
use Rattle.yasna_base.proofs.Coding.{along}
use Rattle.yasna_times.proofs.GeneralText.{general_spells_one, general_spells_can, general_spells_canonical, general_spells_only, general_text_bytes}
use Rattle.yasna_base.proofs.Identifier.{not_end}
use Rattle.yasna_base.proofs.Texts.{string_coding, string_written}
use Rattle.yasna_times.proofs.Times.{general_moment}
use Rattle.yasna_times.proofs.UtcTime.{utc_spells_one, utc_spells_can, utc_spells_canonical, utc_spells_only, utc_text_bytes}

utc_time_written : (t : Tag) → t.tag_number < 2 ^ 64 →
    IsWritten (λ v w. v ≡ w) (IsStringOf SpellsUtcTime t) (utc_time_encoding t) utc_time_depth IsUtcDateTime
utc_time_written t range = string_written SpellsUtcTime IsUtcDateTime utc_text t range (λ v can. utc_text_bytes v) utc_spells_canonical
    (λ m v c h bytes x. utc_spells_only m v c h x) (λ m v c bytes x. utc_spells_can m v c x)

-- UTCTime
pub utc_time_keeps : UtcTimeKeepsLaws
utc_time_keeps t not_end range = (string_coding SpellsUtcTime utc_spells_one t not_end, utc_time_written t range)

generalized_time_written : (t : Tag) → t.tag_number < 2 ^ 64 →
    IsWritten (λ v w. v ≡ w) (IsStringOf SpellsGeneralizedTime t) (generalized_time_encoding t) generalized_time_depth IsGeneralMoment
generalized_time_written t range = string_written SpellsGeneralizedTime IsGeneralMoment general_text t range general_text_bytes general_spells_canonical
    (λ m v c h bytes x. general_spells_only m v c h x) (λ m v c bytes x. general_spells_can m v c x)

-- GeneralizedTime
pub generalized_time_keeps : GeneralizedTimeKeepsLaws
generalized_time_keeps t not_end range = (string_coding SpellsGeneralizedTime general_spells_one t not_end, generalized_time_written t range)

-- under its own tag, of times that are equal where their date-times are
pub utc_coding : IsCoding (λ v w. utc_of v ≡ utc_of w) EncodesUtc (Any EncodesUtcTime)
utc_coding = along utc_of (string_coding SpellsUtcTime utc_spells_one utc_time_tag (not_end 23 (λ e. omega arith)))

pub utc_written : IsWritten (λ v w. utc_of v ≡ utc_of w) EncodesUtc (λ m v. utc_time_encoding utc_time_tag m (utc_of v))
    (λ m v. utc_time_depth m (utc_of v)) Always
utc_written = written_where (λ (v : UTCTime). (λ can. tt, λ can. v.in_range)) (written_along utc_of (utc_time_written utc_time_tag (omega arith)))

-- under its own tag, of times that are equal where their moments are
pub general_coding : IsCoding (λ v w. moment_of v ≡ moment_of w) EncodesGeneral (Any EncodesGeneralizedTime)
general_coding = along moment_of (string_coding SpellsGeneralizedTime general_spells_one generalized_time_tag (not_end 24 (λ e. omega arith)))

pub general_written : IsWritten (λ v w. moment_of v ≡ moment_of w) EncodesGeneral (λ m v. generalized_time_encoding generalized_time_tag m (moment_of v))
    (λ m v. generalized_time_depth m (moment_of v)) Always
general_written = written_where (λ (v : GeneralizedTime). (λ can. tt, λ can. general_moment v))
    (written_along moment_of (generalized_time_written generalized_time_tag (omega arith)))
