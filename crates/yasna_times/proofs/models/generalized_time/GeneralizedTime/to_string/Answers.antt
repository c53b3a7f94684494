use Rattle.std.proofs.Common.{sym, subst}
use Rattle.std.proofs.lemmas.Str.{IsUtf8-from_ascii}
use Rattle.std.specs.Str.{IsUtf8}
use Rattle.yasna_times.specs.Models.{moment_of}
use Rattle.yasna_times.proofs.GeneralText.{general_text_ascii}
use Rattle.yasna_times.proofs.Times.{general_moment}
use Rattle.yasna_times.proofs.models.generalized_time.GeneralizedTime.to_string.Goals as goal

pub unwrap-requires : goal.unwrap-requires
unwrap-requires c =
    let t = c.args.self.now in
    let e = c.in_ok-to_bytes.ensures.text in
    let utf8 : IsUtf8 c.in_ok-to_bytes.field-0.items = subst IsUtf8 (sym e) (IsUtf8-from_ascii _ (general_text_ascii (moment_of t) (general_moment t))) in
    c.from_utf8.ensures.succeeds utf8
