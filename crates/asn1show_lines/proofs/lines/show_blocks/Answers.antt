use Rattle.std.proofs.Common.{◌≡◌, ◌∙◌, ◌∷◌, None, Ok, Some, ap, subst, sym}
use Rattle.asn1show_walk.specs.WellFormed.{AreElements}
use Rattle.asn1_input.specs.Blocks.{lines_left, lines_of}
use Rattle.asn1show_lines.specs.Input.{HoldsElements}
use Rattle.asn1_input.specs.Reader.{IsFirstError}
use Rattle.asn1_input.specs.declared.input_format.InputFormat.TheVariants.{Pem}
use Rattle.asn1_input.proofs.FirstError.{StillHolds, after_line, ends_badly, ends_well}
use Rattle.asn1show_lines.proofs.Meeting.{StillMeets, begins_awaiting, begins_meeting, ends_meeting, meets_on}
use Rattle.asn1show_lines.proofs.lines.show_blocks.Goals as goal

pub loop-left-init : goal.loop-left-init
loop-left-init g c =
    let input = c.args.input.now in
    let reader = c.new-reader.result in
    let all = c.new-conformance.result in
    let elements = AreElements 101 c.args.mode in
    let plain = c.args.style.view.schema ≡ None in
    subst
    (λ z. StillHolds (HoldsElements c.args.mode Pem input) elements None reader (lines_of z)
    × StillMeets plain c.args.mode input None reader (lines_of z) all)
    (sym c.text_of-text.ensures) (
      begins_awaiting elements input reader c.new-reader.ensures.lines c.new-reader.ensures.any,
      λ none p. begins_meeting plain c.args.mode input reader all c.new-reader.ensures.lines c.new-reader.ensures.any c.new-conformance.ensures,
    )

pub loop-left-preserved : goal.loop-left-preserved
loop-left-preserved g c =
    let held = HoldsElements c.args.mode Pem c.args.input.now in
    let plain = c.args.style.view.schema ≡ None in
    let i = c.loop-left.invariant in
    let first = c.loop-left.first in
    let old = c.loop-left.reader in
    let new = c.show_line-shown.new.reader in
    let before = c.loop-left.conformance in
    let after = c.show_line-shown.new.conformance in
    let line = c.cut_line.result.0.now in
    let rest = lines_left c.cut_line.result.1 in
    let e : lines_left c.loop-left.left ≡ line ∷ rest = ap lines_left c.in-Some.is ∙ c.cut_line.ensures.lines in
    let noted : IsFirstError first c.show_line-shown.result (Ok c.in_ok-first.first) =
    subst (IsFirstError first c.show_line-shown.result) (c.in_ok-first.was {u = tt}) c.first_error.ensures in (
      after_line held (AreElements 101 c.args.mode) old new line rest first c.in_ok-first.first c.show_line-shown.result
          (subst (StillHolds held (AreElements 101 c.args.mode) first old) e i.0) c.show_line-shown.ensures.goes_on
          c.show_line-shown.ensures.fails noted,
      meets_on plain c.args.mode c.args.input.now old new line rest before after first c.in_ok-first.first c.show_line-shown.result
          (subst (λ z. StillMeets plain c.args.mode c.args.input.now first old z before) e i.1) c.show_line-shown.ensures.conformance noted,
    )

pub returns-in-Some-2-clause-fails : goal.returns-in-Some-2-clause-fails
returns-in-Some-2-clause-fails g c =
    let held = HoldsElements c.args.mode Pem c.args.input.now in
    let first = c.loop-left.first in
    let left = subst (λ z. StillHolds held (AreElements 101 c.args.mode) first c.loop-left.reader (lines_left z)) c.in_default.is c.loop-left.invariant.0 in
    let noted : IsFirstError first c.show_end-end.result (Ok (Some c.in-Some-2.error)) =
    subst (λ o. IsFirstError first c.show_end-end.result (Ok o)) c.in-Some-2.is
    (subst (IsFirstError first c.show_end-end.result) (c.in_ok-error.was {u = tt}) c.first_error-2.ensures) in
    ends_badly held (AreElements 101 c.args.mode) c.loop-left.reader first c.show_end-end.result c.in-Some-2.error left c.show_end-end.ensures.fails noted

pub returns-clause-decodes : goal.returns-clause-decodes
returns-clause-decodes g c =
    let held = HoldsElements c.args.mode Pem c.args.input.now in
    let first = c.loop-left.first in
    let left = subst (λ z. StillHolds held (AreElements 101 c.args.mode) first c.loop-left.reader (lines_left z)) c.in_default.is c.loop-left.invariant.0 in
    let noted : IsFirstError first c.show_end-end.result (Ok None) =
    subst (λ o. IsFirstError first c.show_end-end.result (Ok o)) c.in-None.is
    (subst (IsFirstError first c.show_end-end.result) (c.in_ok-error.was {u = tt}) c.first_error-2.ensures) in
    ends_well held (AreElements 101 c.args.mode) c.loop-left.reader first c.show_end-end.result left c.show_end-end.ensures.ends noted

pub returns-clause-conformance : goal.returns-clause-conformance
returns-clause-conformance g c = λ p.
    let plain = c.args.style.view.schema ≡ None in
    let first = c.loop-left.first in
    let before = c.loop-left.conformance in
    let left =
    subst (λ z. StillMeets plain c.args.mode c.args.input.now first c.loop-left.reader (lines_left z) before) c.in_default.is c.loop-left.invariant.1 in
    let noted : IsFirstError first c.show_end-end.result (Ok None) =
    subst (λ o. IsFirstError first c.show_end-end.result (Ok o)) c.in-None.is
    (subst (IsFirstError first c.show_end-end.result) (c.in_ok-error.was {u = tt}) c.first_error-2.ensures) in
    ends_meeting plain c.args.mode c.args.input.now c.loop-left.reader first before c.show_end-end.result left c.show_end-end.ensures.ends noted p
