use Rattle.std.proofs.Common.{◌≡◌, Err, true, false, rules, sym, subst}
use Rattle.yasna_base.specs.Coding.{Any}
use Rattle.yasna_notation.specs.Notation.{ReadsAs}
use Rattle.yasna_notation.specs.WithinMode.{WithinMode}
use Rattle.yasna_notation_constraints.specs.OrDefault.{accepted_by}
use Rattle.yasna_notation_constraints.proofs.ReadingDefaults.{value_accepted, value_rejected, value_not_read}
use Rattle.yasna_notation_constraints.proofs.or_default.AcceptedPartReader.read.Goals as goal

pub returns : goal.returns
returns g c =
    let n = g.A.Notation.means in
    let left = c.read.new.reader in
    let is : accepted_by g.D.TestedDefault.is c.args.reader.now.mode c.in_ok-value.value ≡ true = search rules in
    value_accepted g.D.TestedDefault.is g.met.D.TestedDefault.one n.under n.any_under n.encoding_under n.tags_known n.tags n.retagged n.may_allocate
    (g.met.A.Notation.lawful c.requires) c.args.reader.now c.in_ok-value.value left is
    (subst (λ r. ReadsAs n.tags_known n.tags n.retagged n.may_allocate n.under n.any_under c.args.reader.now r left) c.in_ok-value.was c.read.ensures)

pub returns-then-not-accepts : goal.returns-then-not-accepts
returns-then-not-accepts g c =
    let n = g.A.Notation.means in
    let left = c.read.new.reader in
    let passes = accepted_by g.D.TestedDefault.is in
    let is : passes c.args.reader.now.mode c.in_ok-value.value ≡ false = search rules in
    subst
    (λ e. ReadsAs n.tags_known n.tags n.retagged n.may_allocate (λ u. WithinMode passes (n.under u)) (λ u. Any (WithinMode passes (n.under u)))
    c.args.reader.now (Err e) left) (sym c.new.ensures)
    (value_rejected g.D.TestedDefault.is g.met.D.TestedDefault.one n.under n.any_under n.encoding_under n.tags_known n.tags n.retagged n.may_allocate
    (g.met.A.Notation.lawful c.requires) c.args.reader.now c.in_ok-value.value left is
    (subst (λ r. ReadsAs n.tags_known n.tags n.retagged n.may_allocate n.under n.any_under c.args.reader.now r left) c.in_ok-value.was c.read.ensures))

pub returns-in_err-value : goal.returns-in_err-value
returns-in_err-value g c =
    let n = g.A.Notation.means in
    let left = c.read.new.reader in
    let is : c.from_residual.result ≡ Err c.in_err-value.field-0.0 = search rules in
    rw is (value_not_read g.D.TestedDefault.is g.met.D.TestedDefault.one n.under n.any_under n.encoding_under n.tags_known n.tags n.retagged n.may_allocate
    (g.met.A.Notation.lawful c.requires) c.args.reader.now c.in_err-value.field-0.0 left
    (subst (λ r. ReadsAs n.tags_known n.tags n.retagged n.may_allocate n.under n.any_under c.args.reader.now r left) c.in_err-value.was c.read.ensures))
