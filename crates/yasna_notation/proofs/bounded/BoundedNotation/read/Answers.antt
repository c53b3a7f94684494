use Rattle.std.proofs.Common.{◌≡◌, Err, rules, sym, subst, ◌∙◌}
use Rattle.yasna_base.specs.Coding.{Any}
use Rattle.yasna_notation.specs.Bounded.{Within}
use Rattle.yasna_notation.specs.Notation.{ReadsAs}
use Rattle.yasna_notation.proofs.Bounding.{read_within, read_outside, read_none}
use Rattle.yasna_notation.proofs.bounded.BoundedNotation.read.Goals as goal

pub returns : goal.returns
returns g c =
    let n = g.N.Notation.means in
    let b = g.C.Bound in
    let s = c.args.reader.now in
    let left = c.read.new.reader in
    let laws = (g.met.N.Notation.lawful c.requires).own in
    read_within n.under n.any_under n.encoding_under b.passes g.met.C.Bound.alike n.tags_known n.tags n.retagged n.may_allocate laws
    (g.met.N.Notation.lawful c.requires).others s c.in_ok-value.value left (sym c.lets.ensures ∙ c.if-not-lets.false)
    (subst (λ r. ReadsAs n.tags_known n.tags n.retagged n.may_allocate n.under n.any_under s r left) c.in_ok-value.was c.read.ensures)

pub returns-then-not-lets : goal.returns-then-not-lets
returns-then-not-lets g c =
    let n = g.N.Notation.means in
    let b = g.C.Bound in
    let s = c.args.reader.now in
    let left = c.read.new.reader in
    let laws = (g.met.N.Notation.lawful c.requires).own in
    subst (λ e. ReadsAs n.tags_known n.tags n.retagged n.may_allocate (λ u. Within b.passes (n.under u)) (λ u. Any (Within b.passes (n.under u))) s (Err e) left)
    (sym c.new.ensures)
    (read_outside n.under n.any_under n.encoding_under b.passes g.met.C.Bound.alike n.tags_known n.tags n.retagged n.may_allocate laws
    (g.met.N.Notation.lawful c.requires).others s c.in_ok-value.value left (sym c.lets.ensures ∙ c.if-not-lets.true)
    (subst (λ r. ReadsAs n.tags_known n.tags n.retagged n.may_allocate n.under n.any_under s r left) c.in_ok-value.was c.read.ensures))

pub returns-in_err-value : goal.returns-in_err-value
returns-in_err-value g c =
    let n = g.N.Notation.means in
    let b = g.C.Bound in
    let s = c.args.reader.now in
    let left = c.read.new.reader in
    let laws = (g.met.N.Notation.lawful c.requires).own in
    let is : c.from_residual.result ≡ Err c.in_err-value.field-0.0 = search rules in
    rw is (read_none n.under n.any_under n.encoding_under b.passes g.met.C.Bound.alike n.tags_known n.tags n.retagged n.may_allocate laws
    (g.met.N.Notation.lawful c.requires).others s c.in_err-value.field-0.0 left
    (subst (λ r. ReadsAs n.tags_known n.tags n.retagged n.may_allocate n.under n.any_under s r left) c.in_err-value.was c.read.ensures))
