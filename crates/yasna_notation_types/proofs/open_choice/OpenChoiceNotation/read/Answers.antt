use Rattle.std.proofs.Common.{◌≡◌, ◌∙◌, [], false, true, Err, rules, sym, subst}
use Rattle.yasna_base.specs.Choice.{EitherOf, AnyEither}
use Rattle.yasna_base.specs.Coding.{Any}
use Rattle.yasna_reader.proofs.Tuples.{seen}
use Rattle.yasna_notation.specs.declared.choices.Either.TheVariants.{First, Second}
use Rattle.yasna_notation.specs.Choices.{sides}
use Rattle.yasna_notation.specs.Notation.{ReadsAs}
use Rattle.yasna_notation_types.specs.OpenChoice.{EncodesOther}
use Rattle.yasna_notation_types.proofs.Opening.{known_read, other_read, none_read}
use Rattle.yasna_notation_types.proofs.open_choice.OpenChoiceNotation.read.Goals as goal

pub returns-in_err-tag : goal.returns-in_err-tag
returns-in_err-tag g c =
    let is : c.from_residual.result ≡ Err c.in_err-tag.field-0.0 = search rules in
    rw is (none_read (g.met.A.Alternatives.laws c.requires) c.args.reader.now c.lookahead_tag.result c.lookahead_tag.ensures c.in_err-tag.field-0.0
    c.in_err-tag.was)

pub returns-in_err-value : goal.returns-in_err-value
returns-in_err-value g c =
    let a = g.A.Alternatives in
    let s = c.args.reader.now in
    let left = c.read_found.new.reader in
    let is : c.from_residual-in_err-value.result ≡ Err c.in_err-value.field-0.0 = search rules in
    rw is (subst
    (λ r. ReadsAs false [] false true (λ u m n v b. EitherOf a.encodes (EncodesOther a.tags) m n (sides v) b)
    (λ u. AnyEither a.elements (Any (EncodesOther a.tags))) s (seen First r) left) c.in_err-value.was
    (known_read (g.met.A.Alternatives.laws c.requires) s c.lookahead_tag.result c.lookahead_tag.ensures c.in_ok-tag.tag c.in_ok-tag.was
    (sym c.has_tag.ensures ∙ c.if-has_tag.true) c.read_found.result left c.read_found.ensures))

pub returns-then-has_tag : goal.returns-then-has_tag
returns-then-has_tag g c =
    let a = g.A.Alternatives in
    let s = c.args.reader.now in
    let left = c.read_found.new.reader in
    subst
    (λ r. ReadsAs false [] false true (λ u m n v b. EitherOf a.encodes (EncodesOther a.tags) m n (sides v) b)
    (λ u. AnyEither a.elements (Any (EncodesOther a.tags))) s (seen First r) left) c.in_ok-value.was
    (known_read (g.met.A.Alternatives.laws c.requires) s c.lookahead_tag.result c.lookahead_tag.ensures c.in_ok-tag.tag c.in_ok-tag.was
    (sym c.has_tag.ensures ∙ c.if-has_tag.true) c.read_found.result left c.read_found.ensures)

pub returns-in_err-other : goal.returns-in_err-other
returns-in_err-other g c =
    let a = g.A.Alternatives in
    let s = c.args.reader.now in
    let left = c.read_tagged_der.new.self in
    let is : c.from_residual-in_err-other.result ≡ Err c.in_err-other.field-0.0 = search rules in
    rw is (subst
    (λ r. ReadsAs false [] false true (λ u m n v b. EitherOf a.encodes (EncodesOther a.tags) m n (sides v) b)
    (λ u. AnyEither a.elements (Any (EncodesOther a.tags))) s (seen Second r) left) c.in_err-other.was
    (other_read (g.met.A.Alternatives.laws c.requires) s c.lookahead_tag.result c.lookahead_tag.ensures c.in_ok-tag.tag c.in_ok-tag.was
    (sym c.has_tag.ensures ∙ c.if-has_tag.false) c.read_tagged_der.result left c.read_tagged_der.ensures))

pub returns : goal.returns
returns g c =
    let a = g.A.Alternatives in
    let s = c.args.reader.now in
    let left = c.read_tagged_der.new.self in
    subst
    (λ r. ReadsAs false [] false true (λ u m n v b. EitherOf a.encodes (EncodesOther a.tags) m n (sides v) b)
    (λ u. AnyEither a.elements (Any (EncodesOther a.tags))) s (seen Second r) left) c.in_ok-other.was
    (other_read (g.met.A.Alternatives.laws c.requires) s c.lookahead_tag.result c.lookahead_tag.ensures c.in_ok-tag.tag c.in_ok-tag.was
    (sym c.has_tag.ensures ∙ c.if-has_tag.false) c.read_tagged_der.result left c.read_tagged_der.ensures)
