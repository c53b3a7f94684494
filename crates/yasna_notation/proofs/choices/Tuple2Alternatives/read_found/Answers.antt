use Rattle.std.proofs.Common.{◌≡◌, ◌++◌, ◌||◌, Err, None, rules, sym, subst, ◌∙◌}
use Rattle.yasna_base.specs.Choice.{EitherOf, AnyEither}
use Rattle.yasna_reader.proofs.Tuples.{seen}
use Rattle.yasna_notation.specs.declared.choices.Either.TheVariants.{First, Second}
use Rattle.yasna_notation.specs.Choices.{ReadsFound, sides}
use Rattle.yasna_notation.proofs.Found.{first_found, other_found}
use Rattle.yasna_notation.proofs.choices.Tuple2Alternatives.read_found.Goals as goal

pub returns-then-has_tag : goal.returns-then-has_tag
returns-then-has_tag g c =
    let n = g.A.Notation.means in
    let w = g.W.Alternatives in
    let s = c.args.reader.now in
    let left = c.read.new.reader in
    let is = sym c.has_tag.ensures ∙ c.if-has_tag.true in
    subst (λ x. ReadsFound (n.tags ++ w.tags) (n.may_allocate || w.may_allocate) (λ m n v b. EitherOf (g.A.Notation.means.under None) w.encodes m n (sides v) b)
    (AnyEither (n.any_under None) w.elements) c.args.tag s (seen First x) left) c.in_ok-value.was
    (first_found n.tags_known n.tags w.tags n.may_allocate w.may_allocate n.under n.any_under w.encodes w.elements g.A.Notation.unambiguous w.unambiguous c.requires c.args.tag
    s n.retagged
    g.met.W.Alternatives.laws c.read.result left is c.read.ensures)

pub returns-in_err-value : goal.returns-in_err-value
returns-in_err-value g c =
    let n = g.A.Notation.means in
    let w = g.W.Alternatives in
    let s = c.args.reader.now in
    let left = c.read.new.reader in
    let is = sym c.has_tag.ensures ∙ c.if-has_tag.true in
    let failed : c.from_residual.result ≡ Err c.in_err-value.field-0.0 = search rules in
    rw failed
    (subst (λ x. ReadsFound (n.tags ++ w.tags) (n.may_allocate || w.may_allocate) (λ m n v b. EitherOf (g.A.Notation.means.under None) w.encodes m n (sides v) b)
    (AnyEither (n.any_under None) w.elements) c.args.tag s (seen First x) left) c.in_err-value.was
    (first_found n.tags_known n.tags w.tags n.may_allocate w.may_allocate n.under n.any_under w.encodes w.elements g.A.Notation.unambiguous w.unambiguous c.requires c.args.tag
    s n.retagged
    g.met.W.Alternatives.laws c.read.result left is c.read.ensures))

pub returns : goal.returns
returns g c =
    let n = g.A.Notation.means in
    let w = g.W.Alternatives in
    let s = c.args.reader.now in
    let left = c.read_found.new.reader in
    let is = sym c.has_tag.ensures ∙ c.if-has_tag.false in
    subst (λ x. ReadsFound (n.tags ++ w.tags) (n.may_allocate || w.may_allocate) (λ m n v b. EitherOf (g.A.Notation.means.under None) w.encodes m n (sides v) b)
    (AnyEither (n.any_under None) w.elements) c.args.tag s (seen Second x) left) c.in_ok-other.was
    (other_found n.tags_known n.tags w.tags n.may_allocate w.may_allocate n.under n.any_under w.encodes w.elements g.A.Notation.unambiguous w.unambiguous c.requires c.args.tag s
    (λ b. (g.met.A.Notation.lawful b).own) c.read_found.result left is c.read_found.ensures)

pub returns-in_err-other : goal.returns-in_err-other
returns-in_err-other g c =
    let n = g.A.Notation.means in
    let w = g.W.Alternatives in
    let s = c.args.reader.now in
    let left = c.read_found.new.reader in
    let is = sym c.has_tag.ensures ∙ c.if-has_tag.false in
    let failed : c.from_residual-in_err-other.result ≡ Err c.in_err-other.field-0.0 = search rules in
    rw failed
    (subst (λ x. ReadsFound (n.tags ++ w.tags) (n.may_allocate || w.may_allocate) (λ m n v b. EitherOf (g.A.Notation.means.under None) w.encodes m n (sides v) b)
    (AnyEither (n.any_under None) w.elements) c.args.tag s (seen Second x) left) c.in_err-other.was
    (other_found n.tags_known n.tags w.tags n.may_allocate w.may_allocate n.under n.any_under w.encodes w.elements g.A.Notation.unambiguous w.unambiguous c.requires c.args.tag s
    (λ b. (g.met.A.Notation.lawful b).own) c.read_found.result left is c.read_found.ensures))
