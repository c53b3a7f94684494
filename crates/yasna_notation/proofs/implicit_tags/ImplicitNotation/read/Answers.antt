use Rattle.std.proofs.Common.{rules}
use Rattle.std.proofs.lemmas.Bool.{and_parts}
use Rattle.yasna_notation.proofs.Enclosing.{implicit_read}
use Rattle.yasna_notation.proofs.implicit_tags.ImplicitNotation.read.Goals as goal

pub returns : goal.returns
returns g c =
    let n = g.N.Notation.means in
    implicit_read {tags_known = n.tags_known} {ts = n.tags} {may_allocate = n.may_allocate} {B = n.under} {S = n.any_under} _ _
    (and_parts n.retagged g.N.Notation.unambiguous c.requires).0 g.met.T.TagName.not_end g.met.T.TagName.in_range c.read_tagged_implicit.ensures c.tag.ensures
    (λ p q x h. search rules)
