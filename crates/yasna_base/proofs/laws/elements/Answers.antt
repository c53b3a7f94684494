use Rattle.yasna_base.specs.declared.tag.PCBit.TheVariants.{Primitive}
use Rattle.yasna_base.proofs.Element.{primitive_exact}
use Rattle.yasna_base.proofs.laws.elements.Goals as goal

pub returns : goal.returns
returns c = λ m t u d e a b r s x y f. let same = primitive_exact m m t u Primitive d e a b r s x y f in (same.tag, same.contents, same.bytes, same.rest)
