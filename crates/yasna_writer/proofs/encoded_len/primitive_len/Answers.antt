use Rattle.yasna_base.specs.declared.tag.PCBit.TheVariants.{Primitive}
use Rattle.yasna_base.specs.Canonical.{canonical_element}
use Rattle.yasna_writer.proofs.encoded_len.primitive_len.Goals as goal

pub returns : goal.returns
unfolding canonical_element
returns c = λ m d e. c.definite_len.ensures Primitive d e
