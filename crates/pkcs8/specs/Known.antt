-- The tags of the parts of `OneAsymmetricKey` that may be omitted.
use Rattle.std.proofs.Common.{◌∷◌, [], List}
use Rattle.yasna_base.specs.declared.tag.Tag.{Tag}
use Rattle.yasna_base.specs.Identifier.{context}

abbrev pub known : List Tag
known = context 0 ∷ context 1 ∷ []
