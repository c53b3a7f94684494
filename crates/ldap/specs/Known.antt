-- The tags of the parts that may be omitted at the end of a SEQUENCE.
use Rattle.std.proofs.Common.{◌∷◌, [], List}
use Rattle.yasna_base.specs.declared.tag.Tag.{Tag}
use Rattle.yasna_base.specs.Boolean.{boolean_tag}
use Rattle.yasna_base.specs.Identifier.{context}
use Rattle.yasna_base.specs.Octets.{octets_tag}

-- of a control
abbrev pub after_type : List Tag
after_type = boolean_tag ∷ octets_tag ∷ []

-- of a response to a request to bind
abbrev pub after_message : List Tag
after_message = context 3 ∷ context 7 ∷ []
