-- The tags of a module's types, as tags of elements.
use Rattle.yasna_base.specs.declared.tag.Tag.{Tag}
use Rattle.yasna_base.specs.declared.tag.TagClass.{TagClass}
use Rattle.yasna_base.specs.declared.tag.TagClass.TheVariants as of_elements
use Rattle.asn1_types.specs.declared.model.TagClass.{TagClass as ModuleClass}
use Rattle.asn1_types.specs.declared.model.TagClass.TheVariants as of_modules
use Rattle.asn1_types.specs.declared.model.TagLayer.{TagLayer}

-- the class of elements for a class of a module (X.680, 8.1)
abbrev pub element_class : ModuleClass → TagClass
element_class of_modules.Universal = of_elements.Universal
element_class of_modules.Application = of_elements.Application
element_class of_modules.ContextSpecific = of_elements.ContextSpecific
element_class of_modules.Private = of_elements.Private

-- the tag of elements for a tag of a module
abbrev pub element_tag : TagLayer → Tag
element_tag layer = record { tag_class = element_class layer.class; tag_number = layer.number }
