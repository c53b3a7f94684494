-- The parts of a SEQUENCE, a SET or a CHOICE, resolved.
use Rattle.std.specs.Prelude.{◌≡◌, ℕ, List, Option}
use Rattle.asn1_types.specs.declared.components.WrittenPart.{WrittenPart}
use Rattle.asn1_types.specs.declared.model.KnownType.{KnownType}
use Rattle.asn1_types.specs.declared.model.Notation.{Notation}
use Rattle.asn1_types.specs.declared.model.Part.{Part}
use Rattle.asn1_types.specs.declared.tags_of_types.TagSet.{TagSet}
use Rattle.asn1_types.specs.Presence.{KeepsPresence}
use Rattle.asn1_types.specs.Tagged.{IsTaggedIf}

-- a part is one that is written, with the notation of its type under the automatic tag of its number, if it has one
pub record IsFinished (known : List KnownType) (sets : List TagSet) (written : WrittenPart) (number : Option ℕ) (inner : Notation) (part : Part) : Type 0 where
  pub name : part.name.now ≡ written.name.text.now
  pub notation : IsTaggedIf known sets number inner part.notation
  pub presence : KeepsPresence written.presence.now part.presence
  pub is_addition : part.is_addition ≡ written.is_addition
