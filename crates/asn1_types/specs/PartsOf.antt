-- Parts of what is written in braces.
use Rattle.std.specs.Prelude.{ℕ, List, Option}
use Rattle.asn1_types.specs.declared.components.WrittenPart.{WrittenPart}
use Rattle.asn1_types.specs.declared.model.Notation.{Notation}
use Rattle.asn1_types.specs.declared.model.Part.{Part}
use Rattle.asn1_types.specs.Context.{Context}
use Rattle.asn1_types.specs.Notations.{AreParts, IsNotation}
use Rattle.asn1_types.specs.Numbers.{AreNumbers}
use Rattle.asn1_types.specs.Parts.{IsFinished}
use Rattle.asn1_types.specs.Tags.{environment_of}

-- a part is one that is written, with the notation of its type and a number
pub record IsPartOf (c : Context) (w : WrittenPart) (number : Option ℕ) (part : Part) : Type 0 where
  pub n : Notation
  pub is : IsNotation c w.module w.notation.now n
  pub finished : IsFinished c.known c.sets w number n part

-- parts are those that are written in the braces of the module at an index, with their numbers
pub record ArePartsOf (c : Context) (m : ℕ) (written : List WrittenPart) (parts : List Part) : Type 0 where
  pub numbers : List (Option ℕ)
  pub are_numbers : AreNumbers (environment_of c.modules m) written numbers
  pub are : AreParts c numbers written parts
