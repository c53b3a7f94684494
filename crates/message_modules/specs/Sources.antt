-- The modules of files whose lines are given.
use Rattle.std.specs.Prelude.{◌≡◌, ℕ, List, [], ◌∷◌, ◌++◌}
use Rattle.std.specs.List.{flat_map}
use Rattle.std.specs.Borrow.{Bor}
use Rattle.asn1_syntax.specs.declared.error.Expected.{Expected}
use Rattle.asn1_syntax.specs.declared.error.SyntaxError.TheVariants.{Malformed}
use Rattle.asn1_syntax.specs.declared.tree.Module.{Module}
use Rattle.asn1_syntax.specs.Parsing.{IsSourceOf, ParsingFails}

-- the octets of lines, with a line feed after each
abbrev pub source_of_lines : List (Bor (List ℕ)) → List ℕ
source_of_lines lines = flat_map (λ line. line.now ++ 10 ∷ []) lines

-- the modules of a source come after those of others. A source that is malformed has none
pub data AddsModulesOf (source : List ℕ) (before after : List Module) : Type 0 where
  of_modules : {modules : List Module} → IsSourceOf source modules → after ≡ before ++ modules → AddsModulesOf source before after
  malformed : {offset : ℕ} {expected : Expected} → ParsingFails source (Malformed offset expected) → after ≡ before → AddsModulesOf source before after

-- the modules of files, in their order
pub data AreModulesOf : List (Bor (List (Bor (List ℕ)))) → List Module → Type 0 where
  no_files : AreModulesOf [] []
  one_more : {files : List (Bor (List (Bor (List ℕ))))} {before after : List Module} (file : Bor (List (Bor (List ℕ)))) → AreModulesOf files before →
      AddsModulesOf (source_of_lines file.now) before after → AreModulesOf (files ++ file ∷ []) after
