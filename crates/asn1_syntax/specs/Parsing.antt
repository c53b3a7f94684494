-- Sources of modules.
use Rattle.std.specs.Prelude.{◌≡◌, ℕ, List, [], ◌∷◌, length, ◌⊎◌}
use Rattle.asn1_syntax.specs.declared.error.SyntaxError.{SyntaxError}
use Rattle.asn1_syntax.specs.declared.error.SyntaxError.TheVariants.{Malformed, Memory}
use Rattle.asn1_syntax.specs.declared.token.Token.{Token}
use Rattle.asn1_syntax.specs.declared.tree.Module.{Module}
use Rattle.asn1_syntax.specs.Lexing.{Lexes, StopsAt}
use Rattle.asn1_syntax.specs.Tree.{item_texts, modules_then}

-- a source is lexical items, and these are those of the modules
pub record IsSourceOf (source : List ℕ) (modules : List Module) : Type 0 where
  pub tokens : List Token
  pub lexes : Lexes source tokens
  pub printed : item_texts tokens ≡ modules_then modules []

-- an offset is that of one of lexical items, or that of the end
abbrev pub IsPlaceOf : List Token → ℕ → ℕ → Type 0
IsPlaceOf [] end offset = offset ≡ end
IsPlaceOf (t ∷ ts) end offset = (offset ≡ t.offset) ⊎ IsPlaceOf ts end offset

-- an error is at one of lexical items, or at the end
abbrev pub IsErrorAmong : List Token → ℕ → SyntaxError → Type 0
IsErrorAmong ts end Memory = Unit {0}
IsErrorAmong ts end (Malformed offset expected) = IsPlaceOf ts end offset

-- a source is lexical items, and an offset is that of one of them, or that of the end
pub record IsAtItem (source : List ℕ) (offset : ℕ) : Type 0 where
  pub tokens : List Token
  pub lexes : Lexes source tokens
  pub place : IsPlaceOf tokens (length source) offset

-- where a source of modules is rejected: where its lexical items stop, or at one of them, or at the end
abbrev pub ParsingFails : List ℕ → SyntaxError → Type 0
ParsingFails source Memory = Unit {0}
ParsingFails source (Malformed offset expected) = StopsAt source offset expected ⊎ IsAtItem source offset
