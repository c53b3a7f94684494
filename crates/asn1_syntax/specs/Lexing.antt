-- A source as lexical items, with white space and comments between them (X.680, 12).
use Rattle.std.specs.Prelude.{◌≡◌, ◌+◌, ℕ, List, [], ◌∷◌, ◌++◌, length}
use Rattle.asn1_syntax.specs.declared.error.Expected.{Expected}
use Rattle.asn1_syntax.specs.declared.error.SyntaxError.{SyntaxError}
use Rattle.asn1_syntax.specs.declared.error.SyntaxError.TheVariants.{Malformed, Memory}
use Rattle.asn1_syntax.specs.declared.token.Token.{Token}
use Rattle.asn1_syntax.specs.Items.{IsItem, IsMissing}
use Rattle.asn1_syntax.specs.Spacing.{IsGap}

-- a lexical item is at the start of a text, whose end is at the offset `total`
pub record IsToken (total : ℕ) (t : Token) (s after : List ℕ) : Type 0 where
  pub joined : s ≡ t.text.now ++ after
  pub item : IsItem t.kind t.text.now after
  pub offset : t.offset + length s ≡ total

-- a lexical item is at the start of a text, then a gap, and R holds of the text after it
pub record FirstToken (total : ℕ) (R : List ℕ → Type 0) (t : Token) (s : List ℕ) : Type 0 where
  pub after : List ℕ
  pub next : List ℕ
  pub token : IsToken total t s after
  pub gap : IsGap after next
  pub others : R next

-- lexical items with gaps between and after them are at the start of a text, and `end` is the text after them
unfoldable pub AreTokens : ℕ → List Token → List ℕ → List ℕ → Type 0
AreTokens total [] s end = s ≡ end
AreTokens total (t ∷ ts) s end = FirstToken total (λ next. AreTokens total ts next end) t s

-- a source is these lexical items, and gaps
pub record Lexes (source : List ℕ) (tokens : List Token) : Type 0 where
  pub start : List ℕ
  pub gap : IsGap source start
  pub items : AreTokens (length source) tokens start []

-- after lexical items and gaps, neither an item nor a gap is at an offset of a source, for this reason
pub record StopsAt (source : List ℕ) (offset : ℕ) (expected : Expected) : Type 0 where
  pub before : List Token
  pub start : List ℕ
  pub place : List ℕ
  pub gap : IsGap source start
  pub items : AreTokens (length source) before start place
  pub missing : IsMissing expected place
  pub distance : offset + length place ≡ length source

-- why a source is rejected
abbrev pub LexingFails : List ℕ → SyntaxError → Type 0
LexingFails source Memory = Unit {0}
LexingFails source (Malformed offset expected) = StopsAt source offset expected

-- no lexical item is at the start of a text, whose end is at the offset `total`, for this reason
abbrev pub MissesToken : ℕ → List ℕ → SyntaxError → Type 0
MissesToken total s Memory = ⊥
MissesToken total s (Malformed offset expected) = (offset + length s ≡ total) × IsMissing expected s
