-- Lexical items (X.680, 12).
use Rattle.std.specs.Prelude.{◌≡◌, ◌==◌, ◌||◌, ◌&&◌, ℕ, Bool, true, false, if◌then◌else◌, codes, List, [], ◌∷◌, ◌++◌, Option, Some, None, Result, Ok, Err}
use Rattle.std.specs.Char.{is_ascii_alphanumeric, is_ascii_digit, is_ascii_lowercase, is_ascii_uppercase}
use Rattle.std.specs.List.{list_any}
use Rattle.asn1_syntax.specs.declared.error.Expected.{Expected}
use Rattle.asn1_syntax.specs.declared.error.Expected.TheVariants.{Item, CommentEnd, StringEnd, QuotedDigits}
use Rattle.asn1_syntax.specs.declared.token.TokenKind.{TokenKind}
use Rattle.asn1_syntax.specs.declared.token.TokenKind.TheVariants.{TypeReference, Identifier, Number, BString, HString, CString, Symbol}
use Rattle.asn1_syntax.specs.declared.item.ItemStart.{ItemStart}
use Rattle.asn1_syntax.specs.Spacing.{IsLexicalRun, after_run, after_comment, is_white_space}

-- a text begins with a character at which a test holds
abbrev pub first_is : (ℕ → Bool) → List ℕ → Bool
first_is p [] = false
first_is p (c ∷ s) = p c

-- a word goes on: with a letter or a digit, or with a hyphen before one of these
abbrev pub continues_word : List ℕ → Bool
continues_word [] = false
continues_word (c ∷ s) = is_ascii_alphanumeric c || (c == 45 && first_is is_ascii_alphanumeric s)

-- the text after the quotation mark that ends a character string, in which a pair of them is one character
abbrev pub after_string : List ℕ → Option (List ℕ)
after_string [] = None
after_string (c ∷ []) = if c == 34 then Some [] else None
after_string (c ∷ d ∷ s) =
    if c == 34 then (if d == 34 then after_string s else Some (d ∷ s)) else after_string (d ∷ s)

-- characters between the apostrophes of binary and of hexadecimal strings
abbrev pub is_in_bstring : ℕ → Bool
is_in_bstring c = (c == 48 || c == 49) || is_white_space c

abbrev pub is_in_hstring : ℕ → Bool
is_in_hstring c = (is_ascii_digit c || list_any (λ x. x == c) (codes "ABCDEF")) || is_white_space c

-- the text after an apostrophe and a letter at its start, if they are there
abbrev pub after_end : ℕ → List ℕ → Option (List ℕ)
after_end letter [] = None
after_end letter (c ∷ []) = None
after_end letter (c ∷ d ∷ s) = if c == 39 && d == letter then Some s else None

-- symbols of one, two and three characters
abbrev pub is_symbol : ℕ → Bool
is_symbol c = list_any (λ x. x == c) (codes "{}<>,./()[]-:=;@|!^&*")

abbrev pub is_pair : ℕ → ℕ → Bool
is_pair c d = c == d && ((c == 46 || c == 91) || c == 93)

abbrev pub is_triple : ℕ → ℕ → ℕ → Bool
is_triple c d e = c == d && ((c == 46 && e == 46) || (c == 58 && e == 61))

-- the text after a symbol at its start, the longest one
abbrev pub after_symbol : List ℕ → Option (List ℕ)
after_symbol [] = None
after_symbol (c ∷ []) = if is_symbol c then Some [] else None
after_symbol (c ∷ d ∷ []) = if is_pair c d then Some [] else (if is_symbol c then Some (d ∷ []) else None)
after_symbol (c ∷ d ∷ e ∷ s) =
    if is_triple c d e then Some s
    else (if is_pair c d then Some (e ∷ s)
    else (if is_symbol c then Some (d ∷ e ∷ s) else None))

-- a text is a run that begins so
pub record IsRunFrom (begins : ℕ → Bool) (goes_on : List ℕ → Bool) (text after : List ℕ) : Type 0 where
  pub first : first_is begins text ≡ true
  pub run : IsLexicalRun goes_on text after

-- a text is digits in apostrophes, and a letter
pub record IsQuoted (is_digit : ℕ → Bool) (letter : ℕ) (text after : List ℕ) : Type 0 where
  pub digits : List ℕ
  pub joined : text ≡ 39 ∷ (digits ++ (39 ∷ letter ∷ []))
  pub run : IsLexicalRun (first_is is_digit) digits (39 ∷ letter ∷ after)

-- a text is a character string
pub record IsString (text after : List ℕ) : Type 0 where
  pub body : List ℕ
  pub joined : text ≡ 34 ∷ body
  pub ends : after_string (body ++ after) ≡ Some after

-- a text is a symbol
abbrev pub IsSymbol : List ℕ → List ℕ → Type 0
IsSymbol text after = after_symbol (text ++ after) ≡ Some after

-- a text is a lexical item of a kind, the longest one before the text after it
abbrev pub IsItem : TokenKind → List ℕ → List ℕ → Type 0
IsItem TypeReference text after = IsRunFrom is_ascii_uppercase continues_word text after
IsItem Identifier text after = IsRunFrom is_ascii_lowercase continues_word text after
IsItem Number text after = IsRunFrom is_ascii_digit (first_is is_ascii_digit) text after
IsItem BString text after = IsQuoted is_in_bstring 66 text after
IsItem HString text after = IsQuoted is_in_hstring 72 text after
IsItem CString text after = IsString text after
IsItem Symbol text after = IsSymbol text after

-- a text begins neither with a comment that ends nor with a lexical item, for this reason
pub record IsUnclosedComment (s : List ℕ) : Type 0 where
  pub body : List ℕ
  pub joined : s ≡ 47 ∷ 42 ∷ body
  pub none : after_comment 0 body ≡ None

pub record IsUnclosedString (s : List ℕ) : Type 0 where
  pub body : List ℕ
  pub joined : s ≡ 34 ∷ body
  pub none : after_string body ≡ None

pub record IsMisquoted (s : List ℕ) : Type 0 where
  pub body : List ℕ
  pub joined : s ≡ 39 ∷ body
  pub no_bstring : after_end 66 (after_run (first_is is_in_bstring) body) ≡ None
  pub no_hstring : after_end 72 (after_run (first_is is_in_hstring) body) ≡ None

pub record IsNoItem (s : List ℕ) : Type 0 where
  pub no_word : first_is is_ascii_alphanumeric s ≡ false
  pub no_quote : first_is (λ c. c == 34 || c == 39) s ≡ false
  pub no_symbol : after_symbol s ≡ None

abbrev pub IsMissing : Expected → List ℕ → Type 0
IsMissing CommentEnd s = IsUnclosedComment s
IsMissing StringEnd s = IsUnclosedString s
IsMissing QuotedDigits s = IsMisquoted s
IsMissing Item s = IsNoItem s
IsMissing _ s = ⊥

-- a text begins with a lexical item of a kind
pub record BeginsItem (kind : TokenKind) (s after : List ℕ) : Type 0 where
  pub text : List ℕ
  pub joined : s ≡ text ++ after
  pub item : IsItem kind text after

-- what a text begins with, or why with no item
abbrev pub ItemBegins : List ℕ → Result ItemStart Expected → Type 0
ItemBegins s (Ok x) = BeginsItem x.kind s x.after.now
ItemBegins s (Err e) = IsMissing e s
