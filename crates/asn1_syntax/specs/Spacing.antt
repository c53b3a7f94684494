-- White space and comments between lexical items (X.680, 12.1.6 and 12.6).
use Rattle.std.specs.Prelude.{◌≡◌, ◌==◌, ◌||◌, ◌&&◌, ◌+◌, ◌-◌, not, ℕ, Bool, true, false, if◌then◌else◌, List, [], ◌∷◌, ◌++◌, ◌<◌, ◌≤◌, length, Option, Some, None, ◌⊎◌}
use Rattle.std.specs.List.{concat}
use Rattle.asn1_syntax.specs.declared.spacing.CommentPart.{CommentPart}
use Rattle.asn1_syntax.specs.declared.spacing.CommentPart.TheVariants.{Begin, Character, End, Nothing}

-- a character ends a line
abbrev pub is_newline : ℕ → Bool
is_newline c = ((c == 10 || c == 11) || c == 12) || c == 13

-- a character is white space
abbrev pub is_white_space : ℕ → Bool
is_white_space c = (c == 9 || c == 32) || is_newline c

-- `goes_on` holds from each character of a run on, and not from the text after it on
abbrev pub IsLexicalRun : (List ℕ → Bool) → List ℕ → List ℕ → Type 0
IsLexicalRun goes_on [] after = goes_on after ≡ false
IsLexicalRun goes_on (c ∷ run) after = (goes_on (c ∷ (run ++ after)) ≡ true) × IsLexicalRun goes_on run after

-- the text after the run at its start
abbrev pub after_run : (List ℕ → Bool) → List ℕ → List ℕ
after_run goes_on [] = []
after_run goes_on (c ∷ s) = if goes_on (c ∷ s) then after_run goes_on s else (c ∷ s)

-- two characters begin a text
abbrev pub begins_pair : ℕ → ℕ → List ℕ → Bool
begins_pair a b [] = false
begins_pair a b (c ∷ []) = false
begins_pair a b (c ∷ d ∷ s) = c == a && d == b

-- two hyphens begin a text
abbrev pub begins_hyphens : List ℕ → Bool
begins_hyphens s = begins_pair 45 45 s

-- the comment that `--` begins goes on: neither its line ends here, nor are two hyphens here
abbrev pub in_line : List ℕ → Bool
in_line [] = false
in_line (c ∷ s) = not (is_newline c) && not (begins_hyphens (c ∷ s))

-- the text after two hyphens at its start, if they are there
abbrev pub after_hyphens : List ℕ → List ℕ
after_hyphens [] = []
after_hyphens (c ∷ []) = c ∷ []
after_hyphens (c ∷ d ∷ s) = if c == 45 && d == 45 then s else (c ∷ d ∷ s)

-- the text after the end of the comment that `/*` has begun, inside of so many others: they nest
abbrev pub after_comment : ℕ → List ℕ → Option (List ℕ)
after_comment others [] = None
after_comment others (c ∷ []) = None
after_comment others (c ∷ d ∷ s) =
    if c == 42 && d == 47 then (if others == 0 then Some s else after_comment (others - 1) s)
    else (if c == 47 && d == 42 then after_comment (others + 1) s
    else after_comment others (d ∷ s))

-- how the text of a comment begins
abbrev pub IsCharacter : List ℕ → List ℕ → Type 0
IsCharacter [] more = ⊥
IsCharacter (c ∷ s) more = (s ≡ more) × (begins_pair 42 47 (c ∷ s) ≡ false) × (begins_pair 47 42 (c ∷ s) ≡ false)

abbrev pub IsCommentPart : List ℕ → CommentPart → Type 0
IsCommentPart text (End more) = text ≡ 42 ∷ 47 ∷ more.now
IsCommentPart text (Begin more) = text ≡ 47 ∷ 42 ∷ more.now
IsCommentPart text (Character more) = IsCharacter text more.now
IsCommentPart text Nothing = text ≡ []

-- the text after the beginning of a comment's text is shorter than it
abbrev pub IsShorter : List ℕ → CommentPart → Type 0
IsShorter text (End more) = length more.now < length text
IsShorter text (Begin more) = length more.now + 2 ≤ length text
IsShorter text (Character more) = length more.now < length text
IsShorter text Nothing = Unit {0}

-- the text after a white space or a comment at its start, if one that ends is there
abbrev pub after_spacing : List ℕ → Option (List ℕ)
after_spacing [] = None
after_spacing (c ∷ []) = if is_white_space c then Some [] else None
after_spacing (c ∷ d ∷ s) =
    if is_white_space c then Some (d ∷ s)
    else (if c == 45 && d == 45 then Some (after_hyphens (after_run in_line s))
    else (if c == 47 && d == 42 then after_comment 0 s else None))

-- a comment's line ends here: with the source, or with a character
abbrev pub EndsLine : List ℕ → Type 0
EndsLine [] = Unit {0}
EndsLine (c ∷ s) = is_newline c ≡ true

-- a text is a comment that two hyphens begin, and two hyphens or its line end
pub record IsLineComment (text after : List ℕ) : Type 0 where
  pub body : List ℕ
  pub close : List ℕ
  pub joined : text ≡ 45 ∷ 45 ∷ (body ++ close)
  pub run : IsLexicalRun in_line body (close ++ after)
  pub closed : (close ≡ 45 ∷ 45 ∷ []) ⊎ ((close ≡ []) × EndsLine after)

-- a text is a comment that `/*` begins and `*/` ends; comments nest
pub record IsBlockComment (text after : List ℕ) : Type 0 where
  pub body : List ℕ
  pub joined : text ≡ 47 ∷ 42 ∷ body
  pub ends : after_comment 0 (body ++ after) ≡ Some after

-- a text is a white space
pub record IsWhiteSpace (text : List ℕ) : Type 0 where
  pub character : ℕ
  pub joined : text ≡ character ∷ []
  pub white : is_white_space character ≡ true

-- a text is a white space or a comment
abbrev pub IsSpacing : List ℕ → List ℕ → Type 0
IsSpacing text after = IsWhiteSpace text ⊎ (IsLineComment text after ⊎ IsBlockComment text after)

-- white space and comments follow one another, and then a text
abbrev pub AreSpacings : List (List ℕ) → List ℕ → Type 0
AreSpacings [] after = Unit {0}
AreSpacings (text ∷ more) after = IsSpacing text (concat more ++ after) × AreSpacings more after

-- a text begins with white space and comments, up to the text after them, which begins with none that ends
pub record IsGap (s after : List ℕ) : Type 0 where
  pub spacings : List (List ℕ)
  pub joined : s ≡ concat spacings ++ after
  pub each : AreSpacings spacings after
  pub whole : after_spacing after ≡ None
