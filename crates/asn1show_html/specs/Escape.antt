-- Texts in HTML: characters that mark up are written as references.
use Rattle.std.specs.Prelude.{◌≢◌, ◌==◌, ℕ, cond, List, [], ◌∷◌, ◌++◌, codes, map}
use Rattle.std.specs.List.{concat}

-- what is written for an octet
abbrev pub reference : ℕ → List ℕ
reference c = cond (c == 38) (codes "&amp;") (cond (c == 60) (codes "&lt;") (cond (c == 62) (codes "&gt;") (cond (c == 34) (codes "&quot;") (c ∷ []))))

-- a text with references for the characters that mark up
abbrev pub escaped : List ℕ → List ℕ
escaped text = concat (map reference text)

-- an octet that is read as it is: neither `&`, `<`, `>` nor `"`
pub record IsPlain (c : ℕ) : Type 0 where
  pub not_reference : c ≢ 38
  pub not_tag : c ≢ 60
  pub not_tag_end : c ≢ 62
  pub not_quote : c ≢ 34

-- a text of HTML is read as these octets, and has no tags and no quotes
pub data IsReadAs : List ℕ → List ℕ → Type 0 where
  nothing : IsReadAs [] []
  ampersand : (html text : List ℕ) → IsReadAs html text → IsReadAs (codes "&amp;" ++ html) (38 ∷ text)
  less : (html text : List ℕ) → IsReadAs html text → IsReadAs (codes "&lt;" ++ html) (60 ∷ text)
  greater : (html text : List ℕ) → IsReadAs html text → IsReadAs (codes "&gt;" ++ html) (62 ∷ text)
  quote : (html text : List ℕ) → IsReadAs html text → IsReadAs (codes "&quot;" ++ html) (34 ∷ text)
  plain : (c : ℕ) (html text : List ℕ) → IsPlain c → IsReadAs html text → IsReadAs (c ∷ html) (c ∷ text)
