-- Blocks of PEM (RFC 7468, 3).
use Rattle.std.specs.Prelude.{◌==◌, ◌+◌, ◌++◌, ◌∷◌, [], ℕ, List, if◌then◌else◌, codes}
use Rattle.base64.specs.Engines.{standard}
use Rattle.base64.specs.GeneralPurpose.{encode_of}

-- a text in lines of 64 characters, the last of which may have fewer, after this many characters of a line
abbrev pub wrapped : ℕ → List ℕ → List ℕ
wrapped column [] = 10 ∷ []
wrapped column (c ∷ s) = if column == 64 then 10 ∷ c ∷ wrapped 1 s else c ∷ wrapped (column + 1) s

-- the line that begins or ends a block
unfoldable pub boundary : List ℕ → List ℕ → List ℕ
boundary word label = codes "-----" ++ word ++ label ++ codes "-----" ++ 10 ∷ []

-- the block of some bytes
abbrev pub block : List ℕ → List ℕ → List ℕ
block label bytes = boundary (codes "BEGIN ") label ++ wrapped 0 (encode_of standard bytes) ++ boundary (codes "END ") label
