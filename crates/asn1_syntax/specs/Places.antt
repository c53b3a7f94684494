-- Lines and columns of a source.
use Rattle.std.specs.Prelude.{◌==◌, ◌+◌, ℕ, Bool, if◌then◌else◌, List, [], ◌∷◌}

-- a character ends a line of a source
abbrev pub is_line_end : ℕ → Bool
is_line_end c = c == 10

-- the column after a text that begins at a column: the next one after each character, and the first one after a line's end
abbrev pub column_after : ℕ → List ℕ → ℕ
column_after column [] = column
column_after column (c ∷ s) = column_after (if is_line_end c then 1 else column + 1) s
