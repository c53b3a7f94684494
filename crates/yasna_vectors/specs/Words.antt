-- Words of a line, which spaces part.
use Rattle.std.specs.Prelude.{◌≡◌, ◌==◌, ℕ, Bool, List, length}
use Rattle.std.specs.List.{after_first, position_or_len}

-- a byte is a space
abbrev pub is_space : ℕ → Bool
is_space b = b == 32

-- what is after the first word and its space
abbrev pub others : List ℕ → List ℕ
others s = after_first is_space s

-- a text holds no space
abbrev pub HasNoSpace : List ℕ → Type 0
HasNoSpace s = position_or_len is_space s ≡ length s
