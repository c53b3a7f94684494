-- The count of octets of a text in UTF-16, by its bytes in UTF-8.
use Rattle.std.specs.Prelude.{ℕ, if◌then◌else◌, nat_lt}

-- the octets in UTF-16 of the character that a byte begins; a byte from 128 to 191 begins none
abbrev pub octets_begun : ℕ → ℕ
octets_begun b = if nat_lt b 128 then 2 else (if nat_lt b 192 then 0 else (if nat_lt b 240 then 2 else 4))
