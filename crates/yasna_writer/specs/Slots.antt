-- Entries in blocks of one size.
use Rattle.std.specs.Prelude.{◌≡◌, ℕ, ◌≤◌, ◌^◌, List, [], ◌∷◌, ◌++◌, length, Vec}
use Rattle.std.specs.Global.{Global}
use Rattle.yasna_writer.specs.declared.buffer.Slot.{Slot}

-- the slots of blocks, one block after the other
abbrev pub in_blocks : List (Vec Slot Global) → List Slot
in_blocks [] = []
in_blocks (b ∷ bs) = b.items ++ in_blocks bs

-- each block is full
abbrev pub AreFull : List (Vec Slot Global) → Type 0
AreFull [] = Unit {0}
AreFull (b ∷ bs) = (length b.items ≡ 4096) × AreFull bs

-- full blocks that hold this many slots, and a last one
pub record AreBlocks (full : List (Vec Slot Global)) (before : ℕ) (last : List Slot) : Type 0 where
  pub whole : AreFull full
  pub counted : before ≡ length (in_blocks full)
  pub few : before ≤ 2 ^ 63

-- a block is after the full ones, and an empty one begins
pub record PutsAfter (block : List Slot) (old new : List (Vec Slot Global)) (last : List Slot) : Type 0 where
  pub vec : Vec Slot Global
  pub holds : vec.items ≡ block
  pub after : new ≡ old ++ (vec ∷ [])
  pub empty : last ≡ []
