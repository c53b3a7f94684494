-- The elements that are open around the next one.
use Rattle.std.specs.Prelude.{◌≡◌, ◌+◌, ◌-◌, min, ℕ, Some, unwrap_or}
use Rattle.asn1show_json.specs.declared.open_elements.OpenElements.{OpenElements}

-- how many open elements are around one at a depth: the outermost one is at the base
abbrev pub around : OpenElements → ℕ → ℕ
around elements depth = min (depth - unwrap_or elements.base depth) elements.count

-- the elements that are open after one at a depth, of which this many ended before it
pub record OpensElement (old : OpenElements) (depth ends : ℕ) (new : OpenElements) : Type 0 where
  pub ended : ends + around old depth ≡ old.count
  pub counted : new.count ≡ min (around old depth + 1) 255
  pub base : new.base ≡ Some (unwrap_or old.base depth)
