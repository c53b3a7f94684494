-- A table of object identifiers and their names.
use Rattle.std.specs.Prelude.{◌≡◌, ◌<◌, ℕ, List, length, slice_index_or, Option, Some, None}
use Rattle.std.specs.Borrow.{Bor}
use Rattle.std.specs.List.{HoldsAt}
use Rattle.std.specs.declared.cmp.Ordering.TheVariants.{Less}
use Rattle.yasna_base.specs.Order.{octets_cmp}
use Rattle.asn1show_names.specs.declared.names.Names.{Names}

-- a row: an object identifier with its dots, and its name
abbrev pub Row : Type 0
Row = Bor (List ℕ) × Bor (List ℕ)

-- the rows of names
abbrev pub rows_of : Names → List Row
rows_of names = names.rows.items

-- a row has this object identifier and this name
abbrev pub HasName : List Row → List ℕ → List ℕ → Type 0
HasName rows oid name = (i : ℕ) × (i < length rows) × HoldsAt (λ (row : Row). (row.0.now ≡ oid) × (row.1.now ≡ name)) rows i

-- the rows are in the order of the octets of their object identifiers, each of which is there once
abbrev pub IsSorted : List Row → Type 0
IsSorted rows = (i j : ℕ) (d : Row) → i < j → j < length rows → octets_cmp (slice_index_or rows i d).0.now (slice_index_or rows j d).0.now ≡ Less

-- a search of rows by an object identifier: a name that is found is that of a row, and if none is, sorted rows haven't the identifier
abbrev pub IsFound : List Row → List ℕ → Option (Bor (List ℕ)) → Type 0
IsFound rows oid (Some name) = HasName rows oid name.now
IsFound rows oid None = IsSorted rows → (name : List ℕ) → HasName rows oid name → ⊥
