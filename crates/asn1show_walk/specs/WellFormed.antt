-- Well-formed elements: the contents of each constructed one are well-formed elements again (X.690, 8.1).
use Rattle.std.specs.Prelude.{◌≡◌, ℕ, zero, suc, ◌^◌, ◌<◌, ◌≤◌, Bool, true, false, List, [], ◌∷◌, ◌++◌, length}
use Rattle.yasna_base.specs.declared.mode.BERMode.{BERMode}
use Rattle.yasna_base.specs.declared.tag.PCBit.TheVariants.{Constructed}
use Rattle.yasna_base.specs.Digits.{IsBytes}
use Rattle.yasna_base.specs.Element.{Definite, Indefinite, end_of_contents}
use Rattle.yasna_base.specs.Identifier.{end_tag}
use Rattle.yasna_base.specs.Raw.{RawValue, IsJoining, JoiningBefore}

-- b is the element v; the contents of a constructed element are elements by R, although a raw value doesn't require that
pub data WellFramed (R : RawValue → List ℕ → Type 0) (m : BERMode) (v : RawValue) (b : List ℕ) : Type 0 where
  with_length : Definite m v.tag v.bit v.payload b → (v.bit ≡ Constructed → IsJoining R v.payload) → WellFramed R m v b
  with_zeros : (c : List ℕ) → Indefinite m v.tag v.bit c b → IsJoining R c → v.payload ≡ c ++ end_of_contents → WellFramed R m v b

-- as `WellFramed`; the tag isn't that of the end of contents and has a number of 64 bits, and the contents are bytes
pub record WellFormedOver (R : RawValue → List ℕ → Type 0) (m : BERMode) (v : RawValue) (b : List ℕ) : Type 0 where
  pub not_end : v.tag ≡ end_tag → ⊥
  pub in_range : v.tag.tag_number < 2 ^ 64
  pub in_bytes : IsBytes v.payload
  pub framed : WellFramed R m v b

-- within n levels, b is the element v, whose contents are well-formed elements within one level less where it is constructed
unfoldable pub IsWellFormed : ℕ → BERMode → RawValue → List ℕ → Type 0
IsWellFormed zero m v b = ⊥
IsWellFormed (suc n) m v b = WellFormedOver (IsWellFormed n m) m v b

-- s is one well-formed element
abbrev pub IsOne : ℕ → BERMode → List ℕ → Type 0
IsOne n m s = (v : RawValue) × IsWellFormed n m v s

-- s is one or more well-formed elements, one after the other
pub record AreElements (n : ℕ) (m : BERMode) (s : List ℕ) : Type 0 where
  pub joining : IsJoining (IsWellFormed n m) s
  pub some : 1 ≤ length s

-- contents end at s: at its end where their length is definite, else at two zeros
abbrev pub EndsHere : Bool → List ℕ → Type 0
EndsHere true s = s ≡ []
EndsHere false s = (r : List ℕ) × (s ≡ 0 ∷ 0 ∷ r)

-- well-formed elements are from s on to the end of contents
abbrev pub ClosesWell : ℕ → BERMode → Bool → List ℕ → Type 0
ClosesWell n m is_counted s = JoiningBefore (IsWellFormed n m) (EndsHere is_counted) s
