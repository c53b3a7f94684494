-- The laws of reading of a type. B m n v b says that b encodes v in the mode m within n levels, S m n b that b encodes some value,
-- and E says which values are equal.
use Rattle.std.specs.Prelude.{◌≡◌, ℕ, ◌≤◌, List, ◌++◌}
use Rattle.yasna_base.specs.declared.mode.BERMode.{BERMode}
use Rattle.yasna_base.specs.Grammar.{Grammar, Members}
use Rattle.yasna_base.specs.Identifier.{StartsElement, AtEnd}

-- E is an equivalence
pub record IsSame {A : Type 0} (E : A → A → Type 0) : Type 0 where
  pub reflexive : (v : A) → E v v
  pub symmetric : (v w : A) → E v w → E w v
  pub transitive : (u v w : A) → E u v → E v w → E u w

-- the laws of any grammar, of elements or of parts
pub record IsMeaning {A : Type 0} (E : A → A → Type 0) (B : Grammar A) (S : Members) : Type 0 where
  pub equal : IsSame E
  -- an encoding of a value is among the encodings
  pub among : (m : BERMode) (n : ℕ) (v : A) (b : List ℕ) → B m n v b → S m n b
  -- equal bytes encode equal values
  pub exact : (m : BERMode) (n k : ℕ) (v w : A) (b : List ℕ) → B m n v b → B m k w b → E v w
  -- what is read within some levels is read within more
  pub deeper : (m : BERMode) (n k : ℕ) (v : A) (b : List ℕ) → n ≤ k → B m n v b → B m k v b

-- no member of S, within any levels, is a proper prefix of another
abbrev pub IsPrefixFree : Members → Type 0
IsPrefixFree S = (m : BERMode) (n k : ℕ) (b c r s : List ℕ) → S m n b → S m k c → b ++ r ≡ c ++ s → b ≡ c

-- the laws of reading of a type
pub record IsCoding {A : Type 0} (E : A → A → Type 0) (B : Grammar A) (S : Members) : Type 0 where
  pub meaning : IsMeaning E B S
  -- an encoding begins with an identifier, which isn't that of the end of contents
  pub opens : (m : BERMode) (n : ℕ) (b : List ℕ) → S m n b → StartsElement b
  -- encodings are prefix-free
  pub prefix_free : IsPrefixFree S

-- the laws of reading of the parts of a tuple, which may be empty
pub record ArePartsCoding {A : Type 0} (E : A → A → Type 0) (C : Grammar A) (S : Members) : Type 0 where
  pub meaning : IsMeaning E C S
  pub prefix_free : IsPrefixFree S

-- the laws of reading of contents, which end where nothing is left or the end of contents is there
pub record IsContentsCoding {A : Type 0} (E : A → A → Type 0) (C : Grammar A) (S : Members) : Type 0 where
  pub meaning : IsMeaning E C S
  pub ends : (m : BERMode) (n k : ℕ) (b c r s : List ℕ) → AtEnd r → AtEnd s → S m n b → S m k c → b ++ r ≡ c ++ s → b ≡ c

-- the bytes that encode some value by B
abbrev pub Any : {A : Type 0} → Grammar A → Members
Any {A} B m n b = (v : A) × B m n v b
