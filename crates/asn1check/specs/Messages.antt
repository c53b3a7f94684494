-- What bytes are as a message of a type, and what is written of them.
use Rattle.std.specs.Global.{Global}
use Rattle.std.specs.Prelude.{◌≡◌, ◌≤◌, ℕ, List, Result, Ok, Err, Vec}
use Rattle.asn1_input.specs.Pieces.{ArePieces, HasOther}
use Rattle.yasna.specs.Words.{Grammar, Encoding, ASN1Error, BERMode, Der, kind_of, max_depth, OutOfMemory}

-- s encodes no value in the mode m
abbrev pub EncodesNone : {A : Type 0} → Grammar A → BERMode → List ℕ → Type 0
EncodesNone {A} B m s = (v : A) → B m max_depth v s → ⊥

-- s encodes a value in the mode m
abbrev pub EncodesSome : {A : Type 0} → Grammar A → BERMode → List ℕ → Type 0
EncodesSome {A} B m s = (v : A) × B m max_depth v s

-- Ok if s encodes a value in the mode m, or an error: it encodes none, or memory ran out
abbrev pub Checked : {A : Type 0} → Grammar A → BERMode → List ℕ → Result (Unit {0}) ASN1Error → Type 0
Checked B m s (Ok _) = EncodesSome B m s
Checked B m s (Err e) = (kind_of e ≡ OutOfMemory → ⊥) → EncodesNone B m s

-- how many pieces s is, each of which encodes a value in the mode m, or an error: another piece is after some of them, or memory ran out
abbrev pub AllChecked : {A : Type 0} → Grammar A → BERMode → List ℕ → Result ℕ ASN1Error → Type 0
AllChecked B m s (Ok n) = (1 ≤ n) × ArePieces (EncodesSome B m) n s
AllChecked B m s (Err e) = (kind_of e ≡ OutOfMemory → ⊥) → (n : ℕ) × HasOther (EncodesSome B m) n s

-- s encodes a value in the mode m, whose DER encoding is out
pub record Reencodes {A : Type 0} (B : Grammar A) (encoding : Encoding A) (m : BERMode) (s out : List ℕ) : Type 0 where
  pub value : A
  pub read : B m max_depth value s
  pub written : out ≡ encoding Der value

-- what is written for s, or an error: s encodes no value, or memory ran out
abbrev pub Reencoded : {A : Type 0} → Grammar A → Encoding A → BERMode → List ℕ → Result (Vec ℕ Global) ASN1Error → Type 0
Reencoded B encoding m s (Ok out) = Reencodes B encoding m s out.items
Reencoded B encoding m s (Err e) = (kind_of e ≡ OutOfMemory → ⊥) → EncodesNone B m s
