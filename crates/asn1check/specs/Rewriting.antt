-- What is written of a message that was read.
use Rattle.std.specs.Global.{Global}
use Rattle.std.specs.Prelude.{◌≡◌, ℕ, List, Result, Ok, Err, Vec}
use Rattle.yasna.specs.Words.{Grammar, Encoding, ASN1Error, Der, kind_of, max_depth, OutOfMemory}

-- s was read as a value, which is written as out, and these are the same bytes
pub record Rewrites {A : Type 0} (B : Grammar A) (encoding : Encoding A) (s out : List ℕ) : Type 0 where
  pub value : A
  pub read : B Der max_depth value s
  pub written : out ≡ encoding Der value
  pub same : out ≡ s

-- what is written for s, or an error: s encodes no value, or memory ran out
abbrev pub Rewritten : {A : Type 0} → Grammar A → Encoding A → List ℕ → Result (Vec ℕ Global) ASN1Error → Type 0
Rewritten B encoding s (Ok out) = Rewrites B encoding s out.items
Rewritten {A} B encoding s (Err e) = (kind_of e ≡ OutOfMemory → ⊥) → (v : A) → B Der max_depth v s → ⊥
