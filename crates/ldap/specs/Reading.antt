-- Closures that read the values within a value: the readings they accept, and the results of their calls.
use Rattle.std.proofs.Common.{◌<◌, ℕ, Result}
use Rattle.std.specs.Borrow.{MutBor}
use Rattle.std.specs.Fn.{Mut, Called}
use Rattle.yasna_base.specs.declared.error.ASN1Error.{ASN1Error}
use Rattle.yasna_reader.specs.State.{Reading}
use Rattle.yasna_notation.specs.Notation.{Meaning, ReadsMeaning}

-- a closure accepts any reading with fewer levels than these
abbrev pub TakesFewer : {F R : Type 0} → Mut F (MutBor Reading × Unit {0}) R → ℕ → Type 0
TakesFewer {F} g n = (f : F) (p : MutBor Reading) → p.now.levels < n → g.pre f (p, tt)

-- each call of a closure reads a value that means x
abbrev pub ReadsAll : {F A : Type 0} → Mut F (MutBor Reading × Unit {0}) (Result A ASN1Error × (MutBor Reading × Unit {0})) → Meaning A → Type 0
ReadsAll {F} {A} g x =
    (f f' : F) (p q : MutBor Reading) (r : Result A ASN1Error) → Called g f (p, tt) (r, (q, tt)) f' → ReadsMeaning x p.now r q.now
