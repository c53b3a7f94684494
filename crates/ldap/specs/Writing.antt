-- Closures that write the values within a value: the values they accept, and the results of their calls.
use Rattle.std.proofs.Common.{◌≡◌, [], List, None, Result}
use Rattle.std.specs.Borrow.{Bor, MutBor}
use Rattle.std.specs.Fn.{Mut, Called}
use Rattle.std.specs.List.{AllByRecursion}
use Rattle.yasna_base.specs.declared.error.ASN1Error.{ASN1Error}
use Rattle.yasna_base.specs.Grammar.{Encoding}
use Rattle.yasna_writer.specs.View.{Written}
use Rattle.yasna_notation.specs.Sets.{FailsOnlyOutOfMemory, WroteElement}

-- a closure accepts each of these values, where a part begins
abbrev pub TakesEach : {F A R : Type 0} → Mut F (Bor A × (MutBor Written × Unit {0})) R → List A → Type 0
TakesEach {F} {A} g vs =
    AllByRecursion (λ v. (f : F) (p : Bor A) (w : MutBor Written) → p.now ≡ v → (w.now.bytes ≡ []) × (w.now.tag ≡ None) → FailsOnlyOutOfMemory w.now.failed →
    g.pre f (p, (w, tt))) vs

-- each call of a closure writes the encoding of a value as a part
abbrev pub WritesEach : {F A : Type 0} → Mut F (Bor A × (MutBor Written × Unit {0})) (Result (Unit {0}) ASN1Error × (MutBor Written × Unit {0})) →
    Encoding A → Type 0
WritesEach {F} {A} g encoding =
    (f f' : F) (p : Bor A) (w w' : MutBor Written) (r : Result (Unit {0}) ASN1Error) → Called g f (p, (w, tt)) (r, (w', tt)) f' →
    WroteElement (encoding w.now.mode p.now) w.now w'.now r
