-- What a run over one kind of value does.
use Rattle.std.proofs.Common.{ℕ, List, Some, None, Ok, Err, refl}
use Rattle.std.specs.Prelude.{Result, Option, OnOk, IfSome}
use Rattle.yasna.specs.base.declared.error.ASN1Error.{ASN1Error}
use Rattle.yasna.specs.base.declared.mode.BERMode.{BERMode}
use Rattle.yasna.specs.base.declared.mode.BERMode.TheVariants.{Der}
use Rattle.yasna_tool_run.specs.Engine.{IfRejected}
use Rattle.yasna_tool_run.specs.Kinds.{Recoded}
use Rattle.yasna_tool_run.specs.declared.engine.RunFault.{RunFault}
use Rattle.yasna_tool_run.specs.declared.engine.RunFault.TheVariants.{Refused, Device}
use Rattle.yasna.specs.base.Grammar.{Grammar, Encoding}

-- the encoding of a value, as view sees it, is what the bytes are recoded to
pub recoded : {V A : Type 0} (B : Grammar A) (view : V → A) (encoding : Encoding A) (m : BERMode) (P : List ℕ → Type 0)
    (s : Option (List ℕ)) (r : Result (Unit {0}) RunFault) → OnOk r (IfSome s (λ b. (v : V) × B m 101 (view v) b × P (encoding Der (view v)))) →
    OnOk r (IfSome s (λ b. (out : List ℕ) × Recoded B encoding m b out × P out))
recoded B view encoding m P None (Ok u) h = tt
recoded B view encoding m P (Some b) (Ok u) h = (encoding Der (view h.0), record { value = view h.0; read = h.1; written = refl }, h.2)
recoded B view encoding m P s (Err e) h = h

-- bytes of which reading asks more than they are encode no value, and are recoded to nothing
pub not_recoded : {A : Type 0} {S : List ℕ → Type 0} (B : Grammar A) (encoding : Encoding A) (m : BERMode) →
    ((v : A) (b : List ℕ) → B m 101 v b → S b) → (C : ASN1Error → Type 0) (End : Type 0) (s : Option (List ℕ)) (r : Result (Unit {0}) RunFault) →
    IfRejected r (λ e. C e → End × IfSome s (λ b. S b → ⊥)) → IfRejected r (λ e. C e → IfSome s (λ b. (out : List ℕ) → Recoded B encoding m b out → ⊥))
not_recoded B encoding m among C End s (Ok u) h = tt
not_recoded B encoding m among C End None (Err (Refused e)) h = λ c. tt
not_recoded B encoding m among C End (Some b) (Err (Refused e)) h = λ c out x. (h c).1 (among x.value b x.read)
not_recoded B encoding m among C End s (Err Device) h = tt
