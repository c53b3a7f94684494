-- What a run that returns an error says.
use Rattle.std.proofs.Common.{◌≡◌, ℕ, ◌<◌, Ok, Err, ap, subst, sym, ◌∙◌, arith}
use Rattle.std.specs.Prelude.{Result, OnOk, OnErr}
use Rattle.std.specs.Result.{IsErrAnd}
use Rattle.yasna.specs.base.declared.error.ASN1Error.{ASN1Error}
use Rattle.yasna_tool_run.specs.Engine.{IfRejected, IfIoError}
use Rattle.yasna_tool_run.specs.declared.engine.RunFault.{RunFault}
use Rattle.yasna_tool_run.specs.declared.engine.RunFault.TheVariants.{Refused, Device}

-- a count that is what it was didn't grow
pub not_grown : {P : Type 0} (old new : ℕ) → new ≡ old → old < new → P
not_grown old new e h = absurd (omega arith)

-- where only an end fails, no error is returned
pub none_rejected : {A : Type 0} (Q : Type 0) (r : Result A RunFault) (P : ASN1Error → Type 0) → OnErr r ((r ≡ Err Device) × Q) → IfRejected r P
none_rejected Q (Ok x) P h = tt
none_rejected Q (Err (Refused e)) P h = absurd (cc h.0)
none_rejected Q (Err Device) P h = tt

-- a property of the error of an end holds where only an end fails
pub end_failed : {A Q P : Type 0} (r : Result A RunFault) → (Q → P) → OnErr r ((r ≡ Err Device) × Q) → IfIoError r P
end_failed (Ok x) f h = tt
end_failed (Err (Refused e)) f h = tt
end_failed (Err Device) f h = f h.1

-- what a run promises of its result: of an Ok, of an error, of an end that failed, and of what is written where a read failed
abbrev pub Promises : (O E F C K : Type 0) (R : ASN1Error → Type 0) (D G : Type 0) → Result (Unit {0}) RunFault → Type 0
Promises O E F C K R D G r = record {
  ok : OnOk r O;
  to_the_end : OnOk r E;
  flushed : OnOk r F;
  counts : OnOk r C;
  rejected_counts : IfRejected r (λ _. C);
  rejected_writes_nothing : IfRejected r (λ _. K);
  rejected : IfRejected r R;
  io_error : IfIoError r D;
  failed_read : G → K;
}

module _ (O E F C K : Type 0) (R : ASN1Error → Type 0) (D G : Type 0) where
  -- an error, where nothing was written
  pub rejected_with : (e : ASN1Error) (r : Result (Unit {0}) RunFault) → IsErrAnd r (λ f. f ≡ Refused e) → C → K → R e → Promises O E F C K R D G r
  rejected_with e (Ok x) h c k p = absurd h
  rejected_with e (Err f) h c k p = subst (λ z. Promises O E F C K R D G (Err z)) (sym h) (record {
    ok = tt;
    to_the_end = tt;
    flushed = tt;
    counts = tt;
    rejected_counts = c;
    rejected_writes_nothing = k;
    rejected = p;
    io_error = tt;
    failed_read = λ _. k;
  })

  -- an end that failed, where nothing was written
  failed_with : (r : Result (Unit {0}) RunFault) → IsErrAnd r (λ f. f ≡ Device) → K → D → Promises O E F C K R D G r
  failed_with (Ok x) h k d = absurd h
  failed_with (Err f) h k d = subst (λ z. Promises O E F C K R D G (Err z)) (sym h) (record {
    ok = tt;
    to_the_end = tt;
    flushed = tt;
    counts = tt;
    rejected_counts = tt;
    rejected_writes_nothing = tt;
    rejected = tt;
    io_error = d;
    failed_read = λ _. k;
  })

  -- an error that is passed on, where nothing was written, says no more than it said
  pub handed_on : (B : Type 0) {Q : Type 0} {P : ASN1Error → Type 0} (f : RunFault) (r : Result (Unit {0}) RunFault) → IsErrAnd r (λ z. z ≡ f) → K
      → IfRejected {A = B} (Err f) P → ((e : ASN1Error) → P e → C × R e) → IfIoError {A = B} (Err f) Q → (Q → D) → Promises O E F C K R D G r
  handed_on B (Refused e) r h k p rejects q fails = let x = rejects e p in rejected_with e r h x.0 k x.1
  handed_on B Device r h k p rejects q fails = failed_with r h k (fails q)

-- where an end failed, what is said of that is so
pub when_io_error : {A : Type 0} {P : Type 0} (r : Result A RunFault) (f : RunFault) → r ≡ Err f → f ≡ Device → IfIoError r P → P
when_io_error {A = A} {P = P} r f e d h = subst (λ z. IfIoError {A = A} z P) (e ∙ ap Err d) h

-- a clause on rejected bytes holds where the bytes were rejected
pub when_rejected : {A : Type 0} {P : Type 0} (r : Result A RunFault) (f : RunFault) {x : ASN1Error} → r ≡ Err f → f ≡ Refused x
    → IfRejected r (λ _. P) → P
when_rejected {A = A} {P = P} r f e d h = subst (λ z. IfRejected {A = A} z (λ _. P)) (e ∙ ap Err d) h
