-- What a read does that also returns the bytes that it consumed.
use Rattle.std.specs.Borrow.{Bor}
use Rattle.std.specs.Prelude.{Err, List, Ok, Result, ℕ, ◌++◌, ◌≡◌}
use Rattle.yasna_base.specs.declared.error.ASN1Error.{ASN1Error}
use Rattle.yasna_reader.specs.Callback.{Lent}
use Rattle.yasna_reader.specs.State.{Reading, Does, UnlessFailed}
use Rattle.yasna_reader.specs.declared.callback.Outcome.{Outcome}
use Rattle.yasna_reader.specs.declared.callback.Outcome.TheVariants.{Matched, NoMatch, Failed}

-- a value v and the bytes b that were taken: those before are b and those that are left
abbrev pub ConsumedBytes : {A : Type 0} → List ℕ → A → Result (A × Bor (List ℕ)) ASN1Error → List ℕ → Type 0
ConsumedBytes before v (Ok x) after = (x.0 ≡ v) × (before ≡ x.1.now ++ after)
ConsumedBytes before v (Err e) after = ⊥

-- what the call makes of what its callback came to
abbrev pub Buffered : {A : Type 0} → List ℕ → Outcome A → Result (A × Bor (List ℕ)) ASN1Error → List ℕ → Type 0
Buffered before (Matched v) r after = ConsumedBytes before v r after
Buffered before (NoMatch e) r after = r ≡ Err e
Buffered before (Failed e) r after = r ≡ Err e

-- the callback is handed the reading, and the bytes that it took are returned beside its value; where it has no match, the
-- reading is as it was
abbrev pub ReadsBuffer : {A : Type 0} → Does A → Reading → Result (A × Bor (List ℕ)) ASN1Error → Reading → Type 0
ReadsBuffer {A} Callback s r s' = UnlessFailed s.failed s r s' ((o : Outcome A) × Lent Callback s s o s' × Buffered s.left o r s'.left)
