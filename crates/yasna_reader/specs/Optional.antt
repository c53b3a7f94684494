-- What reads of parts do that may be omitted (X.690, 8.9.3 and 11.5).
use Rattle.std.specs.Prelude.{Bool, Err, None, Ok, Option, Result, Some, false, length, nat_lt, true, ℕ, ◌≡◌, ◌⊎◌}
pub use Rattle.yasna_base.specs.Default.{TakesDefault}
use Rattle.yasna_base.specs.Error.{error_of}
use Rattle.yasna_base.specs.declared.error.ASN1Error.{ASN1Error}
use Rattle.yasna_base.specs.declared.error.ASN1ErrorKind.TheVariants.{Invalid}
use Rattle.yasna_reader.specs.Callback.{Hands}
use Rattle.yasna_reader.specs.State.{Reading, failing_if, untagged, Does, UnlessFailed}
use Rattle.yasna_reader.specs.declared.callback.Outcome.{Outcome}
use Rattle.yasna_reader.specs.declared.callback.Outcome.TheVariants.{Matched, NoMatch, Failed}

-- a value, or None if the callback had no match
abbrev pub optional : {A : Type 0} → Outcome A → Result (Option A) ASN1Error
optional (Matched v) = Ok (Some v)
optional (NoMatch e) = Ok None
optional (Failed e) = Err e

-- the callback is handed the reading
abbrev pub ReadsOptional : {A : Type 0} → Does A → Does (Option A)
ReadsOptional {A} Callback s r s' = UnlessFailed s.failed s r s' ((o : Outcome A) × Hands Callback (untagged s) o s' × (r ≡ optional o))

-- The outcome of a value v of a reading that left z, where the default is d (X.690, 11.5). It is accepted if it isn't the default, or
-- the mode accepts a value that is. It is rejected if it equals the default and the mode doesn't accept that: the error is sticky if
-- input was consumed
pub data UnlessDefault {A : Type 0} (eq : A → A → Bool) (d v : A) (consumed : Bool) (z : Reading) (r : Result A ASN1Error) (s' : Reading) : Type 0 where
  taken : (TakesDefault z.mode ⊎ (eq v d ≡ false)) → r ≡ Ok v → s' ≡ z → UnlessDefault eq d v consumed z r s'
  equal : (TakesDefault z.mode → ⊥) → eq v d ≡ true → r ≡ Err (error_of Invalid) → s' ≡ failing_if consumed z (error_of Invalid) →
      UnlessDefault eq d v consumed z r s'

-- the default d for none; a value of a reading of n bytes that left z, unless the mode rejects it
abbrev pub DefaultsTo : {A : Type 0} → (A → A → Bool) → A → ℕ → Outcome A → Does A
DefaultsTo eq d n (Matched v) z r s' = UnlessDefault eq d v (nat_lt (length z.left) n) z r s'
DefaultsTo eq d n (NoMatch e) z r s' = (r ≡ Ok d) × (s' ≡ z)
DefaultsTo eq d n (Failed e) z r s' = (r ≡ Err e) × (s' ≡ z)

-- the callback is handed the reading, and what it comes to is put to the test
pub record ReadsOrDefaults {A : Type 0} (Callback : Does A) (eq : A → A → Bool) (d : A) (s : Reading) (r : Result A ASN1Error) (s' : Reading) : Type 0 where
  pub outcome : Outcome A
  pub between : Reading
  pub hands : Hands Callback s outcome between
  pub defaults : DefaultsTo eq d (length s.left) outcome between r s'

-- what read_default does: a sticky error comes first
abbrev pub ReadsDefault : {A : Type 0} → Does A → (A → A → Bool) → A → Does A
ReadsDefault Callback eq d s r s' = UnlessFailed s.failed s r s' (ReadsOrDefaults Callback eq d (untagged s) r s')
