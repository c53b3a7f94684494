-- What a parse of a whole input does.
use Rattle.std.specs.Prelude.{Err, IsErrAnd, List, None, Ok, Option, Result, Some, [], ℕ, ◌∷◌, ◌≡◌}
use Rattle.yasna_base.specs.Error.{error_of}
use Rattle.yasna_base.specs.declared.error.ASN1Error.{ASN1Error}
use Rattle.yasna_base.specs.declared.error.ASN1ErrorKind.TheVariants.{Extra}
use Rattle.yasna_base.specs.declared.mode.BERMode.{BERMode}
use Rattle.yasna_reader.specs.State.{Reading, starts, Does}

-- a sticky error is returned before anything else
abbrev pub unless_failed : {A : Type 0} → Option ASN1Error → Result A ASN1Error → Result A ASN1Error
unless_failed None r = r
unless_failed (Some e) r = Err e

-- no bytes may be left after a value
abbrev pub ended : {A : Type 0} → Result A ASN1Error → List ℕ → Result A ASN1Error
ended (Err e) s = Err e
ended (Ok v) [] = Ok v
ended (Ok v) (x ∷ s) = Err (error_of Extra)

-- what a parse returns where its callback returned r and left s
abbrev pub parsed : {A : Type 0} → Result A ASN1Error → Reading → Result A ASN1Error
parsed r s = unless_failed s.failed (ended r s.left)

-- a parse of s in the mode m: what Callback says of the reading that it starts with, and what is made of the result
pub record Parses {A : Type 0} (Callback : Does A) (m : BERMode) (s : List ℕ) (r : Result A ASN1Error) : Type 0 where
  pub own : Result A ASN1Error
  pub left : Reading
  pub obeys : Callback (starts s m) own left
  pub returns : r ≡ parsed own left

-- what such a parse returns where its callback, which returns errors of its own, gave the result r and left s: from says what becomes of
-- an error
abbrev pub EndsParse : {A E : Type 0} → (ASN1Error → E → Type 0) → Option ASN1Error → Result A E → List ℕ → Result A E → Type 0
EndsParse from (Some e) own s r = IsErrAnd r (λ f. from e f)
EndsParse from None (Err f) s r = r ≡ Err f
EndsParse from None (Ok v) [] r = r ≡ Ok v
EndsParse from None (Ok v) (x ∷ s) r = IsErrAnd r (λ f. from (error_of Extra) f)

abbrev pub IsParsed : {A E : Type 0} → (ASN1Error → E → Type 0) → Result A E → Reading → Result A E → Type 0
IsParsed from own s r = EndsParse from s.failed own s.left r

-- as `Parses`, where the callback returns its own type of errors
pub record TryParses {A E : Type 0} (Callback : Reading → Result A E → Reading → Type 0) (from : ASN1Error → E → Type 0) (m : BERMode) (s : List ℕ)
    (r : Result A E) : Type 0 where
  pub own : Result A E
  pub left : Reading
  pub obeys : Callback (starts s m) own left
  pub returns : IsParsed from own left r
