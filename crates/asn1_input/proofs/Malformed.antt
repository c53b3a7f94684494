-- What is said of the place and the kind of an error, and of a block that has one.
use Rattle.std.proofs.Common.{◌≡◌, inl, inr, refl, ℕ, List, sym, subst, Result, Ok, Err}
use Rattle.std.specs.Global.{Global}
use Rattle.std.specs.List.{concat}
use Rattle.std.specs.Prelude.{IfErr, IfOk, Vec}
use Rattle.yasna_base.specs.declared.error.ASN1ErrorKind.{ASN1ErrorKind}
use Rattle.asn1show_walk.specs.Errors.{IsExternal, IsMalformed, WalkFails}
use Rattle.asn1show_walk.specs.declared.error.Expected.{Expected}
use Rattle.asn1show_walk.specs.declared.error.WalkError.{WalkError}
use Rattle.asn1show_walk.specs.declared.error.WalkError.TheVariants.{Malformed, Memory, Output, ClosedOutput}
use Rattle.asn1show_walk.proofs.WalkFails.{fails_by}
use Rattle.asn1_input.specs.Reader.{texts, BlockFails, BlockLacks, IsBody, IsDecoded, NoBase64, NoBlock, NoBody, no_base64, no_body}
use Rattle.asn1_input.specs.Text.{IsBase64, IsMemoryError}
use Rattle.asn1_input.specs.declared.block.TextLine.{TextLine}

pub malformed_is : (Q : ℕ → ASN1ErrorKind → Type 0) (f : WalkError) (o : ℕ) (k : ASN1ErrorKind) (e : Expected) → f ≡ Malformed o k e → Q o k → IsMalformed Q f
malformed_is Q f o k e same q = subst (IsMalformed Q) (sym same) q

pub malformed_by : (P Q : ℕ → ASN1ErrorKind → Type 0) (f : WalkError) → ((o : ℕ) (k : ASN1ErrorKind) → P o k → Q o k) → IsMalformed P f → IsMalformed Q f
malformed_by P Q (Malformed o k e) g x = g o k x
malformed_by P Q Memory g x = x
malformed_by P Q Output g x = x
malformed_by P Q ClosedOutput g x = x

-- what no offset and kind has
pub never_malformed : (Q : ℕ → ASN1ErrorKind → Type 0) (f : WalkError) → IsMalformed Q f → ((o : ℕ) (k : ASN1ErrorKind) → Q o k → ⊥) → ⊥
never_malformed Q (Malformed o k e) x none = none o k x
never_malformed Q Memory x none = x
never_malformed Q Output x none = x
never_malformed Q ClosedOutput x none = x

-- ---- what a block decodes to, by its body
module _ (lines : List TextLine) (end : ℕ) where
  pub by_body : (body : List TextLine) → IsBody lines body → (r : Result (Vec ℕ Global) WalkError) → IfOk r (λ bytes. IsBase64 (concat (texts body)) bytes.items) →
      IfErr r (λ f. WalkFails IsMemoryError (NoBase64 body end) f) → IsDecoded lines end r
  by_body body b (Ok bytes) ok err = record {
    headers_end = b.headers_end;
    is_plain = b.is_plain;
    decodes = subst (λ z. IsBase64 (concat z) bytes.items) b.same ok;
  }
  by_body body b (Err f) ok err = fails_by IsMemoryError f (λ o k x. no_base64 body b x) err

  pub by_no_body : (f : WalkError) → IsMalformed (NoBody lines end) f → WalkFails IsMemoryError (NoBlock lines end) f
  by_no_body f x = inr (malformed_by (NoBody lines end) (NoBlock lines end) f (λ o k n. no_body n) x)

-- ---- a block that isn't what is awaited

-- the error that a block has in place of bytes is the one that is returned of it
pub own_error : (Q : List ℕ → ℕ → ASN1ErrorKind → Type 0) (f : WalkError) → WalkFails IsExternal (BlockFails Q (Err f)) f
own_error Q (Malformed o k e) = inr (refl, refl)
own_error Q Memory = inl tt
own_error Q Output = inl tt
own_error Q ClosedOutput = inl tt

malformed_not_external : (P : ℕ → ASN1ErrorKind → Type 0) (f : WalkError) → IsMalformed P f → IsExternal f → ⊥
malformed_not_external P (Malformed o k e) x y = y
malformed_not_external P Memory x y = x
malformed_not_external P Output x y = x
malformed_not_external P ClosedOutput x y = x

-- a block that fails so isn't what is awaited, where failing excludes it
pub lacks : (P : List ℕ → Type 0) (Q : List ℕ → ℕ → ASN1ErrorKind → Type 0) (r : Result (Vec ℕ Global) WalkError) (o : ℕ) (k : ASN1ErrorKind) →
    ((bytes : List ℕ) → Q bytes o k → P bytes → ⊥) → BlockFails Q r o k → BlockLacks P r
lacks P Q (Ok bytes) o k none x = none bytes.items x
lacks P Q (Err f) o k none x = malformed_not_external (λ at z. (at ≡ o) × (z ≡ k)) f x
