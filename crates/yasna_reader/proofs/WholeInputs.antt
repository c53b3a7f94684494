-- Decoding whole inputs.
use Rattle.std.proofs.Common.{◌≡◌, ℕ, List, [], ◌∷◌, ◌++◌, length, Option, Some, None, Result, Ok, Err, Bool, false, ◌⊎◌, inl, inr, refl, sym, ap, subst, ◌∙◌, append-nil, length-append, MatchResult, arith}
use Rattle.std.specs.Prelude.{IfOk, IfErr}
use Rattle.yasna_base.specs.declared.error.ASN1Error.{ASN1Error}
use Rattle.yasna_base.specs.declared.error.ASN1ErrorKind.{ASN1ErrorKind}
use Rattle.yasna_base.specs.declared.error.ASN1ErrorKind.TheVariants.{Eof, Extra, IntegerOverflow, StackOverflow, Invalid, OutOfMemory}
use Rattle.yasna_base.specs.declared.mode.BERMode.{BERMode}
use Rattle.yasna_base.specs.Error.{kind_of}
use Rattle.yasna_base.specs.Grammar.{Grammar, Members, Encoding, Depth}
use Rattle.yasna_base.specs.Identifier.{AtEnd}
use Rattle.yasna_base.specs.Coding.{IsCoding}
use Rattle.yasna_base.specs.Canonical.{IsCanonicalMode, IsWritten}
use Rattle.yasna_reader.specs.State.{Reading, starts}
use Rattle.yasna_reader.specs.Parse.{unless_failed, ended, parsed}
use Rattle.yasna_reader.specs.Decodes.{Explains, StickyExplains, Decodes, Decoded}
use Rattle.yasna_bytes.proofs.Rejection.{blames_not_memory}

sticky_none : (f : ASN1Error) → ◌≡◌ {A = Option ASN1Error} (Some f) None → ⊥
sticky_none f e = cc

module _ {A : Type 0} {E : A → A → Type 0} {B : Grammar A} {S : Members} (may_allocate : Bool) (laws : IsCoding E B S) (m : BERMode) (s : List ℕ) where
  all_read : (v : A) (prefix rest : List ℕ) → s ≡ prefix ++ rest → B m 101 v prefix → Decoded may_allocate B S m s (ended (Ok v) rest)
  all_read v prefix [] joined member = subst (λ z. B m 101 v z) (sym (joined ∙ append-nil prefix)) member
  all_read v prefix (x ∷ rest) joined member = record {
    none = λ k i.
        let e = laws.prefix_free m 101 101 s prefix [] (x ∷ rest) i (laws.meaning.among m 101 v prefix member) (append-nil s ∙ joined) in
        omega (arith, ap length e, ap length joined, length-append prefix (x ∷ rest));
    memory = λ k. absurd (cc);
    no_match = λ i k. absurd (cc);
  }

  not_read : (k : Option ASN1Error) (e : ASN1Error) → Explains may_allocate (S m 101) s e → StickyExplains may_allocate (S m 101) s k →
      (AtEnd s → (k ≡ None) × (kind_of e ≡ OutOfMemory → ⊥)) → Decoded {A = A} may_allocate B S m s (unless_failed k (Err e))
  not_read None e x k no_match = record { none = λ q i. x.none q s [] (sym (append-nil s)) i; memory = x.memory; no_match = λ i. (no_match i).1 }
  not_read (Some f) e x k no_match = record {
    none = λ q i. k.none q s [] (sym (append-nil s)) i;
    memory = k.memory;
    no_match = λ i. absurd (sticky_none f (no_match i).0);
  }

  parsed_decodes : (own : Result A ASN1Error) (left : Reading) → Decodes may_allocate B S (starts s m) own left → Decoded may_allocate B S m s (parsed own left)
  parsed_decodes (Ok v) left h =
      subst (λ (z : Reading). Decoded may_allocate B S m s (unless_failed z.failed (ended (Ok v) z.left))) (sym h.left) (all_read v h.prefix h.rest h.joined h.member)
  parsed_decodes (Err e) left h = not_read left.failed e h.0.explains h.0.failed (λ i. (ap (λ (z : Reading). z.failed) (h.1 i).0, blames_not_memory (h.1 i).1))

  -- whole bytes, by what the callback does to a reading of them
  pub whole : (own : Result A ASN1Error) (left : Reading) → Decodes may_allocate B S (starts s m) own left → (r : Result A ASN1Error) → r ≡ parsed own left →
      Decoded may_allocate B S m s r
  whole own left h r e = subst (λ z. Decoded may_allocate B S m s z) (sym e) (parsed_decodes own left h)

memory_or : (k : ASN1ErrorKind) → (k ≡ OutOfMemory) ⊎ (k ≡ OutOfMemory → ⊥)
memory_or Eof = inr (λ e. cc)
memory_or Extra = inr (λ e. cc)
memory_or IntegerOverflow = inr (λ e. cc)
memory_or StackOverflow = inr (λ e. cc)
memory_or Invalid = inr (λ e. cc)
memory_or OutOfMemory = inl refl

-- bytes that encode a value are read as an equal one, unless out of memory
pub exactly : {A : Type 0} {E : A → A → Type 0} {B : Grammar A} {S : Members} (may_allocate : Bool) → IsCoding E B S →
    (m : BERMode) (s : List ℕ) (r : Result A ASN1Error) → Decoded may_allocate B S m s r → (v : A) → B m 101 v s →
    MatchResult r (λ w. E w v) (λ e. kind_of e ≡ OutOfMemory)
exactly may_allocate laws m s (Ok w) h v k = laws.meaning.exact m 101 101 w v s h k
exactly may_allocate laws m s (Err e) h v k = elim (memory_or (kind_of e)) [ inl f ↦ f | inr f ↦ absurd (h.none f (laws.meaning.among m 101 v s k)) ]

-- bytes that encode a value are read as what represents an equal one, unless out of memory
pub exactly_as : {U A : Type 0} {E : A → A → Type 0} {B : Grammar A} {S : Members} (may_allocate : Bool) (f : U → A) →
    IsCoding E B S → (m : BERMode) (s : List ℕ) (r : Result U ASN1Error) → Decoded {A = U} may_allocate (λ m n u b. B m n (f u) b) S m s r → (v : A) → B m 101 v s →
    MatchResult r (λ u. E (f u) v) (λ e. kind_of e ≡ OutOfMemory)
exactly_as may_allocate f laws m s (Ok u) h v k = laws.meaning.exact m 101 101 (f u) v s h k
exactly_as may_allocate f laws m s (Err e) h v k = elim (memory_or (kind_of e)) [ inl q ↦ q | inr q ↦ absurd (h.none q (laws.meaning.among m 101 v s k)) ]

-- what is read is encoded there
pub reads_some : {A : Type 0} (may_allocate : Bool) (B : Grammar A) (S : Members) (m : BERMode) (s : List ℕ)
    (r : Result A ASN1Error) → Decoded may_allocate B S m s r → IfOk r (λ v. B m 101 v s)
reads_some may_allocate B S m s (Ok v) h = h
reads_some may_allocate B S m s (Err e) h = tt

-- what is read in a canonical mode is the encoding of the value
pub read_encoding : {A : Type 0} {E : A → A → Type 0} {B : Grammar A} {encoding : Encoding A} {depth : Depth A}
    {Can : A → Type 0} {S : Members} (may_allocate : Bool) → IsCoding E B S → IsWritten E B encoding depth Can → (m : BERMode) → IsCanonicalMode m →
    (s : List ℕ) (r : Result A ASN1Error) → Decoded may_allocate B S m s r → IfOk r (λ v. B m 101 v s × (s ≡ encoding m v))
read_encoding may_allocate laws x m canonical s (Ok v) h = (h, (x.has.only m 101 v s canonical h).0)
read_encoding may_allocate laws x m canonical s (Err e) h = tt

-- what is rejected encodes nothing, where reading wants no memory
pub rejects_none : {A : Type 0} {E : A → A → Type 0} {B : Grammar A} {S : Members} → IsCoding E B S →
    (m : BERMode) (s : List ℕ) (r : Result A ASN1Error) → Decoded false B S m s r → IfErr r (λ e. ((v : A) → B m 101 v s → ⊥) × (kind_of e ≡ OutOfMemory → ⊥))
rejects_none laws m s (Ok v) h = tt
rejects_none laws m s (Err e) h = (λ v x. h.none (λ q. let f = h.memory q in cc) (laws.meaning.among m 101 v s x), λ q. let f = h.memory q in cc)
