-- Reads of raw elements: what a front that was copied or not does to a reading.
use Rattle.std.proofs.Common.{◌≡◌, ℕ, zero, suc, ◌≤◌, List, ◌++◌, Option, Some, None, Result, Ok, Err, Bool, true, false, refl, sym, ap, subst, ◌∙◌, arith}
use Rattle.std.specs.Borrow.{Bor}
use Rattle.yasna_base.specs.declared.error.ASN1Error.{ASN1Error}
use Rattle.yasna_base.specs.declared.error.ASN1ErrorKind.TheVariants.{OutOfMemory}
use Rattle.yasna_base.specs.declared.mode.BERMode.{BERMode}
use Rattle.yasna_base.specs.declared.tag.Tag.{Tag}
use Rattle.yasna_base.specs.Coding.{Any}
use Rattle.yasna_base.specs.Error.{kind_of}
use Rattle.yasna_base.specs.Grammar.{Grammar}
use Rattle.yasna_base.specs.Identifier.{StartsElement, AtEnd}
use Rattle.yasna_base.specs.Raw.{RawValue, IsRaw, IsDeepRaw}
use Rattle.yasna_base.proofs.Identifier.{begins_with}
use Rattle.yasna_base.proofs.Raw.{raw_zero, raw_starts, deep_starts}
use Rattle.yasna_bytes.specs.declared.bytes.header.Rejection.{Rejection}
use Rattle.yasna_bytes.specs.declared.bytes.walk.RawElement.{RawElement}
use Rattle.yasna_bytes.specs.Prefix.{HasPrefix}
use Rattle.yasna_bytes.specs.Rejection.{Rejects}
use Rattle.yasna_reader.specs.Decodes.{Explains, StickyExplains, ParsedValue, NotParsed, NoMatchAtEnd, Decodes}
use Rattle.yasna_reader.specs.Primitive.{Commits, RejectedAs}
use Rattle.yasna_reader.specs.Raw.{CopiedAt, MayAllocateRaw, ReadsRawAt, ReadsRaw}
use Rattle.yasna_reader.specs.State.{Reading, IsFresh, UnlessFailed, rejecting, untagged}
use Rattle.yasna_bytes.specs.Walk.{RejectsRaw, TakesRaw, element_of}
use Rattle.yasna_bytes.proofs.RawHeader.{starts_not_at_end}
use Rattle.yasna_bytes.proofs.Rejection.{blames_bytes_of}
use Rattle.yasna_reader.proofs.Primitives.{committed}

-- where no raw element is there, no copy of one is made
pub rejects_copy : {A : Type 0} (B : Grammar A) (n : ℕ) (m : BERMode) (s : List ℕ) (e : Rejection) →
    ((v : A) (b : List ℕ) → B m n v b → (x : RawValue) × IsRaw m n x b) → RejectsRaw m n s e →
    Rejects (HasPrefix (B m n) s) (IsDeepRaw m n s) (MayAllocateRaw n s) (AtEnd s) e
rejects_copy B m n s e raw x = record {
  none = λ _ y.
      let w = y.2 in
      let r = raw y.0 w.prefix w.member in
      x.none (r.0, y.1, record { prefix = w.prefix; joined = w.joined; member = r.1 });
  consumed = x.consumed;
  too_deep = x.deep.0;
  deep = λ _. x.deep.1;
  memory = λ k. absurd (x.no_memory k);
}

-- bytes that begin with an element start one
pub starts_with : (s b r : List ℕ) → StartsElement b → s ≡ b ++ r → StartsElement s
starts_with s b r x e = subst StartsElement (sym e)
    (record { tag = x.tag; in_range = x.in_range; not_end = x.not_end; begins = begins_with x.tag b r x.begins })

raw_level : (n : ℕ) (m : BERMode) (v : RawValue) (b : List ℕ) → IsRaw m n v b → 1 ≤ n
raw_level zero m v b x = absurd (raw_zero m v b x)
raw_level (suc n) m v b x = omega arith

-- a raw element is there, and there is no memory for a copy
pub out_of_memory_for_copy : (N : Type 0) (n : ℕ) (m : BERMode) (s : List ℕ) (e : Rejection) (x : RawElement) (r : List ℕ) → TakesRaw m n s x r → e.kind ≡ OutOfMemory →
    e.consumed ≡ true → Rejects N (IsDeepRaw m n s) (MayAllocateRaw n s) (AtEnd s) e
out_of_memory_for_copy N n m s e x r y k f =
    let i = starts_with s x.bytes.now r (raw_starts n m (element_of x) x.bytes.now y.raw) y.joined in
    record {
      none = λ no _. no k;
      consumed = (λ g. absurd (cc), λ a. absurd (starts_not_at_end s i a));
      too_deep = λ g. absurd (cc);
      deep = λ no _. absurd (no k);
      memory = λ _. (raw_level n m (element_of x) x.bytes.now y.raw, i);
    }

-- what was found at the start, with the reading settled, is what a read does
pub reads_raw : {V A : Type 0} (B : Grammar A) (view : V → A) (s : Reading) (f : Result (V × Bor (List ℕ)) Rejection)
    (r : Result V ASN1Error) (s' : Reading) → s.failed ≡ None → CopiedAt B view s.levels s.mode s.left f → Commits s f r s' →
    ReadsRaw B view s r s'
reads_raw B view s f r s' e a b = record {
  reads = subst (λ k. UnlessFailed k s r s' (ReadsRawAt B view s r s')) (sym e)
      (committed (B s.mode s.levels) view (IsDeepRaw s.mode s.levels s.left) (MayAllocateRaw s.levels s.left) (AtEnd s.left) s f r s' a b);
}

-- with a sticky error a read returns that failure
pub reads_raw_sticky : {V A : Type 0} (B : Grammar A) (view : V → A) (s : Reading) (e : ASN1Error) (r : Result V ASN1Error)
    (s' : Reading) → s.failed ≡ Some e → r ≡ Err e → s' ≡ s → ReadsRaw B view s r s'
reads_raw_sticky B view s e r s' k f g = record { reads = subst (λ k. UnlessFailed k s r s' (ReadsRawAt B view s r s')) (sym k) (f, g) }

-- a value that says what another does is read where that is
pub reads_raw_as : {V W A : Type 0} (B : Grammar A) (view : V → A) (shown : W → A) (s : Reading) (v : V) (w : W)
    (s' : Reading) → shown w ≡ view v → ReadsRaw B view s (Ok v) s' → ReadsRaw B shown s (Ok w) s'
reads_raw_as B view shown s v w s' e h = record { reads = by_sticky s.failed h.reads }
  where
    by_sticky : (k : Option ASN1Error) → UnlessFailed k s (Ok v) s' (ReadsRawAt B view s (Ok v) s') →
        UnlessFailed k s (Ok w) s' (ReadsRawAt B shown s (Ok w) s')
    by_sticky (Some d) r = let f = r.0 in absurd (cc)
    by_sticky None r = subst (λ z. ParsedValue (B s.mode s.levels) (untagged s) z s') (sym e) r

pub rejects_raw_as : {V W A : Type 0} (B : Grammar A) (view : V → A) (shown : W → A) (s : Reading) (e : ASN1Error)
    (s' : Reading) → ReadsRaw B view s (Err e) s' → ReadsRaw B shown s (Err e) s'
rejects_raw_as {V} {W} B view shown s e s' h = record { reads = by_sticky s.failed h.reads }
  where
    by_sticky : (k : Option ASN1Error) → UnlessFailed {A = V} k s (Err e) s' (ReadsRawAt B view s (Err e) s') →
        UnlessFailed {A = W} k s (Err e) s' (ReadsRawAt B shown s (Err e) s')
    by_sticky (Some d) r = let f = r.0 in let g : e ≡ d = cc in (ap Err g, r.1)
    by_sticky None r = r

-- What a fresh reading decodes by a read of a raw element, of which B says what is copied
module _ {V A : Type 0} (B : Grammar A) (view : V → A) (s : Reading) (fresh : IsFresh s) where
  abbrev RejectedRaw : Reading → ASN1Error → Reading → Type 0
  RejectedRaw z e s' = RejectedAs (B z.mode z.levels) (IsDeepRaw z.mode z.levels z.left) (MayAllocateRaw z.levels z.left) (AtEnd z.left) z e s'

  rejected_explains : (e : ASN1Error) (s' : Reading) → RejectedRaw s e s' → Explains true (Any B s.mode s.levels) s.left e
  rejected_explains e s' x = record {
    none = λ q b y i j. x.rejects.none (λ f. q (sym x.kind ∙ f)) (j.0, y, record { prefix = b; joined = i; member = j.1 });
    memory = λ q. refl;
  }

  rejected_as : (e : ASN1Error) (s' : Reading) (x : RejectedRaw s e s') (w : Bool) → x.rejection.consumed ≡ w →
      NotParsed true (Any B s.mode s.levels) s e (rejecting w s e) × NoMatchAtEnd s e (rejecting w s e)
  rejected_as e s' x true f = (
    record {
      explains = rejected_explains e s' x;
      failed = rejected_explains e s' x;
      further = omega arith;
      same = ap {A = Option Tag} {B = Reading} (λ u. record s { failed = Some e; tag = u }) (sym fresh.1);
    },
    λ a. let g = sym f ∙ x.rejects.consumed.1 a in absurd (cc),
  )
  rejected_as e s' x false f = (
    record {
      explains = rejected_explains e s' x;
      failed = subst (λ z. StickyExplains true (Any B s.mode s.levels) s.left z) (sym fresh.0) tt;
      further = omega arith;
      same = refl;
    },
    λ a. (
      refl,
      blames_bytes_of (kind_of e) (λ i. starts_not_at_end s.left (deep_starts s.levels s.mode s.left (x.rejects.too_deep (x.kind ∙ i))) a)
          (λ i. starts_not_at_end s.left (x.rejects.memory (x.kind ∙ i)).1 a),
    ),
  )

  decodes_unfailed : (r : Result V ASN1Error) (s' : Reading) → ReadsRawAt B view s r s' →
      Decodes true (λ m n v b. B m n (view v) b) (Any B) s r s'
  decodes_unfailed (Ok v) s' x = record {
    prefix = x.prefix;
    rest = x.rest;
    joined = x.joined;
    member = x.member;
    left = x.left ∙ ap {A = Option Tag} {B = Reading} (λ u. record s { left = x.rest; tag = u }) (sym fresh.1);
  }
  decodes_unfailed (Err e) s' x =
      subst (λ z. NotParsed true (Any B s.mode s.levels) s e z × NoMatchAtEnd s e z) (sym x.state) (rejected_as e s' x x.rejection.consumed refl)

  pub raw_decodes : (r : Result V ASN1Error) (s' : Reading) → ReadsRaw B view s r s' →
      Decodes true (λ m n v b. B m n (view v) b) (Any B) s r s'
  raw_decodes r s' x = decodes_unfailed r s' (subst (λ k. UnlessFailed k s r s' (ReadsRawAt B view s r s')) fresh.0 x.reads)
