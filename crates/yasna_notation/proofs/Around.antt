-- What writes of elements around others do, by what the closures' calls do.
use Rattle.std.proofs.Common.{◌≡◌, ◌<◌, ℕ, List, ◌++◌, length, Option, Some, None, Result, Ok, Err, inl, inr, refl, sym, ap, subst, ◌∙◌, length-append}
use Rattle.std.proofs.Common.{arith}
use Rattle.std.specs.Prelude.{MatchOption, MatchResult}
use Rattle.std.specs.Borrow.{MutBor}
use Rattle.std.specs.Fn.{Once}
use Rattle.yasna_base.specs.declared.error.ASN1Error.{ASN1Error}
use Rattle.yasna_base.specs.declared.mode.BERMode.{BERMode}
use Rattle.yasna_base.specs.declared.tag.Tag.{Tag}
use Rattle.yasna_base.specs.Error.{kind_of}
use Rattle.yasna_base.specs.Identifier.{tag_or}
use Rattle.yasna_writer.specs.Sequence.{ReturnsSticky, ReturnsOnly, WroteAround, Encloses}
use Rattle.yasna_writer.specs.State.{FailedAtEnd}
use Rattle.yasna_writer.specs.Tagged.{writing_under, FailedAfter, WroteTagged, WritesTagged}
use Rattle.yasna_writer.specs.View.{Written, holding, handed, Writes, FailsOutOfMemory, WroteParts}
use Rattle.yasna_writer.proofs.PartByPart.{as_part}
use Rattle.yasna_notation.specs.Sets.{IsOutOfMemory}
use Rattle.yasna.proofs.Closures.{by_run}

-- bytes after s
abbrev After : List ℕ → Written → Option ASN1Error → Type 0
After s w k = MatchOption k ((c : List ℕ) × (w.bytes ≡ s ++ c)) IsOutOfMemory

-- no fewer bytes are left than there were
as_long : (s b l : List ℕ) → l ≡ s ++ b → length l < length s → ⊥
as_long s b l is less = omega (arith, ap length is, length-append s b)

-- a closure left b after s, or there is no memory
record Left (s b : List ℕ) (left : Written) (own : Result (Unit {0}) ASN1Error) : Type 0 where
  wrote : MatchResult own (λ _. left.bytes ≡ s ++ b) IsOutOfMemory
  follows_on : After s left left.failed

left_by : (b : List ℕ) (old left : Written) (own : Result (Unit {0}) ASN1Error) → WroteParts b (handed old) left own → Left old.bytes b left own
left_by b old left (Ok u) h =
    let is = ap (λ (w : Written). w.bytes) h in
    record { wrote = is; follows_on = subst (λ k. After old.bytes left k) (sym (ap (λ (w : Written). w.failed) h)) (b, is) }
left_by b old left (Err e) h = record { wrote = h.0; follows_on = h.1 }

module _ {s b : List ℕ} {left : Written} {own : Result (Unit {0}) ASN1Error} (h : Left s b left own) where
  -- what is sticky at the end of an element is `OutOfMemory`
  at_end : (k : ASN1Error) → FailedAtEnd (length s) left (Some k) → IsOutOfMemory k
  at_end k (inl w) = subst (λ z. After s left z) w h.follows_on
  at_end k (inr (n, inl w)) = w
  at_end k (inr (n, inr w)) = let x = subst (λ z. After s left z) n h.follows_on in absurd (as_long s x.0 left.bytes x.1 w.1)

  -- what is sticky after a tag is `OutOfMemory`
  after : (k : ASN1Error) → FailedAfter (length s) left (Some k) → IsOutOfMemory k
  after k (inl w) = subst (λ z. After s left z) w h.follows_on
  after k (inr (n, k_is, w)) = let x = subst (λ z. After s left z) n h.follows_on in absurd (as_long s x.0 left.bytes x.1 w)

-- the encoding of what is there is written, or there is no memory
returned_written : (from : ASN1Error → ASN1Error → Type 0) → ((k e : ASN1Error) → from k e → e ≡ k) → (encoding : List ℕ → List ℕ) (b : List ℕ)
    (old left new : Written) (own r : Result (Unit {0}) ASN1Error) (k : Option ASN1Error) →
    Left old.bytes b left own → FailedAtEnd (length old.bytes) left k → ReturnsSticky from k own r →
    (k ≡ None → (c : List ℕ) → left.bytes ≡ old.bytes ++ c → new ≡ holding old (old.bytes ++ encoding c)) →
    MatchResult r (λ _. new ≡ holding old (old.bytes ++ encoding b)) (λ e. IsOutOfMemory e × After old.bytes new k)
returned_written from same encoding b old left new own (Ok u) None h failed is bytes =
    bytes refl b (subst (λ z. MatchResult z (λ _. left.bytes ≡ old.bytes ++ b) IsOutOfMemory) (sym is) h.wrote)
returned_written from same encoding b old left new own (Err e) None h failed is bytes =
    let x = subst (λ z. After old.bytes left z) failed.0 h.follows_on in (
      subst (λ z. MatchResult z (λ _. left.bytes ≡ old.bytes ++ b) IsOutOfMemory) (sym is) h.wrote,
      (encoding x.0, ap (λ (w : Written). w.bytes) (bytes refl x.0 x.1)),
    )
returned_written from same encoding b old left new own (Ok u) (Some k) h failed is bytes = absurd is
returned_written from same encoding b old left new own (Err e) (Some k) h failed is bytes = let kind = at_end h k failed in (ap kind_of (same k e is) ∙ kind, kind)

-- what is there is what was left, with no tag, or there is no memory
untagged : (from : ASN1Error → ASN1Error → Type 0) → ((k e : ASN1Error) → from k e → e ≡ k) → (b : List ℕ) (old left new : Written)
    (own r : Result (Unit {0}) ASN1Error) (k : Option ASN1Error) → Writes b (handed old) left own → FailedAfter (length old.bytes) left k →
    new ≡ record left { tag = None; failed = k } → ReturnsSticky from k own r →
    MatchResult r (λ _. new ≡ holding old (old.bytes ++ b)) (λ e. IsOutOfMemory e × After old.bytes new k)
untagged from same b old left new own (Ok u) None h failed follows_on is =
    follows_on ∙ ap (λ (w : Written). record w { tag = None; failed = None }) (subst (λ z. Writes b (handed old) left z) (sym is) h)
untagged from same b old left new own (Err e) None h failed follows_on is =
    let x = subst (λ z. Writes b (handed old) left z) (sym is) h in
    let y = subst (λ z. After old.bytes left z) failed.0 x.1 in
    (x.0, (y.0, ap (λ (w : Written). w.bytes) follows_on ∙ y.1))
untagged from same b old left new own (Ok u) (Some k) h failed follows_on is = absurd is
untagged from same b old left new own (Err e) (Some k) h failed follows_on is =
    let kind = after (left_by b old left own (as_part b (handed old) left own h)) k failed in
    (ap kind_of (same k e is) ∙ kind, kind)

module _ {F : Type 0} (g : Once F (MutBor Written × Unit {0}) (Result (Unit {0}) ASN1Error × (MutBor Written × Unit {0})))
    (from : ASN1Error → ASN1Error → Type 0) (f : F) (same : (k e : ASN1Error) → from k e → e ≡ k) where
  -- an element around parts
  pub around_parts : (encoding : List ℕ → List ℕ) (b : BERMode → List ℕ) (old new : Written) (r : Result (Unit {0}) ASN1Error) →
      Encloses g from f encoding old new r →
      ((p q : MutBor Written) (x : Result (Unit {0}) ASN1Error) → g.post f (p, tt) (x, (q, tt)) → WroteParts (b p.now.mode) p.now q.now x) →
      Writes (encoding (b old.mode)) old new r
  around_parts encoding b old new r h obeys = go old.failed h
    where
      go : (k : Option ASN1Error) → MatchOption k (WroteAround g from f encoding old new r) (λ k. ReturnsOnly from k new r) →
          MatchOption k (MatchResult r (λ _. new ≡ holding old (old.bytes ++ encoding (b old.mode))) (λ e. FailsOutOfMemory old new e)) (λ k. new.failed ≡ Some k)
      go (Some k) h = h.0
      go None h =
          let x = by_run {g = g} {f = f} (λ z y w. WroteParts (b z.mode) z w y) obeys (handed old) h.own h.left h.ran in
          returned_written from same encoding (b old.mode) old h.left new h.own r new.failed (left_by (b old.mode) old h.left h.own x) h.failed h.returns h.bytes

  -- an element around one
  pub around_one : (encoding : List ℕ → List ℕ) (b : Option Tag → BERMode → List ℕ) (old new : Written) (r : Result (Unit {0}) ASN1Error) →
      Encloses g from f encoding old new r →
      ((p q : MutBor Written) (x : Result (Unit {0}) ASN1Error) → g.post f (p, tt) (x, (q, tt)) → Writes (b p.now.tag p.now.mode) p.now q.now x) →
      Writes (encoding (b None old.mode)) old new r
  around_one encoding b old new r h obeys = go old.failed h
    where
      go : (k : Option ASN1Error) → MatchOption k (WroteAround g from f encoding old new r) (λ k. ReturnsOnly from k new r) →
          MatchOption k (MatchResult r (λ _. new ≡ holding old (old.bytes ++ encoding (b None old.mode))) (λ e. FailsOutOfMemory old new e)) (λ k. new.failed ≡ Some k)
      go (Some k) h = h.0
      go None h =
          let x = by_run {g = g} {f = f} (λ z y w. Writes (b z.tag z.mode) z w y) obeys (handed old) h.own h.left h.ran in
          let c = b None old.mode in
          returned_written from same encoding c old h.left new h.own r new.failed (left_by c old h.left h.own (as_part c (handed old) h.left h.own x))
          h.failed h.returns h.bytes

  -- one in place of whose tag another is there
  pub under_tag : (t : Tag) (b : Option Tag → BERMode → List ℕ) (old new : Written) (r : Result (Unit {0}) ASN1Error) →
      WritesTagged g from f t old new r →
      ((p q : MutBor Written) (x : Result (Unit {0}) ASN1Error) → g.post f (p, tt) (x, (q, tt)) → Writes (b p.now.tag p.now.mode) p.now q.now x) →
      Writes (b (Some (tag_or old.tag t)) old.mode) old new r
  under_tag t b old new r h obeys = go old.failed refl h
    where
      c : List ℕ
      c = b (Some (tag_or old.tag t)) old.mode

      go : (k : Option ASN1Error) → old.failed ≡ k → MatchOption k (WroteTagged g from f t old new r) (λ k. ReturnsOnly from k new r) →
          MatchOption k (MatchResult r (λ _. new ≡ holding old (old.bytes ++ c)) (λ e. FailsOutOfMemory old new e)) (λ k. new.failed ≡ Some k)
      go (Some k) none h = h.0
      go None none h =
          let x = by_run {g = g} {f = f} (λ z y w. Writes (b z.tag z.mode) z w y) obeys (writing_under t old) h.own h.left h.ran in
          let y : Writes c (handed old) h.left h.own =
          subst (λ k. MatchOption k (MatchResult h.own (λ _. h.left ≡ holding old (old.bytes ++ c)) (λ e. FailsOutOfMemory old h.left e)) (λ k. h.left.failed ≡ Some k))
          none x in
          untagged from same c old h.left new h.own r new.failed y h.after.failed h.after.same h.returns
