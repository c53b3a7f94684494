-- What a SEQUENCE writes whose closure writes its parts.
use Rattle.std.proofs.Common.{◌≡◌, ◌<◌, ℕ, List, ◌++◌, length, Option, None, Some, Result, Ok, Err, MatchOption, MatchResult, inl, inr}
use Rattle.std.proofs.Common.{arith, refl, ap, sym, subst, ◌∙◌}
use Rattle.std.specs.Prelude.{IsErrAnd}
use Rattle.std.specs.Borrow.{MutBor}
use Rattle.std.specs.Fn.{Once}
use Rattle.std.proofs.lemmas.List.{length-append}
use Rattle.yasna.specs.Words.{ASN1Error, Tag, Written, Writes, OutOfMemory, kind_of, canonical_element}
use Rattle.yasna.specs.base.declared.tag.PCBit.TheVariants.{Constructed}
use Rattle.yasna.specs.base.Identifier.{tag_or}
use Rattle.yasna.specs.writer.View.{WroteParts, FailsOutOfMemory, holding, handed}
use Rattle.yasna.specs.writer.State.{FailedAtEnd, FailsAtEnd}
use Rattle.yasna.specs.writer.Sequence.{Encloses, WroteAround, ReturnsSticky}

-- what is kept of `OutOfMemory`, where bs was
abbrev OutOfMemoryAfter : List ℕ → List ℕ → Option ASN1Error → Type 0
OutOfMemoryAfter bs bytes failed = MatchOption failed ((c : List ℕ) × (bytes ≡ bs ++ c)) (λ k. kind_of k ≡ OutOfMemory)

module _ (encoding : List ℕ → List ℕ) (b : List ℕ) (old left new : Written) where
  -- `OutOfMemory`, where it is e that is sticky
  sticky_out : (e k : ASN1Error) → e ≡ k → kind_of k ≡ OutOfMemory → new.failed ≡ Some k → FailsOutOfMemory old new e
  sticky_out e k same out is = (
    ap kind_of same ∙ out,
    subst (OutOfMemoryAfter old.bytes new.bytes) (sym is) out,
  )

  -- why an error is sticky, where what was there still is there
  why_sticky : (k : ASN1Error) → (left.failed ≡ Some k → kind_of k ≡ OutOfMemory) →
      (length left.bytes < length old.bytes → left.failed ≡ None → ⊥) → FailsAtEnd (length old.bytes) left k → kind_of k ≡ OutOfMemory
  why_sticky k whose appended (inl f) = whose f
  why_sticky k whose appended (inr (none, inl out)) = out
  why_sticky k whose appended (inr (none, inr (invalid, short))) = absurd (appended short none)

  -- what a closure appended isn't fewer than none
  no_fewer : (c : List ℕ) → left.bytes ≡ old.bytes ++ c → length left.bytes < length old.bytes → ⊥
  no_fewer c e short = omega (arith, length-append old.bytes c, ap length e)

  -- how the call ends, by what the closure returned and what is sticky
  at_end : (own r : Result (Unit {0}) ASN1Error) (k : Option ASN1Error) → new.failed ≡ k → WroteParts b (handed old) left own →
      FailedAtEnd (length old.bytes) left k → ReturnsSticky (λ k e. e ≡ k) k own r →
      (k ≡ None → (c : List ℕ) → left.bytes ≡ old.bytes ++ c → new ≡ holding old (old.bytes ++ encoding c)) →
      MatchResult r (λ _. new ≡ holding old (old.bytes ++ encoding b)) (λ e. FailsOutOfMemory old new e)
  at_end (Ok u) (Ok v) None is p failed returns bytes = bytes refl b (ap (λ (w : Written). w.bytes) p)
  at_end (Ok u) (Err e) None is p failed returns bytes = cc
  at_end own (Ok v) (Some k) is p failed returns bytes = absurd returns
  at_end (Ok u) (Err e) (Some k) is p failed returns bytes =
      let none : left.failed ≡ None = ap (λ (w : Written). w.failed) p in
      let appended : left.bytes ≡ old.bytes ++ b = ap (λ (w : Written). w.bytes) p in
      sticky_out e k returns (why_sticky k (λ f. cc) (λ s _. no_fewer b appended s) failed) is
  at_end (Err f) (Ok v) None is p failed returns bytes = cc
  at_end (Err f) (Err e) None is p failed returns bytes =
      let same : e ≡ f = cc in
      let left_over = subst (OutOfMemoryAfter old.bytes left.bytes) failed.0 p.1 in (
        ap kind_of same ∙ p.0,
        subst (OutOfMemoryAfter old.bytes new.bytes) (sym is)
            (encoding left_over.0, ap (λ (w : Written). w.bytes) (bytes refl left_over.0 left_over.1)),
      )
  at_end (Err f) (Err e) (Some k) is p failed returns bytes =
      sticky_out e k returns (why_sticky k
      (λ l. subst (OutOfMemoryAfter old.bytes left.bytes) l p.1)
      (λ s none.
      let over = subst (OutOfMemoryAfter old.bytes left.bytes) none p.1 in
      no_fewer over.0 over.1 s) failed) is

module _ {F : Type 0} (g : Once F (MutBor Written × Unit {0}) (Result (Unit {0}) ASN1Error × (MutBor Written × Unit {0}))) (f : F)
    (t : Tag) (old new : Written) (r : Result (Unit {0}) ASN1Error) where
  -- each run of the closure writes b as parts, after what was
  abbrev pub RunsWrite : List ℕ → Type 0
  RunsWrite b = (p q : MutBor Written) (x : Result (Unit {0}) ASN1Error) → g.post f (record p { now = handed old }, tt) (x, (q, tt)) →
      WroteParts b (handed old) q.now x

  around : (b : List ℕ) → RunsWrite b → WroteAround g (λ k e. e ≡ k) f (canonical_element old.mode t Constructed) old new r →
      MatchResult r (λ _. new ≡ holding old (old.bytes ++ canonical_element old.mode t Constructed b)) (λ e. FailsOutOfMemory old new e)
  around b obeys h =
      let shown : MutBor Written = h.ran.shown in
      let met = subst (λ (z : Written). g.post f (record shown { now = z }, tt) (h.own, (h.ran.left, tt))) h.ran.shows h.ran.met in
      let ran : WroteParts b (handed old) h.left h.own =
      subst (λ z. WroteParts b (handed old) z h.own) h.ran.leaves (obeys shown h.ran.left h.own met) in
      at_end (canonical_element old.mode t Constructed) b old h.left new h.own r new.failed refl ran h.failed h.returns h.bytes

  by_sticky : (b : List ℕ) → RunsWrite b → (k : Option ASN1Error) →
      MatchOption k (WroteAround g (λ k e. e ≡ k) f (canonical_element old.mode t Constructed) old new r)
      (λ k. (new.failed ≡ Some k) × IsErrAnd r (λ e. e ≡ k)) →
      MatchOption k (MatchResult r (λ _. new ≡ holding old (old.bytes ++ canonical_element old.mode t Constructed b)) (λ e. FailsOutOfMemory old new e))
      (λ k. new.failed ≡ Some k)
  by_sticky b obeys None h = around b obeys h
  by_sticky b obeys (Some k) h = h.0

  -- a SEQUENCE whose closure writes b as its parts
  pub enclosed_by : (b : List ℕ) → old.tag ≡ None →
      Encloses g (λ k e. e ≡ k) f (canonical_element old.mode (tag_or old.tag t) Constructed) old new r → RunsWrite b →
      Writes (canonical_element old.mode t Constructed b) old new r
  enclosed_by b untagged h obeys =
      by_sticky b obeys old.failed
      (subst (λ u. MatchOption old.failed (WroteAround g (λ k e. e ≡ k) f (canonical_element old.mode (tag_or u t) Constructed) old new r)
      (λ k. (new.failed ≡ Some k) × IsErrAnd r (λ e. e ≡ k))) untagged h)
