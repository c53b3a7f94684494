-- What a part that may be omitted reads, by what its closure does, and what a step reads.
use Rattle.std.proofs.Common.{◌≡◌, ◌∙◌, Bool, List, ℕ, Option, None, Some, Result, ap, refl, subst}
use Rattle.std.specs.Borrow.{MutBor}
use Rattle.std.specs.Fn.{Once, FnOnceReturnsAtMut}
use Rattle.yasna.specs.Words.{ASN1Error, Reading, Does, Decodes, ReadsOptional}
use Rattle.yasna.specs.base.Grammar.{Grammar, Members}
use Rattle.yasna.specs.reader.Decodes.{ParsedValue}
use Rattle.yasna.specs.reader.Callback.{Hands}
use Rattle.yasna.specs.reader.Optional.{optional}
use Rattle.yasna.specs.reader.State.{untagged, UnlessFailed}
use Rattle.yasna.specs.reader.declared.callback.Outcome.{Outcome}

-- the closure's calls do what N says
pub reads_optional_by : {F A : Type 0} (g : Once F (MutBor Reading × Unit {0}) (Result A ASN1Error × (MutBor Reading × Unit {0}))) (f : F) (N : Does A)
    (s : Reading) (r : Result (Option A) ASN1Error) (s' : Reading) → ReadsOptional (FnOnceReturnsAtMut g f) s r s' →
    ((p q : MutBor Reading) (x : Result A ASN1Error) → s.failed ≡ None → g.post f (record p { now = untagged s }, tt) (x, (q, tt)) →
    N (untagged s) x q.now) →
    ReadsOptional N s r s'
reads_optional_by {A} g f N s r s' h obeys = by_sticky s.failed refl h
  where
    by_sticky : (k : Option ASN1Error) → s.failed ≡ k →
        UnlessFailed k s r s' ((o : Outcome A) × Hands (FnOnceReturnsAtMut g f) (untagged s) o s' × (r ≡ optional o)) →
        UnlessFailed k s r s' ((o : Outcome A) × Hands N (untagged s) o s' × (r ≡ optional o))
    by_sticky (Some e) is x = x
    by_sticky None is (o, k, e) =
        let shown : MutBor Reading = k.obeys.shown in
        let met = subst (λ (z : Reading). g.post f (record shown { now = z }, tt) (k.own, (k.obeys.left, tt))) k.obeys.shows k.obeys.met in
        let ran : N (untagged s) k.own k.left = subst (λ z. N (untagged s) k.own z) k.obeys.leaves (obeys shown k.obeys.left k.own is met) in
        (o, record { own = k.own; left = k.left; obeys = ran; comes = k.comes }, e)

-- a value that is decoded where what equals s is there
pub decodes_at : {A : Type 0} (may_allocate : Bool) (B : Grammar A) (S : Members) {p s : Reading} (r : Result A ASN1Error) (s' : Reading) →
    (p.failed ≡ None → Decodes may_allocate B S p r s') → p ≡ s → s.failed ≡ None → Decodes may_allocate B S s r s'
decodes_at may_allocate B S r s' h e k = subst (λ (z : Reading). z.failed ≡ None → Decodes may_allocate B S z r s') e h k

-- after a value that was taken no error is sticky
pub still_fresh : {A : Type 0} {B : A → List ℕ → Type 0} {s : Reading} {v : A} {s' : Reading} → ParsedValue B s v s' → s.failed ≡ None → s'.failed ≡ None
still_fresh h k = ap (λ (z : Reading). z.failed) h.left ∙ k
