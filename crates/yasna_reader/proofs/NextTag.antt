-- What follows from a look at the next tag.
use Rattle.std.proofs.Common.{◌≡◌, List, ◌++◌, refl, sym, subst, Bool, arith}
use Rattle.std.specs.Prelude.{ℕ, None, Result, Err}
use Rattle.yasna_base.specs.declared.error.ASN1Error.{ASN1Error}
use Rattle.yasna_base.specs.declared.tag.Tag.{Tag}
use Rattle.yasna_base.specs.Coding.{IsCoding}
use Rattle.yasna_base.specs.Grammar.{Grammar, Members}
use Rattle.yasna_base.specs.Identifier.{BeginsWithTag}
use Rattle.yasna_base.proofs.Identifier.{begins_once, begins_with}
use Rattle.yasna_reader.specs.Decodes.{StickyExplains, Decodes}
use Rattle.yasna_reader.specs.Lookahead.{FindsTag, LooksAhead}
use Rattle.yasna_reader.specs.State.{Reading, IsFresh}
use Rattle.yasna_bytes.proofs.Rejection.{blames_not_memory}

-- what was found, where no error is sticky
pub looked : (s : Reading) (r x : Result Tag ASN1Error) → LooksAhead s.failed s.left r → s.failed ≡ None → r ≡ x → FindsTag s.left x
looked s r x h e f = subst (λ z. FindsTag s.left z) f (subst (λ z. LooksAhead z s.left r) e h)

-- where no tag was found nothing is there that satisfies the laws
pub found_none : {A : Type 0} {E : A → A → Type 0} {B : Grammar A} {S : Members} (may_allocate : Bool) →
    IsCoding E B S → (s : Reading) → IsFresh s → (e : ASN1Error) → FindsTag s.left (Err e) → Decodes may_allocate B S s (Err e) s
found_none {S} may_allocate laws s fresh e h = (
  record {
    explains = record {
      none = λ q b r i k.
          let o = laws.opens s.mode s.levels b k in
          h.1 o.tag o.in_range (subst (λ z. BeginsWithTag o.tag z) (sym i) (begins_with o.tag b r o.begins));
      memory = λ q. absurd (blames_not_memory h.0 q);
    };
    failed = subst (λ k. StickyExplains may_allocate (S s.mode s.levels) s.left k) (sym fresh.0) tt;
    further = omega arith;
    same = refl;
  },
  λ i. (refl, h.0),
)

-- where one was found nothing is there that begins with another
pub found_other : (t u : Tag) (s b r : List ℕ) → BeginsWithTag t s → BeginsWithTag u b → s ≡ b ++ r → (t ≡ u → ⊥) → ⊥
found_other t u s b r x y e other = other (begins_once t u s x (subst (λ z. BeginsWithTag u z) (sym e) (begins_with u b r y)))
