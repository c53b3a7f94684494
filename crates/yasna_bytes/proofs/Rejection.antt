-- Errors: of what kind they are, and that what is elsewhere isn't an element of the tag.
use Rattle.std.proofs.Common.{◌≡◌, ℕ, ◌≤◌, List, length, true, false, refl, sym, ap, arith}
use Rattle.yasna_base.specs.declared.error.ASN1ErrorKind.{ASN1ErrorKind}
use Rattle.yasna_base.specs.declared.error.ASN1ErrorKind.TheVariants.{Eof, Extra, IntegerOverflow, StackOverflow, Invalid, OutOfMemory}
use Rattle.yasna_base.specs.declared.tag.Tag.{Tag}
use Rattle.yasna_base.specs.Identifier.{end_tag, BeginsWithTag, AtEnd, nothing as at_nothing, end as at_zeros}
use Rattle.yasna_base.proofs.Identifier.{begins_once, begins_some}
use Rattle.yasna_bytes.specs.declared.bytes.header.Rejection.{Rejection}
use Rattle.yasna_bytes.specs.Rejection.{BlamesBytes, IsElsewhere, nothing, another, IsTooDeep, Rejects}

-- a plain kind isn't of depth
pub blames_not_depth : {k : ASN1ErrorKind} → BlamesBytes k → k ≡ StackOverflow → ⊥
blames_not_depth {k} h e = rw e at h

-- nor of memory
pub blames_not_memory : {k : ASN1ErrorKind} → BlamesBytes k → k ≡ OutOfMemory → ⊥
blames_not_memory {k} h e = rw e at h

-- an error that is neither of depth nor of memory is plain
pub blames_bytes_of : (k : ASN1ErrorKind) → (k ≡ StackOverflow → ⊥) → (k ≡ OutOfMemory → ⊥) → BlamesBytes k
blames_bytes_of Eof d o = tt
blames_bytes_of Extra d o = tt
blames_bytes_of IntegerOverflow d o = tt
blames_bytes_of Invalid d o = tt
blames_bytes_of StackOverflow d o = d refl
blames_bytes_of OutOfMemory d o = o refl

-- bytes that begin with the tag aren't elsewhere
pub begins_not_elsewhere : {t : Tag} {s : List ℕ} → BeginsWithTag t s → IsElsewhere t s → ⊥
begins_not_elsewhere {t} {s} b (nothing e) = omega (arith, begins_some t s b, ap length e)
begins_not_elsewhere {t} {s} b (another u h d f) = d (begins_once u t s f b)

-- at an end no other tag is there
pub at_end_elsewhere : (t : Tag) (s : List ℕ) → (t ≡ end_tag → ⊥) → AtEnd s → IsElsewhere t s
at_end_elsewhere t s n (at_nothing e) = nothing e
at_end_elsewhere t s n (at_zeros b) = another end_tag (omega arith) (λ e. n (sym e)) b

-- no tag but that of the end is at an end
pub not_at_end : (t : Tag) (s : List ℕ) → (t ≡ end_tag → ⊥) → AtEnd s → BeginsWithTag t s → ⊥
not_at_end t s n a b = begins_not_elsewhere b (at_end_elsewhere t s n a)

-- nothing is left, or an element of another tag is there, and so nothing that begins with the tag
pub elsewhere_rejects : (N : Type 0) (n : ℕ) (t : Tag) (s : List ℕ) (e : Rejection) → (N → BeginsWithTag t s) → IsElsewhere t s → BlamesBytes e.kind →
    e.consumed ≡ false → Rejects N (IsTooDeep n t s) ⊥ (IsElsewhere t s) e
elsewhere_rejects N n t s e has f k o = record {
  none = λ _ x. begins_not_elsewhere (has x) f;
  consumed = (λ _. f, λ _. o);
  too_deep = λ h. absurd (blames_not_depth k h);
  deep = λ _ d. absurd (begins_not_elsewhere d.1 f);
  memory = blames_not_memory k;
}

-- the tag is there, and no level is left for an element
pub deep_rejects : (N : Type 0) (n : ℕ) (t : Tag) (s : List ℕ) (e : Rejection) → (N → 1 ≤ n) → BeginsWithTag t s → n ≡ 0 → e.kind ≡ StackOverflow →
    e.consumed ≡ true → Rejects N (IsTooDeep n t s) ⊥ (IsElsewhere t s) e
deep_rejects N n t s e has b z k o = record {
  none = λ _ x. let l = has x in absurd (omega arith);
  consumed = (λ f. absurd (cc), λ f. absurd (begins_not_elsewhere b f));
  too_deep = λ _. (z, b);
  deep = λ _ _. k;
  memory = λ f. absurd (cc);
}

-- the tag is there within the levels, and nothing that is wanted does
pub there_rejects_all : (N : Type 0) (n : ℕ) (t : Tag) (s : List ℕ) (e : Rejection) → BeginsWithTag t s → 1 ≤ n → BlamesBytes e.kind → e.consumed ≡ true → (N → ⊥) →
    Rejects N (IsTooDeep n t s) ⊥ (IsElsewhere t s) e
there_rejects_all N n t s e b l k o w = record {
  none = λ _. w;
  consumed = (λ f. absurd (cc), λ f. absurd (begins_not_elsewhere b f));
  too_deep = λ h. absurd (blames_not_depth k h);
  deep = λ _ d. let z = d.0 in absurd (omega arith);
  memory = blames_not_memory k;
}

-- where something isn't, nothing does that it follows from
pub rejects_less : (N K D M : Type 0) (t : Tag) (s : List ℕ) (e : Rejection) → (K → N) → Rejects N D M (IsElsewhere t s) e → Rejects K D M (IsElsewhere t s) e
rejects_less N K D M t s e has x = record { none = λ h k. x.none h (has k); consumed = x.consumed; too_deep = x.too_deep; deep = x.deep; memory = x.memory }

-- what never is of memory may be
pub may_allocate_too : (N D M : Type 0) (t : Tag) (s : List ℕ) (e : Rejection) → Rejects N D ⊥ (IsElsewhere t s) e → Rejects N D M (IsElsewhere t s) e
may_allocate_too N D M t s e x = record { none = x.none; consumed = x.consumed; too_deep = x.too_deep; deep = x.deep; memory = λ h. absurd (x.memory h) }
