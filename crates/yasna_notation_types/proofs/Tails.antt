-- What reading the rest of a SEQUENCE does: elements up to the end of its contents.
use Rattle.std.proofs.Common.{List, Bool, true, Option, None, Result, Vec}
use Rattle.std.specs.Borrow.{MutBor}
use Rattle.std.specs.Fn.{Mut, Called, CalledAtMut}
use Rattle.std.specs.Global.{Global}
use Rattle.yasna_base.specs.declared.error.ASN1Error.{ASN1Error}
use Rattle.yasna_base.specs.declared.tag.Tag.{Tag}
use Rattle.yasna_base.specs.Coding.{IsCoding}
use Rattle.yasna_base.specs.Grammar.{Grammar, Members}
use Rattle.yasna_base.specs.SequenceOf.{ElementsOf, AnyElements}
use Rattle.yasna_reader.specs.SequenceOf.{Collects}
use Rattle.yasna_reader.specs.State.{Reading, IsFresh}
use Rattle.yasna_reader.proofs.ListDecoding.{collected}
use Rattle.yasna_notation.specs.Notation.{ReadsAs}
use Rattle.yasna_notation.specs.Parts.{ReadsContents}
use Rattle.yasna_notation.proofs.Enclosing.{value_by}
use Rattle.yasna.proofs.Closures.{by_call}

-- elements of a type
pub rest_read : {A F : Type 0} {tags_known : Bool} {ts : List Tag} {retagged may_allocate : Bool} {E : A → A → Type 0} {B : Option Tag → Grammar A}
    {S : Option Tag → Members} (g : Mut F (MutBor Reading × Unit {0}) (Result A ASN1Error × (MutBor Reading × Unit {0}))) (f : F)
    (s : Reading) (r : Result (Vec A Global) ASN1Error) (s' : Reading) → IsCoding E (B None) (S None) → IsFresh s → Collects (CalledAtMut g) f s r s' →
    ((f f' : F) (p q : MutBor Reading) (x : Result A ASN1Error) → Called g f (p, tt) (x, (q, tt)) f' → ReadsAs tags_known ts retagged may_allocate B S p.now x q.now) →
    ReadsContents {A = Vec A Global} true (λ m n v c. ElementsOf (B None) m n v.items c) (AnyElements (S None)) s r s'
rest_read {tags_known = tags_known} {ts = ts} {retagged = retagged} {may_allocate = may_allocate} {B = B} {S = S} g f s r s' laws fresh h obeys =
    collected laws may_allocate (CalledAtMut g)
    (λ k z x k' z' now c. value_by.decodes z x z' now (by_call (ReadsAs tags_known ts retagged may_allocate B S) obeys k k' z x z' c)) f s r s' fresh h
