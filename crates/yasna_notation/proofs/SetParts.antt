-- What reads and writes of a SET OF do, whose values are in no order.
use Rattle.std.proofs.Common.{◌≡◌, ◌+◌, ◌<◌, length, get_or, take, map, List, [], ◌∷◌, ◌++◌, Bool, true, Option, Some, None, Result, Ok}
use Rattle.std.proofs.Common.{Err, Vec, ℕ, inl, inr, refl, sym, ap, subst, ◌∙◌, arith}
use Rattle.std.proofs.lemmas.List.{map-append, take_more}
use Rattle.std.specs.Borrow.{MutBor}
use Rattle.std.specs.Fn.{Once, Mut, Called, CalledAtMut}
use Rattle.std.specs.Global.{Global}
use Rattle.std.specs.List.{AllByRecursion, concat}
use Rattle.std.specs.Prelude.{MatchOption, MatchResult, IsErrAnd}
use Rattle.yasna_base.specs.declared.error.ASN1Error.{ASN1Error}
use Rattle.yasna_base.specs.declared.mode.BERMode.{BERMode}
use Rattle.yasna_base.specs.declared.tag.PCBit.TheVariants.{Constructed}
use Rattle.yasna_base.specs.declared.tag.Tag.{Tag}
use Rattle.yasna_base.specs.AnyOrder.{InSomeOrder, sorted_set_of_encoding}
use Rattle.yasna_base.specs.Canonical.{canonical_element}
use Rattle.yasna_base.specs.Coding.{IsCoding}
use Rattle.yasna_base.specs.Error.{kind_of}
use Rattle.yasna_base.specs.Grammar.{Grammar, Members, Encoding}
use Rattle.yasna_base.specs.Identifier.{tag_or}
use Rattle.yasna_base.specs.Null.{null_encoding}
use Rattle.yasna_base.specs.Order.{octets_cmp, in_order}
use Rattle.yasna_base.specs.Set.{set_tag, IsSetOf, AnySetOf, SetOfContents}
use Rattle.yasna_base.specs.SetWriting.{encodings, in_encoding_order}
use Rattle.yasna_base.proofs.Identifier.{not_end}
use Rattle.yasna_base.proofs.SetOfWriting.{around_encodings, encodings_in_order}
use Rattle.yasna_reader.specs.declared.set_of.Order.TheVariants.{Ascending}
use Rattle.yasna_reader.specs.Sequence.{ReadsParts}
use Rattle.yasna_reader.specs.SetOf.{CollectsInOrder}
use Rattle.yasna_reader.specs.State.{Reading}
use Rattle.yasna_reader.proofs.Sticky.{parts_repeat_error}
use Rattle.yasna_reader.proofs.SetOfReads.{any_set_of_by_tag}
use Rattle.yasna_reader.proofs.UnderTags.{parts_under}
use Rattle.yasna_writer.specs.Parts.{WrittenParts, begun_set}
use Rattle.yasna_writer.specs.Sequence.{ReturnsSticky, ReturnsOnly}
use Rattle.yasna_writer.specs.Set.{FailedAtPart, BeginsPart, parts_unless_failed, FailsAtSet, WritesParts, WroteSet, WritesSet}
use Rattle.yasna_writer.specs.View.{Written, holding, Writes, Wrote, FailsOutOfMemory}
use Rattle.yasna_notation.specs.Laws.{element_non_empty}
use Rattle.yasna_notation.specs.Notation.{ReadsAs}
use Rattle.yasna_notation.specs.Sets.{HasOctets, IsOutOfMemory, WroteElement, MadeParts, WroteElements}
use Rattle.yasna.proofs.Closures.{by_run, by_call}
use Rattle.yasna_notation.proofs.Enclosing.{value_by}
use Rattle.yasna_notation.proofs.OneTag.{one_tag_read}

module _ {A : Type 0} {tags_known : Bool} {ts : List Tag} {retagged may_allocate : Bool} {B : Option Tag → Grammar A} {S : Option Tag → Members} where
  -- a SET OF elements that are read so
  pub set_of_read : {F : Type 0} {E : A → A → Type 0} {g : Mut F (MutBor Reading × Unit {0}) (Result A ASN1Error × (MutBor Reading × Unit {0}))} {f : F}
      {s : Reading} {r : Result (Vec A Global) ASN1Error} {s' : Reading} → IsCoding E (B None) (S None) →
      ReadsParts (CollectsInOrder Ascending (CalledAtMut g) f) set_tag s r s' →
      ((f f' : F) (p q : MutBor Reading) (x : Result A ASN1Error) → Called g f (p, tt) (x, (q, tt)) f' → ReadsAs tags_known ts retagged may_allocate B S p.now x q.now) →
      ReadsAs {A = Vec A Global} true (set_tag ∷ []) true true (λ u m n v b. InSomeOrder (IsSetOf (B None) (tag_or u set_tag)) m n v.items b)
      (λ u. AnySetOf (S None) (tag_or u set_tag)) s r s'
  set_of_read {g = g} {f = f} {s = s} {r = r} {s' = s'} laws h obeys =
      one_tag_read (ReadsParts (CollectsInOrder Ascending (CalledAtMut g) f)) set_tag (not_end 17 (λ e. omega arith))
      (λ t not. any_set_of_by_tag (CalledAtMut g) f t not laws value_by (by_call (ReadsAs tags_known ts retagged may_allocate B S) obeys))
      (parts_under (CollectsInOrder Ascending (CalledAtMut g) f) set_tag) s r s' (parts_repeat_error h) h

null_after : (s : List ℕ) (t : Tag) (m : BERMode) → HasOctets (s ++ null_encoding t m tt)
null_after [] t m e = element_non_empty _ _ _ _ e
null_after (x ∷ s) t m e = absurd (cc)

-- where there is no memory, a NULL after what was written
pub after_null : (b c : List ℕ) (t : Tag) (m : BERMode) (old mid new : Written) (e : ASN1Error) (u : Unit {0}) → Writes c old mid (Err e) →
    Wrote (null_encoding t m tt) mid new (Ok u) → WroteElement b old new (Err e)
after_null b c t m old mid new e u h k = go old.failed mid.failed h k
  where
    go : (o i : Option ASN1Error) →
        MatchOption o (IsOutOfMemory e × MatchOption i ((d : List ℕ) × (mid.bytes ≡ old.bytes ++ d)) IsOutOfMemory) (λ k. i ≡ Some k) →
        MatchOption i (new ≡ holding mid (mid.bytes ++ null_encoding t m tt)) (λ k. (Ok u ≡ Err k) × (new.failed ≡ Some k)) →
        MatchOption o (MatchOption new.failed (IsOutOfMemory e × HasOctets new.bytes) IsOutOfMemory) (λ k. new.failed ≡ Some k)
    go None None h k =
        subst (λ (w : Written). MatchOption w.failed (IsOutOfMemory e × HasOctets w.bytes) IsOutOfMemory) (sym k) (h.0, null_after mid.bytes t m)
    go None (Some d) h k = let x = k.0 in absurd (cc)
    go (Some d) None h k = absurd (cc)
    go (Some d) (Some i) h k = let x = k.0 in absurd (cc)

all_append : {X : Type 0} (P : X → Type 0) (xs ys : List X) → AllByRecursion P xs → AllByRecursion P ys → AllByRecursion P (xs ++ ys)
all_append P [] ys a b = b
all_append P (x ∷ xs) ys a b = (a.0, all_append P xs ys a.1 b)

-- a part after others, where there is no memory
part_added : (ps : List (List ℕ)) (s : WrittenParts) (b : List ℕ) (o k i : Option ASN1Error) (e : ASN1Error) → AllByRecursion HasOctets ps →
    MatchOption o (s.parts ≡ ps) IsOutOfMemory → FailedAtPart o k →
    MatchOption k (MatchOption i (IsOutOfMemory e × HasOctets b) IsOutOfMemory) (λ k. i ≡ Some k) →
    MatchOption i (IsOutOfMemory e × AllByRecursion HasOctets (parts_unless_failed k s.parts ++ (b ∷ []))) IsOutOfMemory
part_added ps s b None None None e non_empty h n x =
    (x.0, all_append HasOctets s.parts (b ∷ []) (subst (λ z. AllByRecursion HasOctets z) (sym h) non_empty) (x.1, tt))
part_added ps s b (Some o) None None e non_empty h n x = absurd (cc)
part_added ps s b o None (Some i) e non_empty h n x = x
part_added ps s b o (Some k) None e non_empty h n x = absurd (cc)
part_added ps s b None (Some k) (Some i) e non_empty h (inl n) x = absurd (cc)
part_added ps s b None (Some k) (Some i) e non_empty h (inr n) x = let y : i ≡ k = cc in ap kind_of y ∙ n.1
part_added ps s b (Some o) (Some k) (Some i) e non_empty h (inl n) x = let y : i ≡ o = cc in ap kind_of y ∙ h
part_added ps s b (Some o) (Some k) (Some i) e non_empty h (inr n) x = let y = n.0 in absurd (cc)

pub part_failed : (ps these : List (List ℕ)) (b : List ℕ) (m : BERMode) (s : WrittenParts) (w w' : Written) (e : ASN1Error)
    (r : Result (Unit {0}) ASN1Error) → AllByRecursion HasOctets ps → WroteElements ps s (Ok tt) → BeginsPart m s.failed w →
    WroteElement b w w' (Err e) → IsErrAnd r (λ k. k ≡ e) →
    WroteElements these (record { parts = parts_unless_failed w.failed s.parts ++ (w'.bytes ∷ []); mode = s.mode; failed = w'.failed }) r
part_failed ps these b m s w w' e (Ok u) non_empty h begins x is = absurd is
part_failed ps these b m s w w' e (Err k) non_empty h begins x is =
    subst (λ z. MatchOption w'.failed (IsOutOfMemory z × AllByRecursion HasOctets (parts_unless_failed w.failed s.parts ++ (w'.bytes ∷ []))) IsOutOfMemory)
    (sym is) (part_added ps s w'.bytes s.failed w.failed w'.failed e non_empty h begins.sticks x)

-- a part after others, where there is memory
part_wrote : (ps : List (List ℕ)) (s : WrittenParts) (b c : List ℕ) (o k i : Option ASN1Error) → MatchOption o (s.parts ≡ ps) IsOutOfMemory →
    FailedAtPart o k → MatchOption k (MatchOption i (c ≡ b) IsOutOfMemory) (λ k. i ≡ Some k) →
    MatchOption i (parts_unless_failed k s.parts ++ (c ∷ []) ≡ ps ++ (b ∷ [])) IsOutOfMemory
part_wrote ps s b c None None None h n x = ap (λ y. y ++ (c ∷ [])) h ∙ ap (λ z. ps ++ (z ∷ [])) x
part_wrote ps s b c (Some o) None None h n x = absurd (cc)
part_wrote ps s b c o None (Some i) h n x = x
part_wrote ps s b c o (Some k) None h n x = absurd (cc)
part_wrote ps s b c None (Some k) (Some i) h (inl n) x = absurd (cc)
part_wrote ps s b c None (Some k) (Some i) h (inr n) x = let y : i ≡ k = cc in ap kind_of y ∙ n.1
part_wrote ps s b c (Some o) (Some k) (Some i) h (inl n) x = let y : i ≡ o = cc in ap kind_of y ∙ h
part_wrote ps s b c (Some o) (Some k) (Some i) h (inr n) x = let y = n.0 in absurd (cc)

pub item_written : {A : Type 0} (encoding : Encoding A) (vs : List A) (i : ℕ) (v : A) (m : BERMode) (s : WrittenParts) (w w' : Written)
    (r : Result (Unit {0}) ASN1Error) (u : Unit {0}) → (s.mode ≡ m) × WroteElements (encodings encoding m (take i vs)) s (Ok tt) → BeginsPart s.mode s.failed w →
    WroteElement (encoding w.mode v) w w' r → r ≡ Ok u → i < length vs → v ≡ get_or vs i v →
    (s.mode ≡ m) × WroteElements (encodings encoding m (take (i + 1) vs))
    (record { parts = parts_unless_failed w.failed s.parts ++ (w'.bytes ∷ []); mode = s.mode; failed = w'.failed }) (Ok tt)
item_written encoding vs i v m s w w' r u so_far begins x ok below is =
    let f = encoding m in
    let joined : map f (take i vs) ++ (f v ∷ []) ≡ map f (take (i + 1) vs) =
    sym (map-append f (take i vs) (v ∷ [])) ∙ ap (λ z. map f (take i vs ++ z ∷ [])) is ∙ ap (λ z. map f z) (sym (take_more vs i v below)) in
    let mode : w.mode ≡ m = ap (λ (z : Written). z.mode) begins.fresh ∙ so_far.0 in
    let y = subst (λ z. WroteElement (encoding z v) w w' (Ok u)) mode (subst (λ z. WroteElement (encoding w.mode v) w w' z) ok x) in (
      so_far.0,
      subst (λ z. MatchOption w'.failed (parts_unless_failed w.failed s.parts ++ (w'.bytes ∷ []) ≡ z) IsOutOfMemory) joined
          (part_wrote (map f (take i vs)) s (f v) w'.bytes s.failed w.failed w'.failed so_far.1 begins.sticks y),
    )

-- no encoding is empty
pub encodings_non_empty : {A : Type 0} (encoding : Encoding A) (m : BERMode) → ((v : A) → HasOctets (encoding m v)) → (vs : List A) →
    AllByRecursion HasOctets (encodings encoding m vs)
encodings_non_empty encoding m non_empty [] = tt
encodings_non_empty encoding m non_empty (v ∷ vs) = (non_empty v, encodings_non_empty encoding m non_empty vs)

module _ {A : Type 0} (encoding : Encoding A) (t : Tag) (vs : List A) (non_empty : (m : BERMode) (v : A) → HasOctets (encoding m v)) (m : BERMode) where
  -- the contents that the encodings make are those of the encoding of all
  made : (ps : List (List ℕ)) (c : List ℕ) → ps ≡ encodings encoding m vs → SetOfContents ps c →
      canonical_element m t Constructed c ≡ sorted_set_of_encoding encoding t m vs
  made ps c is x =
      ap (λ z. canonical_element m t Constructed z) (x.joined ∙ ap (λ z. concat (in_order octets_cmp z)) is) ∙
      sym (around_encodings encoding m t (in_encoding_order encoding m vs) (in_order octets_cmp (encodings encoding m vs)) (encodings_in_order encoding m vs))

  all_non_empty : (ps : List (List ℕ)) (own : Result (Unit {0}) ASN1Error) → MadeParts (encodings encoding m vs) ps own → AllByRecursion HasOctets ps
  all_non_empty ps (Ok u) x = subst (λ z. AllByRecursion HasOctets z) (sym x) (encodings_non_empty encoding m (non_empty m) vs)
  all_non_empty ps (Err e) x = x.1

  module _ (left : WrittenParts) (own : Result (Unit {0}) ASN1Error) (x : WroteElements (encodings encoding m vs) left own) where
    -- the parts, where an error is sticky or none is
    left_so : {k : Option ASN1Error} → left.failed ≡ k → MatchOption k (MadeParts (encodings encoding m vs) left.parts own) IsOutOfMemory
    left_so e = subst (λ z. MatchOption z (MadeParts (encodings encoding m vs) left.parts own) IsOutOfMemory) e x

    -- what is sticky at the end is `OutOfMemory`
    sticky_kind : (k : ASN1Error) → FailsAtSet SetOfContents left k → IsOutOfMemory k
    sticky_kind k (inl is) = left_so is
    sticky_kind k (inr (none, inl header_missing)) = header_missing
    sticky_kind k (inr (none, inr fails)) =
        let non_empty = all_non_empty left.parts own (left_so none) in
        absurd (fails.1 (concat (in_order octets_cmp left.parts)) (record { non_empty = non_empty; joined = refl }))

    -- where nothing is sticky, the closure's answer is that of the call
    returned_written : (old new : Written) (r : Result (Unit {0}) ASN1Error) (c : List ℕ) → MadeParts (encodings encoding m vs) left.parts r →
        SetOfContents left.parts c → new ≡ holding old (old.bytes ++ canonical_element m t Constructed c) →
        MatchResult r (λ _. new ≡ holding old (old.bytes ++ sorted_set_of_encoding encoding t m vs))
        (λ e. IsOutOfMemory e × ((c : List ℕ) × (new.bytes ≡ old.bytes ++ c)))
    returned_written old new (Ok u) c y z is = is ∙ ap (λ z. holding old (old.bytes ++ z)) (made left.parts c y z)
    returned_written old new (Err e) c y z is = (y.0, (canonical_element m t Constructed c, ap (λ (w : Written). w.bytes) is))

    at_end : (from : ASN1Error → ASN1Error → Type 0) → ((k e : ASN1Error) → from k e → e ≡ k) → (old new : Written) (k : Option ASN1Error)
        (r : Result (Unit {0}) ASN1Error) →
        MatchOption k (WritesParts SetOfContents (canonical_element m t Constructed) left old new) (λ k. FailsAtSet SetOfContents left k) →
        ReturnsSticky from k own r →
        MatchResult r (λ _. new ≡ holding old (old.bytes ++ sorted_set_of_encoding encoding t m vs))
        (λ e. IsOutOfMemory e × MatchOption k ((c : List ℕ) × (new.bytes ≡ old.bytes ++ c)) IsOutOfMemory)
    at_end from same old new None r ends returns =
        returned_written old new r ends.1 (subst (λ u. MadeParts (encodings encoding m vs) left.parts u) (sym returns) (left_so ends.0)) ends.2 ends.3
    at_end from same old new (Some k) (Ok u) ends returns = absurd returns
    at_end from same old new (Some k) (Err e) ends returns = let kind = sticky_kind k ends in (ap kind_of (same k e returns) ∙ kind, kind)

-- a set of what a closure writes as parts is a SET OF these values
pub set_written : {A F : Type 0} (g : Once F (MutBor WrittenParts × Unit {0}) (Result (Unit {0}) ASN1Error × (MutBor WrittenParts × Unit {0})))
    (from : ASN1Error → ASN1Error → Type 0) (f : F) (encoding : Encoding A) (t : Tag) (vs : List A) → ((m : BERMode) (v : A) → HasOctets (encoding m v)) →
    ((k e : ASN1Error) → from k e → e ≡ k) →
    ((p q : MutBor WrittenParts) (r : Result (Unit {0}) ASN1Error) → p.now ≡ begun_set p.now.mode → g.post f (p, tt) (r, (q, tt)) →
    WroteElements (encodings encoding p.now.mode vs) q.now r) → (old new : Written) (r : Result (Unit {0}) ASN1Error) →
    WritesSet g from f SetOfContents (canonical_element old.mode t Constructed) old new r → Writes (sorted_set_of_encoding encoding t old.mode vs) old new r
set_written {A} {F} g from f encoding t vs non_empty same obeys old new r h = go old.failed h
  where
    m : BERMode
    m = old.mode

    go : (k : Option ASN1Error) →
        MatchOption k (WroteSet g from f SetOfContents (canonical_element m t Constructed) old new r) (λ k. ReturnsOnly from k new r) →
        MatchOption k (MatchResult r (λ _. new ≡ holding old (old.bytes ++ sorted_set_of_encoding encoding t m vs)) (λ e. FailsOutOfMemory old new e))
        (λ k. new.failed ≡ Some k)
    go (Some k) h = h.0
    go None h =
        let x = by_run {g = g} {f = f} (λ s u s'. s ≡ begun_set s.mode → WroteElements (encodings encoding s.mode vs) s' u)
        (λ p q u post begins. obeys p q u begins post) (begun_set m) h.own h.left h.ran refl in
        at_end encoding t vs non_empty m h.left h.own x from same old new new.failed r h.ends h.returns
