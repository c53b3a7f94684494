-- What reading a SET of parts does: its elements are found, and the parts are read from them.
use Rattle.std.proofs.Common.{◌≡◌, ◌∷◌, ◌++◌, [], ℕ, List, true, Option, Some, None, Result, Ok, Err, inl, inr, refl, sym, ap, ap₂, subst, ◌∙◌, arith}
use Rattle.std.specs.Borrow.{MutBor}
use Rattle.std.specs.Fn.{FnOnceReturnsAtMut}
use Rattle.std.specs.List.{AllByRecursion, concat}
use Rattle.std.specs.Prelude.{map}
use Rattle.yasna_base.specs.declared.error.ASN1Error.{ASN1Error}
use Rattle.yasna_base.specs.declared.error.ASN1ErrorKind.TheVariants.{OutOfMemory}
use Rattle.yasna_base.specs.declared.mode.BERMode.{BERMode}
use Rattle.yasna_base.specs.declared.tag.Tag.{Tag}
use Rattle.yasna_base.specs.Coding.{IsSame, Any}
use Rattle.yasna_base.specs.Element.{Enclosed, AnyEnclosed}
use Rattle.yasna_base.specs.Grammar.{Grammar, Members}
use Rattle.yasna_base.specs.Identifier.{BeginsWithTag, AtEnd, tag_or}
use Rattle.yasna_base.specs.Pieces.{Each}
use Rattle.yasna_base.specs.Raw.{RawValue, IsRaw}
use Rattle.yasna_base.specs.Set.{set_tag, AreInSetOrder, SetElements}
use Rattle.yasna_base.proofs.Identifier.{begins_once, not_end}
use Rattle.yasna_base.proofs.Pieces.{pieces_once, no_prefix_at_end}
use Rattle.yasna_base.proofs.Raw.{raw_coding}
use Rattle.yasna_base.proofs.SetWriting.{raw_begins}
use Rattle.yasna_reader.specs.declared.set.SetElement.{SetElement}
use Rattle.yasna_reader.specs.Decodes.{DecodesContents}
use Rattle.yasna_reader.specs.Parse.{unless_failed}
use Rattle.yasna_reader.specs.Sequence.{ReadsParts}
use Rattle.yasna_reader.specs.Set.{RunsOnSet, RanOnSet, NotRunOnSet, SetCallback, SetReading, all_taken, emptied}
use Rattle.yasna_reader.specs.SetLaws.{IsElementOf, ListsSet, elements_bytes}
use Rattle.yasna_reader.specs.SetList.{IsSetList, NotSetList}
use Rattle.yasna_reader.specs.State.{Reading, IsFresh, Does}
use Rattle.yasna_reader.proofs.ByTags.{parts_no_match}
use Rattle.yasna_reader.proofs.Sticky.{parts_repeat_error}
use Rattle.yasna_reader.proofs.Sequences.{element, parts_map}
use Rattle.yasna_reader.proofs.SetLaws.{lists_are_sets, sets_are_listed, all_one, order_of_same}
use Rattle.yasna_reader.proofs.UnderTags.{parts_under}
use Rattle.yasna_notation.specs.Notation.{ReadsAs}
use Rattle.yasna.proofs.Closures.{by_run}
use Rattle.yasna_notation.proofs.OneTag.{one_tag_read}
use Rattle.yasna_notation_types.specs.SetParts.{Pieced, SetOfParts, AreSetParts, all_so, members_each, set_contents}
use Rattle.yasna_notation_types.specs.SetReading.{encodings_of, AreFound, set_result, ReadsPicks, ReadsSetParts}

-- raw elements
abbrev IsSome : BERMode → ℕ → List ℕ → Type 0
IsSome m n b = (v : RawValue) × IsRaw m n v b

values_found : (n : ℕ) (m : BERMode) (l : List SetElement) (vs : List RawValue) → Each (IsElementOf n m) l vs → AreFound n m l
values_found n m [] vs e = tt
values_found n m (x ∷ l) [] e = absurd e
values_found n m (x ∷ l) (v ∷ vs) e = ((v, e.0), values_found n m l vs e.1)

raws_found : (n : ℕ) (m : BERMode) (l : List SetElement) → AreFound n m l → AllByRecursion (IsSome m n) (encodings_of l)
raws_found n m [] f = tt
raws_found n m (x ∷ l) f = ((f.0.0, f.0.1.raw), raws_found n m l f.1)

tags_begin : (n : ℕ) (m : BERMode) (l : List SetElement) (vs : List RawValue) → Each (IsElementOf n m) l vs →
    Each BeginsWithTag (map (λ (v : RawValue). v.tag) vs) (encodings_of l)
tags_begin n m [] [] e = tt
tags_begin n m [] (v ∷ vs) e = absurd e
tags_begin n m (x ∷ l) [] e = absurd e
tags_begin n m (x ∷ l) (v ∷ vs) e = ((raw_begins n m v x.bytes.now e.0.raw).begins, tags_begin n m l vs e.1)

-- raw elements up to an end are the same
raws_same : (n : ℕ) (m : BERMode) (ps qs : List (List ℕ)) (r s : List ℕ) → AllByRecursion (IsSome m n) ps → AllByRecursion (IsSome m n) qs →
    AtEnd r → AtEnd s → concat ps ++ r ≡ concat qs ++ s → ps ≡ qs
raws_same n m ps qs r s h k i j e =
    let p = members_each (IsSome m n) ps h in
    let q = members_each (IsSome m n) qs k in
    (pieces_once {R = λ (u : Unit {0}). IsSome m n} (λ u w b d y z g l. raw_coding.prefix_free m n n b d y z g l) p.0 q.0 (concat ps) (concat qs) r s
    (record { pieces = ps; each = p.1; joined = refl }) (record { pieces = qs; each = q.1; joined = refl })
    (no_prefix_at_end (λ u d l. raw_coding.opens m n d l) r i) (no_prefix_at_end (λ u d l. raw_coding.opens m n d l) s j) e).0

-- the values of raw elements
raw_values : (n : ℕ) (m : BERMode) (ps : List (List ℕ)) → AllByRecursion (IsSome m n) ps → (vs : List RawValue) × Each (IsRaw m n) vs ps
raw_values n m [] h = ([], tt)
raw_values n m (p ∷ ps) h = let z = raw_values n m ps h.1 in (h.0.0 ∷ z.0, (h.0.1, z.1))

same_tags : (n : ℕ) (m : BERMode) (us : List Tag) (vs : List RawValue) (ps : List (List ℕ)) → Each BeginsWithTag us ps → Each (IsRaw m n) vs ps →
    us ≡ map (λ (v : RawValue). v.tag) vs
same_tags n m [] [] ps e f = refl
same_tags n m [] (v ∷ vs) [] e f = absurd f
same_tags n m [] (v ∷ vs) (p ∷ ps) e f = absurd e
same_tags n m (u ∷ us) [] [] e f = absurd e
same_tags n m (u ∷ us) [] (p ∷ ps) e f = absurd f
same_tags n m (u ∷ us) (v ∷ vs) [] e f = absurd e
same_tags n m (u ∷ us) (v ∷ vs) (p ∷ ps) e f =
    ap₂ (λ t ts. t ∷ ts) (begins_once u v.tag p e.0 (raw_begins n m v p f.0).begins) (same_tags n m us vs ps e.1 f.1)

-- no error is sticky if a value is returned
result_unfailed : {A : Type 0} (k : Option ASN1Error) (r : Result A ASN1Error) (v : A) → unless_failed k r ≡ Ok v → k ≡ None
result_unfailed (Some e) r v h = absurd (cc)
result_unfailed None r v h = refl

module _ {V : Type 0} {ts : List Tag} {E : V → V → Type 0} {C : Grammar V} {P : Pieced V} {M : Members} (y : AreSetParts ts E C P M) (equal : IsSame E)
    (s : Reading) (fresh : IsFresh s) where
  abbrev m : BERMode
  m = s.mode

  abbrev n : ℕ
  n = s.levels

  part_raws : (w : V) (d : List ℕ) (p : SetOfParts P m n w d) → AllByRecursion (IsSome m n) p.pieces
  part_raws w d p = all_so (M m n) (IsSome m n) (λ b k. y.raw m n b k) p.pieces (y.within m n w p.pieces p.parts)

  -- such contents are those of a SET of raw elements
  part_elements : (w : V) (d : List ℕ) → SetOfParts P m n w d → (vs : List RawValue) × SetElements m n vs d
  part_elements w d p =
      let z = raw_values n m p.pieces (part_raws w d p) in
      let same = same_tags n m p.order.tags z.0 p.pieces p.order.each z.1 in
      (z.0, record { elements = record { pieces = p.pieces; each = z.1; joined = p.joined }; order = subst (AreInSetOrder m) same p.order.order })

  -- so they are listed
  part_list : (w : V) (d x : List ℕ) → s.left ≡ d ++ x → AtEnd x → SetOfParts P m n w d → (l : List SetElement) × IsSetList n m l s.left x
  part_list w d x e i p =
      let z = part_elements w d p in
      let k = sets_are_listed n m z.0 d s.left x z.1 e i in
      (k.0, (lists_are_sets n m k.0 s.left x).1 (z.0, k.2))

  ran_on : {F : Type 0} (g : SetCallback F V) (f : F) (r : Result V ASN1Error) (s' : Reading) →
      ((c c' : SetReading) (q : Result V ASN1Error) → FnOnceReturnsAtMut g f c q c' → ReadsSetParts P c q c') → RanOnSet g f s r s' →
      DecodesContents true (SetOfParts P) (Any (SetOfParts P)) s (unless_failed s'.failed r) s'
  ran_on g f r s' obeys h =
      subst (λ q. DecodesContents true (SetOfParts P) (Any (SetOfParts P)) s q s') (sym same) (go (set_result h.run.own h.run.left) refl reads)
    where
      l : List SetElement
      l = h.found.list.items

      lists : (vs : List RawValue) × ListsSet n m l vs s.left h.found.rest
      lists = (lists_are_sets n m l s.left h.found.rest).0 h.found.lists

      found : AreFound n m l
      found = values_found n m l lists.0 lists.1.each

      reads : ReadsPicks (P m n) (encodings_of l) (set_result h.run.own h.run.left)
      reads = (obeys (record { reader = emptied s; list = h.found.list }) h.run.left h.run.own h.run.called).reads (refl, refl) found

      same : unless_failed s'.failed r ≡ set_result h.run.own h.run.left
      same = ap₂ (λ k q. unless_failed k q) (ap (λ (z : Reading). z.failed) h.state) h.returned

      go : (q : Result V ASN1Error) → set_result h.run.own h.run.left ≡ q → ReadsPicks (P m n) (encodings_of l) q →
          DecodesContents true (SetOfParts P) (Any (SetOfParts P)) s q s'
      go (Ok v) is k =
          let none = result_unfailed h.run.left.reader.failed (all_taken h.run.own h.run.left.list.items) v is in
          let set : SetOfParts P m n v (elements_bytes l) = record {
            pieces = encodings_of l;
            parts = k;
            order = record { tags = map (λ (w : RawValue). w.tag) lists.0; each = tags_begin n m l lists.0 lists.1.each; order = lists.1.contents.order };
            joined = refl;
          } in
          record {
            parsed = record {
              prefix = elements_bytes l;
              rest = h.found.rest;
              joined = lists.1.joined;
              member = set;
              left = h.state ∙ ap (λ (o : Option ASN1Error). record s { left = h.found.rest; failed = o }) (none ∙ sym fresh.0);
            };
            ends = λ d x e i p. (set_contents y equal).ends m n n d (elements_bytes l) x h.found.rest i lists.1.ends p (v, set) (sym e ∙ lists.1.joined);
          }
      go (Err e) is k = record {
        none = λ q d x j i p.
            let same = raws_same n m p.1.pieces (encodings_of l) x h.found.rest (part_raws p.0 d p.1) (raws_found n m l found) i lists.1.ends
            (ap (λ z. z ++ x) (sym p.1.joined) ∙ sym j ∙ lists.1.joined) in
            k q p.0 (subst (λ qs. P m n p.0 qs) same p.1.parts);
        memory = λ q. refl;
      }

  not_ran : (r : Result V ASN1Error) (s' : Reading) → NotRunOnSet s r s' →
      DecodesContents true (SetOfParts P) (Any (SetOfParts P)) s (unless_failed s'.failed r) s'
  not_ran r s' h =
      subst (λ q. DecodesContents true (SetOfParts P) (Any (SetOfParts P)) s q s')
      (sym (ap (λ k. unless_failed k r) (ap (λ (z : Reading). z.failed) h.state)))
      (record { none = λ q d x e i p. let k = part_list p.0 d x e i p.1 in none h.why q x k.0 k.1; memory = λ q. refl })
    where
      none : NotSetList n m s.left h.kind → (h.kind ≡ OutOfMemory → ⊥) → (x : List ℕ) (l : List SetElement) → IsSetList n m l s.left x → ⊥
      none (inl w) q x l k = w.none q l x k.all
      none (inr w) q x l k =
          let same = all_one n m w.0.list l s.left w.0.rest x w.0.all k.all in
          w.0.disorder (order_of_same m w.0.list l same.0 k.order)

-- a SET of parts
pub set_read : {V F : Type 0} {ts : List Tag} {E : V → V → Type 0} {C : Grammar V} {P : Pieced V} {M : Members} (g : SetCallback F V) (f : F) (s : Reading)
    (r : Result V ASN1Error) (s' : Reading) → AreSetParts ts E C P M → IsSame E → ReadsParts (RunsOnSet g f) set_tag s r s' →
    ((p q : MutBor SetReading) (x : Result V ASN1Error) → g.post f (p, tt) (x, (q, tt)) → ReadsSetParts P p.now x q.now) →
    ReadsAs true (set_tag ∷ []) true true (λ u. Enclosed (SetOfParts P) (tag_or u set_tag)) (λ u. AnyEnclosed (Any (SetOfParts P)) (tag_or u set_tag)) s r s'
set_read {V} {P = P} g f s r s' y equal h obeys =
    let N : Does V = λ z q w. IsFresh z → DecodesContents true (SetOfParts P) (Any (SetOfParts P)) z (unless_failed w.failed q) w in
    one_tag_read (ReadsParts N) set_tag (not_end 17 (λ e. omega arith))
    (λ t not. record {
      decodes = λ z x m fresh k. record {
        decodes = element true (SetOfParts P) (Any (SetOfParts P)) N (λ a u w now j. j now) t not z fresh x m k;
        no_match = parts_no_match N t z x m fresh k;
      };
    })
    (parts_under N set_tag) s r s' (parts_repeat_error h)
    (parts_map _ N (λ z q w i k. λ fresh. elim k [
      | inl ran ↦ ran_on y equal z fresh g f q w (λ c c' x j. by_run (λ u x w. ReadsSetParts P u x w) obeys c x c' j) ran
      | inr not ↦ not_ran y equal z fresh q w not
    ]) set_tag s r s' h)
