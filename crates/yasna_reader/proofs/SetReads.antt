-- What a read of a SET takes is a SET, and from every SET the callback is run.
use Rattle.std.proofs.Common.{◌≡◌, ℕ, ◌-◌, ◌≤◌, inl, inr, List, [], ◌∷◌, ◌++◌, length, Option, Some, None, refl, sym, ap, ap₂, subst, ◌∙◌, length-append, arith}
use Rattle.std.specs.Prelude.{Result, Ok, Err}
use Rattle.yasna_base.specs.declared.error.ASN1Error.{ASN1Error}
use Rattle.yasna_base.specs.declared.error.ASN1ErrorKind.{ASN1ErrorKind}
use Rattle.yasna_base.specs.declared.error.ASN1ErrorKind.TheVariants.{OutOfMemory}
use Rattle.yasna_base.specs.declared.tag.Tag.{Tag}
use Rattle.yasna_base.specs.declared.tag.PCBit.TheVariants.{Constructed}
use Rattle.yasna_base.specs.Element.{Element}
use Rattle.yasna_base.specs.Error.{error_of, kind_of}
use Rattle.yasna_base.specs.Header.{ContentsEnd, EndsBefore, OpensAt}
use Rattle.yasna_base.specs.Pieces.{Each}
use Rattle.yasna_base.specs.Raw.{RawValue}
use Rattle.yasna_base.specs.Set.{SetElements}
use Rattle.yasna_base.proofs.Header.{header_of, end_after}
use Rattle.yasna_reader.specs.declared.set.SetElement.{SetElement}
use Rattle.yasna_bytes.specs.Header.{OnlyConstructed}
use Rattle.yasna_reader.specs.Sequence.{EntersAt, Left, ReadsParts, place_in}
use Rattle.yasna_reader.specs.Set.{RunsOnSet, SetCallback, all_taken}
use Rattle.yasna_reader.specs.SetList.{IsSetList, NotSetList}
use Rattle.yasna_reader.specs.SetLaws.{MatchedOfAll, IsElementOf, ReadsSet, RejectsSet, RunOnValues, TakesSet, elements_bytes}
use Rattle.yasna_reader.specs.State.{Reading, inside, tag_of, untagged, UnlessFailed}
use Rattle.yasna_bytes.proofs.Header.{element_header}
use Rattle.yasna_reader.proofs.Sequences.{around, place_after, within}
use Rattle.yasna_bytes.proofs.Ending.{closed}
use Rattle.yasna_reader.proofs.SetLaws.{all_one, lists_are_one, lists_are_sets, order_of_same, same_bytes, sets_are_listed, values_of_same}

module _ {F A : Type 0} (g : SetCallback F A) (f : F) where
  all_matched : (own : Result A ASN1Error) (l : List SetElement) (v : A) → Ok v ≡ all_taken own l → (own ≡ Ok v) × (l ≡ [])
  all_matched (Err e) l v h = absurd (cc)
  all_matched (Ok w) [] v h = (sym h, refl)
  all_matched (Ok w) (x ∷ l) v h = absurd (cc)

  -- contents that are those of a SET, from whose elements a callback gave a value
  record GaveFrom (s : Reading) (c : List ℕ) (v : A) (left : Reading) : Type 0 where
    values : List RawValue
    prefix : List ℕ
    rest : List ℕ
    joined : c ≡ prefix ++ rest
    contents : SetElements s.mode (s.levels - 1) values prefix
    run : RunOnValues g f s values
    elements : elements_bytes run.list.items ≡ prefix
    matched : MatchedOfAll run.own run.left v
    place : left.left ≡ rest

  matched_from : (s : Reading) (c : List ℕ) (v : A) (own : Result A ASN1Error) (left : Reading) → RunsOnSet g f (inside s c) own left → own ≡ Ok v →
      left.failed ≡ None → GaveFrom s c v left
  matched_from s c v own left (inl x) e k =
      let l = x.found.list in
      let w = (lists_are_sets (s.levels - 1) s.mode l.items c x.found.rest).0 x.found.lists in
      let a = all_matched x.run.own x.run.left.list.items v (sym e ∙ x.returned) in
      record {
        values = w.0;
        prefix = elements_bytes l.items;
        rest = x.found.rest;
        joined = w.1.joined;
        contents = w.1.contents;
        run = record { list = l; each = w.1.each; own = x.run.own; left = x.run.left; called = x.run.called };
        elements = refl;
        matched = record { returned = a.0; all = a.1; unfailed = sym (ap (λ (z : Reading). z.failed) x.state) ∙ k };
        place = ap (λ (z : Reading). z.left) x.state;
      }
  matched_from s c v own left (inr x) e k = let h = sym x.returned ∙ e in absurd (cc)

  module _ (t : Tag) (s : Reading) (c : List ℕ) (after : ContentsEnd) (opens : OpensAt s.mode t Constructed s.left c after) where
    set_parsed : 1 ≤ s.levels → (own : Result A ASN1Error) (left : Reading) → RunsOnSet g f (inside s c) own left → (k : Option ASN1Error) → left.failed ≡ k →
        (v : A) (s' : Reading) → Left after c k left.left own (untagged s) (Ok v) s' → TakesSet g f t s v s'
    set_parsed l own left x (Some e) i v s' h = let a = h.returned in absurd (cc)
    set_parsed l (Err e) left x None i v s' h = let a = h.returned in absurd (cc)
    set_parsed l (Ok w) left x None i v s' (inr h) = let a = h.fails.returned in absurd (cc)
    set_parsed l (Ok w) left x None i v s' (inl h) =
        let q = matched_from s c v (Ok w) left x (sym h.returned) i in
        let at : place_in c left.left ≡ q.rest = ap (λ z. place_in c z) q.place ∙ ap (λ z. place_in z q.rest) q.joined ∙ place_after q.prefix q.rest in
        let y = closed s.mode t Constructed s.left c after opens q.prefix q.rest h.rest q.joined (subst (λ z. EndsBefore after z h.rest) at h.ends) in
        record {
          values = q.values;
          prefix = y.bytes;
          rest = h.rest;
          joined = y.joined;
          set = around SetElements t s.mode s.levels q.values y.bytes l (record { contents = q.prefix; element = y.element; meaning = q.contents });
          run = q.run;
          contents = subst (λ z. Element s.mode t Constructed z y.bytes) (sym q.elements) y.element;
          matched = q.matched;
          state = h.state;
        }

    not_run : (l : List SetElement) (y : List ℕ) → IsSetList (s.levels - 1) s.mode l c y → (kind : ASN1ErrorKind) → (kind ≡ OutOfMemory → ⊥) →
        NotSetList (s.levels - 1) s.mode c kind → ⊥
    not_run l y p kind q (inl h) = h.none q l y p.all
    not_run l y p kind q (inr h) =
        let same = (all_one (s.levels - 1) s.mode h.0.list l c h.0.rest y h.0.all p.all).0 in
        h.0.disorder (order_of_same s.mode h.0.list l same p.order)

    sticky_is : (z : List ℕ) (own : Result A ASN1Error) (d : ASN1Error) (k : Option ASN1Error) → k ≡ Some d → (e : ASN1Error) (s' : Reading) →
        Left after c k z own (untagged s) (Err e) s' → e ≡ d
    sticky_is z own d (Some b) i e s' h = let a = h.returned in cc
    sticky_is z own d None i e s' h = absurd (cc)

    -- where a callback leaves contents at their end, kept no failure and returned Ok, that isn't rejected
    not_rejected : (d y : List ℕ) → c ≡ d ++ y → (rest : List ℕ) → EndsBefore after y rest → (own : Result A ASN1Error) (z : List ℕ) → z ≡ y → (v : A) →
        own ≡ Ok v → (k : Option ASN1Error) → k ≡ None → (e : ASN1Error) (s' : Reading) → Left after c k z own (untagged s) (Err e) s' → ⊥
    not_rejected d y j rest ends own z m v i (Some b) n e s' h = absurd (cc)
    not_rejected d y j rest ends (Err b) z m v i None n e s' h = absurd (cc)
    not_rejected d y j rest ends (Ok w) z m v i None n e s' (inl h) = let a = h.returned in absurd (cc)
    not_rejected d y j rest ends (Ok w) z m v i None n e s' (inr h) =
        let at : place_in c z ≡ y = ap (λ u. place_in c u) m ∙ ap (λ u. place_in u y) j ∙ place_after d y in
        elim h.no_end [
          | inl before ↦ omega (arith, before, ap length j, length-append d y, ap length m)
          | inr wrong ↦ wrong rest (subst (λ u. EndsBefore after u rest) (sym at) ends)
        ]

    -- where the contents are those of a SET, the callback was run on its elements
    run_as : (vs : List RawValue) (d y : List ℕ) (l : List SetElement) → Each (IsElementOf (s.levels - 1) s.mode) l vs → (prefix : List ℕ) →
        Element s.mode t Constructed (elements_bytes l) prefix →
        IsSetList (s.levels - 1) s.mode l c y → c ≡ d ++ y → (rest : List ℕ) → EndsBefore after y rest → (own : Result A ASN1Error) (left : Reading) →
        RunsOnSet g f (inside s c) own left → (k : Option ASN1Error) → left.failed ≡ k → (e : ASN1Error) (s' : Reading) →
        Left after c k left.left own (untagged s) (Err e) s' → (kind_of e ≡ OutOfMemory → ⊥) →
        (x : RunOnValues g f s vs) × Element s.mode t Constructed (elements_bytes x.list.items) prefix × ((v : A) → MatchedOfAll x.own x.left v → ⊥)
    run_as vs d y l each prefix element p j rest ends own left (inl x) k i e s' h q =
        let found = x.found.list.items in
        let same = lists_are_one (s.levels - 1) s.mode found l c x.found.rest y x.found.lists p in (
          record {
            list = x.found.list;
            each = values_of_same (s.levels - 1) s.mode found l vs same.0 each;
            own = x.run.own;
            left = x.run.left;
            called = x.run.called;
          },
          subst (λ z. Element s.mode t Constructed z prefix) (sym (same_bytes found l same.0)) element,
          λ v matched.
              not_rejected d y j rest ends own left.left (ap (λ (z : Reading). z.left) x.state ∙ same.1) v
              (x.returned ∙ ap₂ (λ a b. all_taken a b) matched.returned matched.all) k (sym i ∙ ap (λ (z : Reading). z.failed) x.state ∙ matched.unfailed) e s' h,
        )
    run_as vs d y l each prefix element p j rest ends own left (inr x) k i e s' h q =
        let m = sticky_is left.left own (error_of x.kind) k (sym i ∙ ap (λ (z : Reading). z.failed) x.state) e s' h in
        absurd (not_run l y p x.kind (λ n. q (ap kind_of m ∙ n)) x.why)

    set_rejected : (own : Result A ASN1Error) (left : Reading) → RunsOnSet g f (inside s c) own left → (k : Option ASN1Error) → left.failed ≡ k → (e : ASN1Error)
        (s' : Reading) → Left after c k left.left own (untagged s) (Err e) s' → RejectsSet g f t s e
    set_rejected own left x k i e s' h = λ vs prefix rest q j p.
        let w = (within SetElements t s.mode s.levels vs prefix p).1 in
        let b = header_of s.mode t t Constructed Constructed s.left c w.contents prefix rest after opens w.element j in
        let z = sets_are_listed (s.levels - 1) s.mode vs w.contents c b.after w.meaning b.joined (end_after after b.after rest b.ends) in
        run_as vs w.contents b.after z.0 z.2.each prefix (subst (λ u. Element s.mode t Constructed u prefix) (sym z.1) w.element)
        ((lists_are_sets (s.levels - 1) s.mode z.0 c b.after).1 (vs, z.2)) b.joined rest b.ends own left x k i e
        s' h q

  set_entered : (t : Tag) (s : Reading) (r : Result A ASN1Error) (s' : Reading) → EntersAt (RunsOnSet g f) t s r s' → ReadsSet g f t s r s'
  set_entered t s (Ok v) s' (inl x) = set_parsed t s x.contents x.end x.opens x.level x.own x.left x.obeys x.left.failed refl v s' x.closed
  set_entered t s (Err e) s' (inl x) = set_rejected t s x.contents x.end x.opens x.own x.left x.obeys x.left.failed refl e s' x.closed
  set_entered t s (Ok v) s' (inr x) = let h = x.returned in absurd (cc)
  set_entered t s (Err e) s' (inr x) = λ vs prefix rest q j p.
      let w = within SetElements t s.mode s.levels vs prefix p in
      absurd (x.rejects.none (λ m. x.rejects.memory m)
      (element_header OnlyConstructed s.mode s.levels t Constructed w.1.contents prefix s.left rest w.0 refl w.1.element j))

  -- what a read of a SET does
  pub reads_set : (tag : Tag) (s : Reading) (r : Result A ASN1Error) (s' : Reading) → ReadsParts (RunsOnSet g f) tag s r s' → s.failed ≡ None →
      ReadsSet g f (tag_of s tag) s r s'
  reads_set tag s r s' h k = set_entered (tag_of s tag) s r s' (subst (λ z. UnlessFailed z s r s' (EntersAt (RunsOnSet g f) (tag_of s tag) s r s')) k h.enters)
