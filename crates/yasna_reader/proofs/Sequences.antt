-- Elements whose contents a callback reads, up to their end.
use Rattle.std.proofs.Common.{◌≡◌, ℕ, zero, suc, ◌-◌, ◌≤◌, ◌⊎◌, inl, inr, List, ◌++◌, length, drop, Option, Some, None, refl, sym, ap, subst, ◌∙◌, length-append, Bool, true, false, arith}
use Rattle.std.proofs.Math.Seq.{drop-append_seam}
use Rattle.std.specs.Prelude.{Result, Ok, Err}
use Rattle.yasna_base.specs.declared.error.ASN1Error.{ASN1Error}
use Rattle.yasna_base.specs.declared.error.ASN1ErrorKind.TheVariants.{OutOfMemory}
use Rattle.yasna_base.specs.declared.mode.BERMode.{BERMode}
use Rattle.yasna_base.specs.declared.tag.Tag.{Tag}
use Rattle.yasna_base.specs.declared.tag.PCBit.TheVariants.{Constructed}
use Rattle.yasna_base.specs.Error.{kind_of, error_of}
use Rattle.yasna_base.specs.Grammar.{Grammar, Members}
use Rattle.yasna_base.specs.Identifier.{end_tag, tag_or}
use Rattle.yasna_base.specs.Element.{Around, Enclosed, AnyEnclosed}
use Rattle.yasna_base.proofs.Header.{opens_begins, header_of, end_after}
use Rattle.yasna_base.proofs.Lists.{append_same}
use Rattle.yasna_bytes.specs.Opening.{Opening}
use Rattle.yasna_bytes.specs.declared.bytes.header.Rejection.{Rejection}
use Rattle.yasna_base.specs.Header.{ContentsEnd, OpensAt}
use Rattle.yasna_bytes.specs.Header.{EndsBefore, RejectsHeader, OnlyConstructed}
use Rattle.yasna_reader.specs.Parse.{unless_failed}
use Rattle.yasna_reader.specs.Sequence.{place_in, Fails, Left, Entered, NotEntered, EntersAt, ReadsParts, StepsIn, StaysOut, sticky, rejected, TakesContents}
use Rattle.yasna_reader.specs.Decodes.{Explains, StickyExplains, NotParsed, NoMatchAtEnd, Decodes, NotContents, ParsedContents, DecodesContents}
use Rattle.yasna_reader.specs.State.{Reading, IsFresh, inside, untagged, rejecting, tag_of, Does, UnlessFailed}
use Rattle.yasna_bytes.proofs.Rejection.{blames_not_memory, blames_bytes_of, at_end_elsewhere, not_at_end}
use Rattle.yasna_bytes.proofs.Ending.{closed}
use Rattle.yasna_bytes.proofs.Header.{element_header}

module _ {A : Type 0} (P Q : Does A) (obeys : (s : Reading) (r : Result A ASN1Error) (s' : Reading) → IsFresh s → P s r s' → Q s r s') where
  enters_map : (k : Option ASN1Error) (t : Tag) (s : Reading) (r : Result A ASN1Error) (s' : Reading) → UnlessFailed k s r s' (EntersAt P t s r s') →
      UnlessFailed k s r s' (EntersAt Q t s r s')
  enters_map (Some e) t s r s' h = h
  enters_map None t s r s' (inr x) = inr x
  enters_map None t s r s' (inl x) = inl (record {
    level = x.level;
    contents = x.contents;
    end = x.end;
    opens = x.opens;
    own = x.own;
    left = x.left;
    obeys = obeys (inside s x.contents) x.own x.left (refl, refl) x.obeys;
    closed = x.closed;
  })

  -- where contents are read as P says, and so as Q says
  pub parts_map : (tag : Tag) (s : Reading) (r : Result A ASN1Error) (s' : Reading) → ReadsParts P tag s r s' → ReadsParts Q tag s r s'
  parts_map tag s r s' h = record { enters = enters_map s.failed (tag_of s tag) s r s' h.enters }

-- an element that was stepped into, whose contents were read as P says, and which was left
pub stepped_in : {A : Type 0} (P : Does A) (tag : Tag) (s : Reading) (o : Opening) (z m : Reading) (own : Result A ASN1Error) (left : Reading)
    (r : Result A ASN1Error) (s' : Reading) → StepsIn (tag_of s tag) s o × (m ≡ s) → z ≡ inside m o.contents → P z own left →
    Left o.end o.contents left.failed left.left own (untagged m) r s' → ReadsParts P tag s r s'
stepped_in P tag s o z m own left r s' h e p l = record {
  enters = subst (λ k. UnlessFailed k s r s' (EntersAt P (tag_of s tag) s r s')) (sym h.0.unfailed) (inl (record {
    level = h.0.level;
    contents = o.contents;
    end = o.end;
    opens = h.0.opens;
    own = own;
    left = left;
    obeys = subst (λ w. P w own left) (e ∙ ap (λ k. inside k o.contents) h.1) p;
    closed = subst (λ w. Left o.end o.contents left.failed left.left own (untagged w) r s') h.1 l;
  }));
}

-- one that wasn't
pub stayed_out : {A : Type 0} (P : Does A) (tag : Tag) (s : Reading) (e : ASN1Error) (s' : Reading) → StaysOut (tag_of s tag) s e s' →
    ReadsParts P tag s (Err e) s'
stayed_out {A} P tag s e s' (sticky k m) = record { enters = subst (λ o. UnlessFailed {A = A} o s (Err e) s' (EntersAt P (tag_of s tag) s (Err e) s')) (sym k) (refl, m) }
stayed_out {A} P tag s e s' (rejected k h) = record {
  enters = subst (λ o. UnlessFailed {A = A} o s (Err e) s' (EntersAt P (tag_of s tag) s (Err e) s')) (sym k) (inr (record {
    rejection = h.rejection;
    rejects = h.rejects;
    returned = let i = h.returned in let j : e ≡ error_of h.rejection.kind = cc in ap Err j;
    state = h.state;
  }));
}

-- contents that end, or don't, do so whatever value was read of them
pub closed_with : {A : Type 0} (end : ContentsEnd) (c : List ℕ) (k : Option ASN1Error) (y : List ℕ) (v : A) (u : Unit {0}) (s s' : Reading) →
    Left {A = Unit {0}} end c k y (Ok tt) s (Ok u) s' → Left end c k y (Ok v) s (Ok v) s'
closed_with end c (Some e) y v u s s' h = let f = h.returned in absurd (cc)
closed_with end c None y v u s s' (inl h) = inl (record { rest = h.rest; forward = h.forward; ends = h.ends; returned = refl; state = h.state })
closed_with end c None y v u s s' (inr h) = let f = h.fails.returned in absurd (cc)

pub not_closed_with : {A : Type 0} (end : ContentsEnd) (c : List ℕ) (k : Option ASN1Error) (y : List ℕ) (v : A) (e : ASN1Error) (s s' : Reading) →
    Left {A = Unit {0}} end c k y (Ok tt) s (Err e) s' → Left {A = A} end c k y (Ok v) s (Err e) s'
not_closed_with end c (Some d) y v e s s' h = record { returned = let f = h.returned in let g : e ≡ d = cc in ap Err g; state = h.state }
not_closed_with end c None y v e s s' (inl h) = let f = h.returned in absurd (cc)
not_closed_with end c None y v e s s' (inr h) = inr (record {
  error = h.error;
  blames_bytes = h.blames_bytes;
  no_end = h.no_end;
  fails = record { returned = let f = h.fails.returned in let g : e ≡ h.error = cc in ap Err g; state = h.fails.state };
})

-- what holds of the contents of such an element holds of what was stepped into
pub takes_inside : (P : Reading → Type 0) (tag : Tag) (s : Reading) (o : Opening) (z m : Reading) → TakesContents P tag s →
    StepsIn (tag_of s tag) s o × (m ≡ s) → z ≡ inside m o.contents → P z
takes_inside P tag s o z m takes h e =
    subst P (sym (e ∙ ap (λ k. inside k o.contents) h.1)) (takes o.contents o.end h.0.unfailed h.0.level h.0.opens)

pub around : {A : Type 0} (C : Grammar A) (t : Tag) (m : BERMode) (n : ℕ) (v : A) (b : List ℕ) → 1 ≤ n → Around m t (C m (n - 1)) v b →
    Enclosed C t m n v b
around C t m zero v b l h = absurd (omega arith)
around C t m (suc n) v b l h = let e : suc n - 1 ≡ n = omega arith in subst (λ k. Around m t (C m k) v b) e h

pub within : {A : Type 0} (C : Grammar A) (t : Tag) (m : BERMode) (n : ℕ) (v : A) (b : List ℕ) → Enclosed C t m n v b →
    (1 ≤ n) × Around m t (C m (n - 1)) v b
within C t m zero v b h = absurd h
within C t m (suc n) v b h = let e : n ≡ suc n - 1 = omega arith in (omega arith, subst (λ k. Around m t (C m k) v b) e h)

-- what is left behind a front is found by its length
pub place_after : (b r : List ℕ) → place_in (b ++ r) r ≡ r
place_after b r =
    let e : length (b ++ r) - length r ≡ length b = omega (arith, length-append b r) in
    ap (λ n. drop n (b ++ r)) e ∙ drop-append_seam b r

-- what holds of two things holds of what equals them
pub replaced : {X Y : Type 0} {r x : X} {s y : Y} (B : X → Y → Type 0) → r ≡ x → s ≡ y → B x y → B r s
replaced {r} {y} B e f h = subst (λ z. B r z) (sym f) (subst (λ z. B z y) (sym e) h)

module _ {A : Type 0} (may_allocate : Bool) (C : Grammar A) (S : Members) (t : Tag) (not_end : t ≡ end_tag → ⊥) (s : Reading) (fresh : IsFresh s) where
  untagged_fresh : (k : Option ASN1Error) → record (untagged s) { failed = k } ≡ record s { failed = k }
  untagged_fresh k = ap {A = Option Tag} {B = Reading} (λ u. record s { failed = k; tag = u }) (sym fresh.1)

  -- a result that was sticky, where no prefix of the contents is what they are to be
  sticky_error : (c : List ℕ) (after : ContentsEnd) → OpensAt s.mode t Constructed s.left c after → (e : ASN1Error) →
      ((kind_of e ≡ OutOfMemory → ⊥) → (d y r : List ℕ) → c ≡ d ++ y → EndsBefore after y r → S s.mode (s.levels - 1) d → ⊥) →
      (kind_of e ≡ OutOfMemory → may_allocate ≡ true) → (r : Result A ASN1Error) (s' : Reading) → Fails e (untagged s) r s' →
      Decodes may_allocate (Enclosed C t) (AnyEnclosed S t) s r s'
  sticky_error c after o e none memory r s' h =
      let T : Explains may_allocate (AnyEnclosed S t s.mode s.levels) s.left e = record {
        none = λ q b v i j.
            let w = (within {A = Unit {0}} (λ m n u c. S m n c) t s.mode s.levels tt b j).1 in
            let x = header_of s.mode t t Constructed Constructed s.left c w.contents b v after o w.element i in
            none q w.contents x.after v x.joined x.ends w.meaning;
        memory = memory;
      } in
      replaced (Decodes may_allocate (Enclosed C t) (AnyEnclosed S t) s) h.returned h.state (
        record { explains = T; failed = T; further = omega arith; same = untagged_fresh (Some e) },
        λ i. absurd
            (not_at_end t s.left not_end i (opens_begins s.mode t Constructed s.left c after o)),
      )

  contents_error : (c : List ℕ) (after : ContentsEnd) → OpensAt s.mode t Constructed s.left c after → (e : ASN1Error) →
      NotContents may_allocate (S s.mode (s.levels - 1)) (inside s c) e → (r : Result A ASN1Error) (s' : Reading) → Fails e (untagged s) r s' →
      Decodes may_allocate (Enclosed C t) (AnyEnclosed S t) s r s'
  contents_error c after o e x = sticky_error c after o e (λ q d y r i j. x.none q d y i (end_after after y r j)) x.memory

  left_after : (c : List ℕ) (left : Reading) (v : A) → (x : ParsedContents (C s.mode (s.levels - 1)) (S s.mode (s.levels - 1)) (inside s c) v left) →
      place_in c left.left ≡ x.parsed.rest
  left_after c left v x = ap (λ (z : Reading). place_in c z.left) x.parsed.left ∙ ap (λ z. place_in z x.parsed.rest) x.parsed.joined ∙
      place_after x.parsed.prefix x.parsed.rest

  left_decodes : (c : List ℕ) (after : ContentsEnd) → OpensAt s.mode t Constructed s.left c after → 1 ≤ s.levels →
      (k : Option ASN1Error) (own : Result A ASN1Error) (left : Reading) → DecodesContents may_allocate C S (inside s c) (unless_failed k own) left →
      (r : Result A ASN1Error) (s' : Reading) → Left after c k left.left own (untagged s) r s' → Decodes may_allocate (Enclosed C t) (AnyEnclosed S t) s r s'
  left_decodes c after o l (Some e) own left x r s' h = contents_error c after o e x r s' h
  left_decodes c after o l None (Err e) left x r s' h = contents_error c after o e x r s' h
  left_decodes c after o l None (Ok v) left x r s' (inl h) =
      let at = left_after c left v x in
      let w = closed s.mode t Constructed s.left c after o x.parsed.prefix x.parsed.rest h.rest x.parsed.joined (subst (λ z. EndsBefore after z h.rest) at h.ends) in
      replaced (Decodes may_allocate (Enclosed C t) (AnyEnclosed S t) s) h.returned h.state (record {
        prefix = w.bytes;
        rest = h.rest;
        joined = w.joined;
        member = around C t s.mode s.levels v w.bytes l (record { contents = x.parsed.prefix; element = w.element; meaning = x.parsed.member });
        left = ap (λ u. record s { left = h.rest; tag = u }) (sym fresh.1);
      })
  left_decodes c after o l None (Ok v) left x r s' (inr h) = sticky_error c after o h.error (λ q d y u i j k.
      let f = x.ends d y i (end_after after y u j) k in
      let g : x.parsed.rest ≡ y = append_same x.parsed.prefix x.parsed.rest y (sym x.parsed.joined ∙ i ∙ ap (λ z. z ++ y) f) in
      elim h.no_end [
        | inl before ↦ omega (arith, before, ap length x.parsed.joined, length-append x.parsed.prefix x.parsed.rest, ap (λ (z : Reading). length z.left) x.parsed.left)
        | inr wrong ↦ wrong u (subst (λ z. EndsBefore after z u) (sym (left_after c left v x ∙ g)) j)
      ]) (λ q. absurd (blames_not_memory h.blames_bytes q)) r s' h.fails

  rejected_at : (k : Rejection) → RejectsHeader OnlyConstructed s.mode s.levels t s.left k →
      Explains may_allocate (AnyEnclosed S t s.mode s.levels) s.left (error_of k.kind) → (w : Bool) → k.consumed ≡ w →
      NotParsed may_allocate (AnyEnclosed S t s.mode s.levels) s (error_of k.kind) (rejecting w s (error_of k.kind)) ×
      NoMatchAtEnd s (error_of k.kind) (rejecting w s (error_of k.kind))
  rejected_at k h T true e = (
    record { explains = T; failed = T; further = omega arith; same = untagged_fresh (Some (error_of k.kind)) },
    λ i. absurd
        (let f = h.consumed.1 (at_end_elsewhere t s.left not_end i) in let g = sym e ∙ f in cc),
  )
  rejected_at k h T false e = (
    record {
      explains = T;
      failed = subst (λ z. StickyExplains may_allocate (AnyEnclosed S t s.mode s.levels) s.left z) (sym fresh.0) tt;
      further = omega arith;
      same = refl;
    },
    λ i. (refl, blames_bytes_of k.kind (λ f. not_at_end t s.left not_end i (h.too_deep f).1) h.memory),
  )

  not_entered_decodes : (r : Result A ASN1Error) (s' : Reading) → NotEntered t s r s' → Decodes may_allocate (Enclosed C t) (AnyEnclosed S t) s r s'
  not_entered_decodes r s' h =
      let e : ASN1Error = error_of h.rejection.kind in
      let T : Explains may_allocate (AnyEnclosed S t s.mode s.levels) s.left e = record {
        none = λ q b v i j.
            let w = within {A = Unit {0}} (λ m n u c. S m n c) t s.mode s.levels tt b j in
            h.rejects.none (λ f. h.rejects.memory f) (element_header OnlyConstructed s.mode s.levels t Constructed w.1.contents b s.left v w.0 refl
            w.1.element i);
        memory = λ q. absurd (h.rejects.memory q);
      } in
      replaced (Decodes may_allocate (Enclosed C t) (AnyEnclosed S t) s) h.returned h.state (rejected_at h.rejection h.rejects T h.rejection.consumed refl)

-- an element whose contents are read up to their end
pub element : {A : Type 0} (may_allocate : Bool) (C : Grammar A) (S : Members) (P : Does A) →
    ((s : Reading) (x : Result A ASN1Error) (left : Reading) → IsFresh s → P s x left → DecodesContents may_allocate C S s (unless_failed left.failed x) left) →
    (t : Tag) → (t ≡ end_tag → ⊥) → (s : Reading) → IsFresh s → (r : Result A ASN1Error) (s' : Reading) → ReadsParts P t s r s' →
    Decodes may_allocate (Enclosed C t) (AnyEnclosed S t) s r s'
element may_allocate C S P obeys t not_end s fresh r s' h =
    let k : Entered P t s r s' ⊎ NotEntered t s r s' =
    subst (λ u. EntersAt P (tag_or u t) s r s') fresh.1 (subst (λ z. UnlessFailed z s r s' (EntersAt P (tag_of s t) s r s')) fresh.0 h.enters) in
    elim k [
      | inl x ↦ left_decodes may_allocate C S t not_end s fresh x.contents x.end x.opens x.level x.left.failed x.own x.left
          (obeys (inside s x.contents) x.own x.left (refl, refl) x.obeys) r s' x.closed
      | inr x ↦ not_entered_decodes may_allocate C S t not_end s fresh r s' x
    ]
