-- Segments of a string: where their reading stopped, and that no others go elsewhere.
use Rattle.std.proofs.Common.{◌≡◌, ℕ, ◌-◌, ◌<◌, List, [], ◌∷◌, ◌++◌, length, true, false, refl, sym, ap, subst, ◌∙◌, append_assoc, append-nil, length-append, arith}
use Rattle.std.specs.List.{concat}
use Rattle.std.specs.Prelude.{Ok, Err}
use Rattle.yasna_base.specs.declared.error.ASN1ErrorKind.{ASN1ErrorKind}
use Rattle.yasna_base.specs.declared.error.ASN1ErrorKind.TheVariants.{OutOfMemory}
use Rattle.yasna_base.specs.declared.mode.BERMode.{BERMode}
use Rattle.yasna_base.specs.Segmented.{Segmentation, IsSegmented, IsDeepSegmented}
use Rattle.yasna_base.specs.Identifier.{AtEnd, BeginsWithTag}
use Rattle.yasna_base.specs.Pieces.{Each}
use Rattle.yasna_base.proofs.Segmented.{SegmentsOnce, segmented_begins, segmented_starts, segmented_exact, deep_begins, deep_not_segmented}
use Rattle.yasna_base.proofs.Identifier.{begins_some, begins_with}
use Rattle.yasna_base.proofs.Pieces.{NoPrefix, no_prefix_at_end, pieces_further, pieces_append, one_piece}
use Rattle.yasna_bytes.specs.declared.bytes.header.Rejection.{Rejection}
use Rattle.yasna_bytes.specs.Rejection.{BlamesBytes, IsElsewhere, nothing}
use Rattle.yasna_bytes.specs.declared.bytes.segments.cuts.Cuts.{Cuts}
use Rattle.yasna_bytes.specs.Segments.{GoOn, HoldsBytes, Adds, further_cut, AreCut, LeadTo, MakeUpTo, IsDeepWithin, SegmentsRead, ReadsUpTo, TakesSegments, Appends, RejectsSegments, TakesString, RejectsString}
use Rattle.yasna_bytes.proofs.Cuts.{none_cut, further_is_cut}
use Rattle.yasna_bytes.proofs.Rejection.{blames_not_depth, at_end_elsewhere, begins_not_elsewhere}

-- segments that say ws and then y go on where those that say vs stopped, or stop there
data GoesOn {A : Type 0} (R : A → List ℕ → Type 0) (vs ws : List A) (x y : List ℕ) : Type 0 where
  stops : vs ≡ ws → x ≡ y → GoesOn R vs ws x y
  goes : (w : A) (us : List A) (b r : List ℕ) → ws ≡ vs ++ (w ∷ us) → R w b → x ≡ b ++ r → GoesOn R vs ws x y

goes_on : {A : Type 0} (R : A → List ℕ → Type 0) (vs ws us : List A) (bs : List (List ℕ)) (x y : List ℕ) → Each R us bs → ws ≡ vs ++ us →
    x ≡ concat bs ++ y → GoesOn R vs ws x y
goes_on R vs ws [] [] x y p f e = stops (sym (f ∙ append-nil vs)) e
goes_on R vs ws [] (b ∷ bs) x y p f e = absurd p
goes_on R vs ws (w ∷ us) [] x y p f e = absurd p
goes_on R vs ws (w ∷ us) (b ∷ bs) x y p f e = goes w us b (concat bs ++ y) f p.0 (e ∙ append_assoc b (concat bs) y)

leads_on : {A : Type 0} {R : A → List ℕ → Type 0} → ((v w : A) (b c r s : List ℕ) → R v b → R w c → b ++ r ≡ c ++ s → (v ≡ w) × (b ≡ c)) →
    (c : List ℕ) (vs ws : List A) (x y : List ℕ) → LeadTo R c vs x → LeadTo R c ws y → NoPrefix R y → GoesOn R vs ws x y
leads_on {R} exact c vs ws x y f g none =
    let i = pieces_further exact vs ws f.prefix g.prefix x y f.pieces g.pieces none (sym f.joined ∙ g.joined) in
    goes_on R vs ws i.values i.pieces.pieces x y i.pieces.each i.all (i.joined ∙ ap (λ z. z ++ y) i.pieces.joined)

-- a further segment
lead_more : {A : Type 0} (R : A → List ℕ → Type 0) (c : List ℕ) (vs : List A) (y : List ℕ) (v : A) (b r : List ℕ) → LeadTo R c vs y → R v b → y ≡ b ++ r →
    LeadTo R c (vs ++ (v ∷ [])) r
lead_more R c vs y v b r f p e = record {
  prefix = f.prefix ++ b;
  pieces = pieces_append vs (v ∷ []) f.prefix b f.pieces (one_piece v b p);
  joined = f.joined ∙ ap (λ z. f.prefix ++ z) e ∙ sym (append_assoc f.prefix b r);
}

module _ {A : Type 0} {k : Segmentation A} (once : SegmentsOnce k) (n : ℕ) (m : BERMode) (c : List ℕ) where
  -- a string isn't elsewhere
  segment_not_elsewhere : (v : A) (b r y : List ℕ) → IsSegmented k k.segment m n v b → y ≡ b ++ r → IsElsewhere k.segment y → ⊥
  segment_not_elsewhere v b r y p e = begins_not_elsewhere (subst (λ z. BeginsWithTag k.segment z) (sym e)
      (begins_with k.segment b r (segmented_begins k n m k.segment v b p)))

  -- where segments that go on after vs make no value, contents end nowhere but there
  pub record OneEnd (vs ws : List A) (y z : List ℕ) : Type 0 where
    pub same : z ≡ y
    pub values : ws ≡ vs
    pub value : A
    pub join : k.join m vs value
    pub at_end : AtEnd y

  one_end : (vs : List A) (y : List ℕ) → LeadTo (IsSegmented k k.segment m n) c vs y →
      ((w : A) (us : List A) (v : A) (b r : List ℕ) → IsSegmented k k.segment m n w b → y ≡ b ++ r → k.join m (vs ++ (w ∷ us)) v → ⊥) →
      (z : List ℕ) (e : MakeUpTo k n m c z) → OneEnd vs e.values y z
  one_end vs y f none z e =
      elim (leads_on (segmented_exact once n n m k.segment) c vs e.values y z f e.lead
      (no_prefix_at_end (λ v b. segmented_starts k n m k.segment v b once.segment) z e.at_end)) [
        | stops g h ↦
            record {
              same = sym h;
              values = sym g;
              value = e.value;
              join = subst (λ us. k.join m us e.value) (sym g) e.join;
              at_end = subst (λ x. AtEnd x) (sym h) e.at_end;
            }
        | goes w us b r g p h ↦ absurd (none w us e.value b r p h (subst (λ ws. k.join m ws e.value) g e.join))
      ]

  -- nor is too deep a segment elsewhere
  one_deep : (vs : List A) (y : List ℕ) → LeadTo (IsSegmented k k.segment m n) c vs y →
      ((w : A) (us : List A) (b r : List ℕ) → IsSegmented k k.segment m n w b → y ≡ b ++ r → k.more (vs ++ (w ∷ us)) → ⊥) →
      IsDeepWithin k n m c → k.more vs × IsDeepSegmented k k.segment m n y
  one_deep vs y f none d =
      let g : LeadTo (IsSegmented k k.segment m n) c d.values d.rest = record { prefix = d.prefix; pieces = d.pieces; joined = d.joined } in
      elim (leads_on (segmented_exact once n n m k.segment) c vs d.values y d.rest f g (deep_not_segmented once n m k.segment d.rest d.deep)) [
        | stops h i ↦ (subst k.more (sym h) d.more, subst (IsDeepSegmented k k.segment m n) (sym i) d.deep)
        | goes w us b r h p i ↦ absurd (none w us b r p i (subst k.more h d.more))
      ]

-- segments were read as far as y, and their bytes appended to out
abbrev pub Reached : {A T : Type 0} → Segmentation A → (List ℕ → T → A) → ℕ → BERMode → List ℕ → T → Cuts → List ℕ → List ℕ → List ℕ → Type 0
Reached k value n m c x u y out out' = Appends (λ s. ReadsUpTo k value n m c s y) x u out out'

module _ {A T : Type 0} {k : Segmentation A} {value : List ℕ → T → A} (once : SegmentsOnce k) (go_on : GoOn k) (n : ℕ) (m : BERMode) (c : List ℕ) where
  -- reading begins with no segments
  pub reached_none : (x : T) (u : Cuts) (out : List ℕ) → u ≡ record { some = false; full = true; even = false } → k.join m [] (value [] x) →
      Reached k value n m c x u c out out
  reached_none x u out e j = record {
    values = [];
    bytes = [];
    holds = record {
      lead = record { prefix = []; pieces = record { pieces = []; each = tt; joined = refl }; joined = refl };
      join = j;
      cut = subst (AreCut k []) (sym e) (none_cut k);
    };
    added = sym (append-nil out);
  }

  -- reading goes on by a further segment
  pub reached_more : HoldsBytes k value → (x z s : T) (u w : Cuts) (y r out out' out'' : List ℕ) → (h : Reached k value n m c x u y out out') →
      k.more h.values → TakesString k value n m k.segment y out' s r out'' → Adds k value x s (Ok z) → w ≡ further_cut u k.full (length out'' - length out') →
      Reached k value n m c z w r out out''
  reached_more holds x z s u w y r out out' out'' h more t a e = record {
    values = h.values ++ (value t.bytes s ∷ []);
    bytes = h.bytes ++ t.bytes;
    holds = record {
      lead = lead_more (IsSegmented k k.segment m n) c h.values y (value t.bytes s) t.takes.prefix r h.holds.lead t.takes.member t.takes.joined;
      join = a m h.values h.bytes t.bytes h.holds.join more;
      cut =
          let size : length out'' - length out' ≡ length (k.bytes (value t.bytes s)) =
          omega (arith, ap length t.added, length-append out' t.bytes, ap length (holds t.bytes s)) in
          subst (AreCut k (h.values ++ (value t.bytes s ∷ []))) (sym e)
          (further_is_cut k h.values u (value t.bytes s) (length out'' - length out') size h.holds.cut);
    };
    added = t.added ∙ ap (λ q. q ++ t.bytes) h.added ∙ append_assoc out h.bytes t.bytes;
  }

  -- fewer bytes are left behind it
  pub reached_shorter : (s : T) (y r out out' : List ℕ) → TakesString k value n m k.segment y out s r out' → length r < length y
  reached_shorter s y r out out' t =
      let i = begins_some k.segment t.takes.prefix (segmented_begins k n m k.segment (value t.bytes s) t.takes.prefix t.takes.member) in
      omega (arith, ap length t.takes.joined, length-append t.takes.prefix r)

  -- reading stops where no segment is there
  pub stops_elsewhere : (s : SegmentsRead A T) (y : List ℕ) → ReadsUpTo k value n m c s y → IsElsewhere k.segment y → TakesSegments k value n m c s y
  stops_elsewhere s y h f = record {
    read = h;
    only = λ z e. let i = one_end once n m c s.values y h.lead (λ w us v b r p g _. segment_not_elsewhere once n m c w b r y p g f) z e in (i.same, i.values);
    not_deep = λ d. begins_not_elsewhere
        (deep_begins k n m k.segment y (one_deep once n m c s.values y h.lead (λ w us b r p g _. segment_not_elsewhere once n m c w b r y p g f) d).1) f;
  }

  -- or where none may follow
  pub stops_full : (s : SegmentsRead A T) (y : List ℕ) → ReadsUpTo k value n m c s y → (k.more s.values → ⊥) → TakesSegments k value n m c s y
  stops_full s y h f = record {
    read = h;
    only = λ z e. let i = one_end once n m c s.values y h.lead (λ w us v b r p g j. f (go_on.joined m s.values us w v j)) z e in (i.same, i.values);
    not_deep = λ d. f (one_deep once n m c s.values y h.lead (λ w us b r p g j. f (go_on.more s.values us w j)) d).0;
  }

  -- a segment is rejected
  pub segment_rejected : (s : SegmentsRead A T) (y : List ℕ) (e : Rejection) → ReadsUpTo k value n m c s y → k.more s.values → RejectsString k n m k.segment y e →
      e.consumed ≡ true → RejectsSegments k n m c e
  segment_rejected s y e h more f o =
      let there : IsElsewhere k.segment y → ⊥ = λ g. let i = f.consumed.1 g in absurd (cc) in
      let none : (e.kind ≡ OutOfMemory → ⊥) → NoPrefix (IsSegmented k k.segment m n) y =
      λ q w b r p g. f.none q (w, r, record { prefix = b; joined = g; member = p }) in
      record {
        none = λ q z i. there (at_end_elsewhere k.segment y once.segment (one_end once n m c s.values y h.lead
            (λ w us v b r p g _. none q w b r p g) z i).at_end);
        consumed = o;
        too_deep = λ i. record {
          values = s.values;
          prefix = h.lead.prefix;
          rest = y;
          pieces = h.lead.pieces;
          more = more;
          joined = h.lead.joined;
          deep = f.too_deep i;
        };
        deep = λ q d. f.deep q (one_deep once n m c s.values y h.lead (λ w us b r p g _. none q w b r p g) d).1;
        not_empty = λ i. there (nothing (no_rest h.lead.prefix y (sym h.lead.joined ∙ i)));
      }
    where
      no_rest : (a b : List ℕ) → a ++ b ≡ [] → b ≡ []
      no_rest [] b e = e
      no_rest (x ∷ a) b e = absurd (cc)

  -- a segment was read of which too much is known with the others
  pub segment_too_much : (x s : T) (u : Cuts) (y r out out' out'' : List ℕ) (q : ASN1ErrorKind) (e : Rejection) → Reached k value n m c x u y out out' →
      TakesString k value n m k.segment y out' s r out'' → Adds k value x s (Err q) → e.kind ≡ q → e.consumed ≡ true → RejectsSegments k n m c e
  segment_too_much x s u y r out out' out'' q e h t a f o =
      let w = value t.bytes s in
      let vs = h.values ++ (w ∷ []) in
      let lead = lead_more (IsSegmented k k.segment m n) c h.values y w t.takes.prefix r h.holds.lead t.takes.member t.takes.joined in
      let none : (us : List A) → ((v : A) → k.join m (h.values ++ (w ∷ us)) v → ⊥) × (k.more (h.values ++ (w ∷ us)) → ⊥) =
      λ us. a.1 m h.values us h.bytes t.bytes h.holds.join in
      let blames_bytes : BlamesBytes e.kind = subst BlamesBytes (sym f) a.0 in
      record {
        none = λ _ z i. let j = one_end once n m c vs r lead (λ u us v b x p g l.
            (none (u ∷ us)).0 v (subst (λ ws. k.join m ws v) (append_assoc h.values (w ∷ []) (u ∷ us)) l)) z i in
            (none []).0 j.value j.join;
        consumed = o;
        too_deep = λ i. absurd (blames_not_depth blames_bytes i);
        deep = λ _ d. absurd ((none []).1 (one_deep once n m c vs r lead (λ u us b x p g l.
            (none (u ∷ us)).1 (subst k.more (append_assoc h.values (w ∷ []) (u ∷ us)) l)) d).0);
        not_empty = λ i. let j = reached_shorter s y r out' out'' t in
            omega (arith, ap length i, ap length h.holds.lead.joined, length-append h.holds.lead.prefix y);
      }
