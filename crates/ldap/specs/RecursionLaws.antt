-- The meaning of a recursive type satisfies the laws, where its step does.
use Rattle.std.proofs.Common.{◌≡◌, ◌<◌, ◌≤◌, ◌+◌, ◌^◌, ℕ, zero, suc, List, length, Option, None, refl, sym, subst, ◌∙◌, arith}
use Rattle.yasna_base.specs.declared.mode.BERMode.{BERMode}
use Rattle.yasna_base.specs.declared.tag.Tag.{Tag}
use Rattle.yasna_base.specs.Beginnings.{BeginsBy}
use Rattle.yasna_base.specs.Digits.{IsBytes}
use Rattle.yasna_notation.specs.Laws.{never_retagged}
use Rattle.yasna_notation.specs.Notation.{Meaning, MeaningKeepsLaws}
use Rattle.ldap.specs.Recursion.{nothing_yet, after_steps, means_within, IsStep}

nothing_lawful : {A : Type 0} → MeaningKeepsLaws (nothing_yet {A = A})
nothing_lawful = record {
  own = record {
    coding = record {
      meaning = record {
        equal = record { reflexive = λ v. tt; symmetric = λ v w e. tt; transitive = λ u v w d e. tt };
        among = λ m n v b p. p;
        exact = λ m n k v w b p q. tt;
        deeper = λ m n k v b le p. p;
      };
      opens = λ m n b p. absurd p;
      prefix_free = λ m n k b c r s p q e. absurd p;
    };
    begins = λ t. record { at = λ m n b p. absurd p };
    single = λ m n b p. absurd p;
    exact = record {
      in_bytes = λ m n v f short. absurd f;
      holds = λ m o n v h f short. absurd f;
      only = λ m n v b h p. absurd p;
      can = λ m n v f. f;
      same = λ m v w e. (refl, (λ c. c), (λ n f. f));
    };
  };
  others = λ e. never_retagged e;
}

module _ {A : Type 0} {step : Meaning A → Meaning A} {depth : A → ℕ} (s : IsStep step depth) where
  lawful_after : (k : ℕ) → MeaningKeepsLaws (after_steps step k)
  lawful_after zero = nothing_lawful
  lawful_after (suc k) = s.lawful (after_steps step k) (lawful_after k)

  -- more steps than there are levels change nothing
  pub under_any : (n j k : ℕ) (u : Option Tag) (m : BERMode) (v : A) (b : List ℕ) → n < k → (after_steps step j).under u m n v b →
      (after_steps step k).under u m n v b
  under_any n zero k u m v b lt p = absurd p
  under_any n (suc j) zero u m v b lt p = absurd (omega (arith, lt))
  under_any zero (suc j) (suc k) u m v b lt p = s.follows.flat (after_steps step j) (after_steps step k) u m v b p
  under_any (suc n) (suc j) (suc k) u m v b lt p =
      s.follows.within (after_steps step j) (after_steps step k) u m n (λ w c q. under_any n j k None m w c (omega (arith, lt)) q) v b p

  any_any : (n j k : ℕ) (u : Option Tag) (m : BERMode) (b : List ℕ) → n < k → (after_steps step j).any_under u m n b →
      (after_steps step k).any_under u m n b
  any_any n zero k u m b lt p = absurd p
  any_any n (suc j) zero u m b lt p = absurd (omega (arith, lt))
  any_any zero (suc j) (suc k) u m b lt p = s.follows.any_flat (after_steps step j) (after_steps step k) u m b p
  any_any (suc n) (suc j) (suc k) u m b lt p =
      s.follows.any_within (after_steps step j) (after_steps step k) u m n
      (λ w c q. under_any n j k None m w c (omega (arith, lt)) q) (λ c q. any_any n j k None m c (omega (arith, lt)) q) b p

  fits_any : (n j k : ℕ) (m : BERMode) (v : A) → n < k → (after_steps step j).fits m n v → (after_steps step k).fits m n v
  fits_any n zero k m v lt p = absurd p
  fits_any n (suc j) zero m v lt p = absurd (omega (arith, lt))
  fits_any zero (suc j) (suc k) m v lt p = s.follows.fits_flat (after_steps step j) (after_steps step k) m v p
  fits_any (suc n) (suc j) (suc k) m v lt p =
      s.follows.fits_within (after_steps step j) (after_steps step k) m n (λ w q. fits_any n j k m w (omega (arith, lt)) q) v p

  -- values that are equal after more steps are equal after fewer
  same_less : (j k : ℕ) (v w : A) → j ≤ k → (after_steps step k).same v w → (after_steps step j).same v w
  same_less zero k v w le e = tt
  same_less (suc j) zero v w le e = absurd (omega (arith, le))
  same_less (suc j) (suc k) v w le e =
      s.follows.same_within (after_steps step k) (after_steps step j) (λ x y d. same_less j k x y (omega (arith, le)) d) v w e

  -- more steps than a value is deep don't change its encoding
  pub encoding_any : (j k : ℕ) (u : Option Tag) (m : BERMode) (v : A) → depth v < j → depth v < k →
      (after_steps step j).encoding_under u m v ≡ (after_steps step k).encoding_under u m v
  encoding_any zero k u m v lt le = absurd (omega (arith, lt))
  encoding_any (suc j) zero u m v lt le = absurd (omega (arith, le))
  encoding_any (suc j) (suc k) u m v lt le =
      s.follows.encoding_within (after_steps step j) (after_steps step k) u m v
      (λ w less. encoding_any j k None m w (omega (arith, lt, less)) (omega (arith, le, less)))

  -- a value that can be written after some steps can be written after more than it is deep
  pub can_any : (j k : ℕ) (v : A) → depth v < k → (after_steps step j).can v → (after_steps step k).can v
  can_any zero k v lt c = absurd c
  can_any (suc j) zero v lt c = absurd (omega (arith, lt))
  can_any (suc j) (suc k) v lt c =
      s.follows.can_within (after_steps step j) (after_steps step k) v (λ w less d. can_any j k w (omega (arith, lt, less)) d) c

  -- the meaning satisfies the laws
  pub means_lawful : MeaningKeepsLaws (means_within step depth)
  means_lawful = record {
    own = record {
      coding = record {
        meaning = record {
          equal = record {
            reflexive = λ v k. (lawful_after k).own.coding.meaning.equal.reflexive v;
            symmetric = λ v w e k. (lawful_after k).own.coding.meaning.equal.symmetric v w (e k);
            transitive = λ u v w d e k. (lawful_after k).own.coding.meaning.equal.transitive u v w (d k) (e k);
          };
          among = λ m n v b p. (lawful_after (suc n)).own.coding.meaning.among m n v b p;
          exact = λ m n k v w b p q j.
              let top = suc (n + k + j) in
              same_less j top v w (omega arith) ((lawful_after top).own.coding.meaning.exact m n k v w b
              (under_any n (suc n) top None m v b (omega arith) p) (under_any k (suc k) top None m w b (omega arith) q));
          deeper = λ m n k v b le p.
              under_any k (suc n) (suc k) None m v b (omega arith) ((lawful_after (suc n)).own.coding.meaning.deeper m n k v b le p);
        };
        opens = λ m n b p. (lawful_after (suc n)).own.coding.opens m n b p;
        prefix_free = λ m n k b c r t p q e.
            let top = suc (n + k) in
            (lawful_after top).own.coding.prefix_free m n k b c r t (any_any n (suc n) top None m b (omega arith) p)
            (any_any k (suc k) top None m c (omega arith) q) e;
      };
      begins = λ t. record {
        at = λ m n b p.
            (subst (λ ts. BeginsBy ts ((step (after_steps step n)).any_under None)) (s.tags (after_steps step n))
            ((lawful_after (suc n)).own.begins (s.tags_known (after_steps step n)))).at m n b p;
      };
      single = λ m n b p. (lawful_after (suc n)).own.single m n b p;
      exact = record {
        in_bytes = λ m n v f short.
            let top = suc (n + depth v) in
            let e = encoding_any (suc (depth v)) top None m v (omega arith) (omega arith) in
            subst (λ b. IsBytes b) (sym e) ((lawful_after top).own.exact.in_bytes m n v (fits_any n (suc n) top m v (omega arith) f)
            (subst (λ b. length b < 2 ^ 64) e short));
        holds = λ m o n v h f short.
            let top = suc (n + depth v) in
            let e = encoding_any (suc (depth v)) top None m v (omega arith) (omega arith) in
            under_any n top (suc n) None o v ((after_steps step (suc (depth v))).encoding_under None m v) (omega arith)
            (subst (λ b. (after_steps step top).under None o n v b) (sym e)
            ((lawful_after top).own.exact.holds m o n v h (fits_any n (suc n) top m v (omega arith) f) (subst (λ b. length b < 2 ^ 64) e short)));
        only = λ m n v b h p.
            let top = suc (n + depth v) in
            let e = encoding_any (suc (depth v)) top None m v (omega arith) (omega arith) in
            let y = (lawful_after top).own.exact.only m n v b h (under_any n (suc n) top None m v b (omega arith) p) in
            (y.0 ∙ sym e, fits_any n top (suc n) m v (omega arith) y.1);
        can = λ m n v f. (suc n, (lawful_after (suc n)).own.exact.can m n v f);
        same = λ m v w e.
            let top = suc (depth v + depth w) in (
              encoding_any (suc (depth v)) top None m v (omega arith) (omega arith) ∙ ((lawful_after top).own.exact.same m v w (e top)).0
                  ∙ encoding_any top (suc (depth w)) None m w (omega arith) (omega arith),
              (λ c. (c.0, ((lawful_after c.0).own.exact.same m v w (e c.0)).1 c.1)),
              (λ n f. ((lawful_after (suc n)).own.exact.same m v w (e (suc n))).2 n f),
            );
      };
    };
    others = λ e. never_retagged e;
  }

  -- one more step within the same levels changes no encodings
  pub folded_under : (u : Option Tag) (m : BERMode) (n : ℕ) (v : A) (b : List ℕ) → (step (means_within step depth)).under u m n v b →
      (means_within step depth).under u m n v b
  folded_under u m zero v b p = s.follows.flat (means_within step depth) nothing_yet u m v b p
  folded_under u m (suc n) v b p = s.follows.within (means_within step depth) (after_steps step (suc n)) u m n (λ w c q. q) v b p

  pub unfolded_any : (u : Option Tag) (m : BERMode) (n : ℕ) (b : List ℕ) → (means_within step depth).any_under u m n b →
      (step (means_within step depth)).any_under u m n b
  unfolded_any u m zero b p = s.follows.any_flat nothing_yet (means_within step depth) u m b p
  unfolded_any u m (suc n) b p = s.follows.any_within (after_steps step (suc n)) (means_within step depth) u m n (λ w c q. q) (λ c q. q) b p

  -- a value that can be written can be written by its parts, and its encoding is made of theirs
  pub unfolded_can : (v : A) → (means_within step depth).can v → (step (means_within step depth)).can v
  unfolded_can v c = go c.0 c.1
    where
      go : (k : ℕ) → (after_steps step k).can v → (step (means_within step depth)).can v
      go zero c = absurd c
      go (suc k) c = s.follows.can_within (after_steps step k) (means_within step depth) v (λ w less d. (k, d)) c

  -- a value whose parts can be written can be written
  pub folded_can : (v : A) → (step (means_within step depth)).can v → (means_within step depth).can v
  folded_can v c =
      (suc (depth v), s.follows.can_within (means_within step depth) (after_steps step (depth v)) v (λ w less d. can_any d.0 (depth v) w less d.1) c)

  pub unfolded_encoding : (u : Option Tag) (m : BERMode) (v : A) →
      (means_within step depth).encoding_under u m v ≡ (step (means_within step depth)).encoding_under u m v
  unfolded_encoding u m v = s.follows.encoding_within (after_steps step (depth v)) (means_within step depth) u m v
      (λ w less. encoding_any (depth v) (suc (depth w)) None m w less (omega arith))
