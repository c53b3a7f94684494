-- The meaning of a recursive type. A step gives the meaning of a value from that of the values one level further in.
use Rattle.std.proofs.Common.{◌≡◌, ◌<◌, ℕ, zero, suc, List, [], true, false, Option, None}
use Rattle.yasna_base.specs.declared.mode.BERMode.{BERMode}
use Rattle.yasna_base.specs.declared.tag.Tag.{Tag}
use Rattle.yasna_notation.specs.Notation.{Meaning, MeaningKeepsLaws}

-- the meaning that no value has, before any step
abbrev pub nothing_yet : {A : Type 0} → Meaning A
nothing_yet = record {
  tags_known = true;
  tags = [];
  retagged = false;
  under = λ u m n v b. ⊥;
  any_under = λ u m n b. ⊥;
  may_allocate = true;
  same = λ v w. Unit {0};
  encoding_under = λ u m v. [];
  depth = λ m v. 0;
  can = λ v. ⊥;
  fits = λ m n v. ⊥;
}

-- the meaning after n steps
abbrev pub after_steps : {A : Type 0} → (Meaning A → Meaning A) → ℕ → Meaning A
after_steps step zero = nothing_yet
after_steps step (suc k) = step (after_steps step k)

-- The meaning of the type: within n levels it takes as many steps as there may be levels, and for an encoding as many as the value is
-- deep. Values are equal where they are equal after any number of steps.
abbrev pub means_within : {A : Type 0} → (Meaning A → Meaning A) → (A → ℕ) → Meaning A
means_within step depth = record {
  tags_known = true;
  tags = (step nothing_yet).tags;
  retagged = false;
  under = λ u m n v b. (after_steps step (suc n)).under u m n v b;
  any_under = λ u m n b. (after_steps step (suc n)).any_under u m n b;
  may_allocate = true;
  same = λ v w. (k : ℕ) → (after_steps step k).same v w;
  encoding_under = λ u m v. (after_steps step (suc (depth v))).encoding_under u m v;
  depth = λ m v. (after_steps step (suc (depth v))).depth m v;
  can = λ v. (k : ℕ) × (after_steps step k).can v;
  fits = λ m n v. (after_steps step (suc n)).fits m n v;
}

-- A meaning that is made of another: with no level left it doesn't depend on that, else it depends on it at one level less. Whether a value
-- can be written, its encoding and its depth depend on those of values that are less deep than the value's top.
pub record FollowsDepth {A V : Type 0} (depth : A → ℕ) (top : V → ℕ) (make : Meaning A → Meaning V) : Type 1 where
  pub flat : (x y : Meaning A) (u : Option Tag) (m : BERMode) (v : V) (b : List ℕ) → (make x).under u m 0 v b → (make y).under u m 0 v b
  pub any_flat : (x y : Meaning A) (u : Option Tag) (m : BERMode) (b : List ℕ) → (make x).any_under u m 0 b → (make y).any_under u m 0 b
  pub fits_flat : (x y : Meaning A) (m : BERMode) (v : V) → (make x).fits m 0 v → (make y).fits m 0 v
  pub within : (x y : Meaning A) (u : Option Tag) (m : BERMode) (n : ℕ) → ((v : A) (b : List ℕ) → x.under None m n v b → y.under None m n v b) →
      (v : V) (b : List ℕ) → (make x).under u m (suc n) v b → (make y).under u m (suc n) v b
  pub any_within : (x y : Meaning A) (u : Option Tag) (m : BERMode) (n : ℕ) → ((v : A) (b : List ℕ) → x.under None m n v b → y.under None m n v b) →
      ((b : List ℕ) → x.any_under None m n b → y.any_under None m n b) →
      (b : List ℕ) → (make x).any_under u m (suc n) b → (make y).any_under u m (suc n) b
  pub fits_within : (x y : Meaning A) (m : BERMode) (n : ℕ) → ((v : A) → x.fits m n v → y.fits m n v) →
      (v : V) → (make x).fits m (suc n) v → (make y).fits m (suc n) v
  pub can_within : (x y : Meaning A) (v : V) → ((w : A) → depth w < top v → x.can w → y.can w) → (make x).can v → (make y).can v
  pub same_within : (x y : Meaning A) → ((v w : A) → x.same v w → y.same v w) → (v w : V) → (make x).same v w → (make y).same v w
  pub encoding_within : (x y : Meaning A) (u : Option Tag) (m : BERMode) (v : V) →
      ((w : A) → depth w < top v → x.encoding_under None m w ≡ y.encoding_under None m w) → (make x).encoding_under u m v ≡ (make y).encoding_under u m v
  pub depth_within : (x y : Meaning A) (m : BERMode) (v : V) → ((w : A) → depth w < top v → x.depth m w ≡ y.depth m w) →
      (make x).depth m v ≡ (make y).depth m v

-- the laws of a step
pub record IsStep {A : Type 0} (step : Meaning A → Meaning A) (depth : A → ℕ) : Type 1 where
  pub lawful : (x : Meaning A) → MeaningKeepsLaws x → MeaningKeepsLaws (step x)
  pub tags_known : (x : Meaning A) → (step x).tags_known ≡ true
  pub tags : (x : Meaning A) → (step x).tags ≡ (step nothing_yet).tags
  pub follows : FollowsDepth depth depth step
