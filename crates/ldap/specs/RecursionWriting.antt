-- The meaning of a recursive type satisfies the laws of writing, where its step does.
use Rattle.std.proofs.Common.{◌≡◌, ◌<◌, ◌≤◌, ◌+◌, ◌^◌, ℕ, zero, suc, length, None, refl, sym, subst, ◌∙◌, arith}
use Rattle.yasna_base.specs.declared.mode.BERMode.{BERMode}
use Rattle.yasna_base.specs.declared.mode.BERMode.TheVariants.{Ber, Der}
use Rattle.yasna_base.specs.Digits.{IsBytes}
use Rattle.yasna_notation.specs.Laws.{never_retagged}
use Rattle.yasna_notation.specs.Notation.{Meaning, IsWrittenMeaning}
use Rattle.ldap.specs.Recursion.{nothing_yet, after_steps, means_within, IsStep}
use Rattle.ldap.specs.RecursionLaws.{under_any, can_any, encoding_any}

nothing_written : {A : Type 0} → IsWrittenMeaning (nothing_yet {A = A})
nothing_written = record {
  own = record {
    has = record {
      in_bytes = λ m v can short. absurd can;
      holds = λ m o n v h can level short. absurd can;
      only = λ m n v b h p. absurd p;
    };
    any = λ n v b p. absurd p;
    same = λ m v w e. (refl, (λ c. c), refl);
  };
  others = λ e. never_retagged e;
}

module _ {A : Type 0} {step : Meaning A → Meaning A} {depth : A → ℕ} (s : IsStep step depth)
    (writes : (x : Meaning A) → IsWrittenMeaning x → IsWrittenMeaning (step x)) where
  written_after : (k : ℕ) → IsWrittenMeaning (after_steps step k)
  written_after zero = nothing_written
  written_after (suc k) = writes (after_steps step k) (written_after k)

  -- more steps than a value is deep don't change the depth of its encoding
  depth_any : (j k : ℕ) (m : BERMode) (v : A) → depth v < j → depth v < k → (after_steps step j).depth m v ≡ (after_steps step k).depth m v
  depth_any zero k m v lt le = absurd (omega (arith, lt))
  depth_any (suc j) zero m v lt le = absurd (omega (arith, le))
  depth_any (suc j) (suc k) m v lt le =
      s.follows.depth_within (after_steps step j) (after_steps step k) m v
      (λ w less. depth_any j k m w (omega (arith, lt, less)) (omega (arith, le, less)))

  pub means_written : IsWrittenMeaning (means_within step depth)
  means_written = record {
    own = record {
      has = record {
        in_bytes = λ m v can short.
            let top = suc (can.0 + depth v) in
            let e = encoding_any s (suc (depth v)) top None m v (omega arith) (omega arith) in
            subst (λ b. IsBytes b) (sym e) ((written_after top).own.has.in_bytes m v (can_any s can.0 top v (omega arith) can.1)
            (subst (λ b. length b < 2 ^ 64) e short));
        holds = λ m o n v h can level short.
            let top = suc (can.0 + n + depth v) in
            let e = encoding_any s (suc (depth v)) top None m v (omega arith) (omega arith) in
            let k = depth_any (suc (depth v)) top m v (omega arith) (omega arith) in
            under_any s n top (suc n) None o v ((after_steps step (suc (depth v))).encoding_under None m v) (omega arith)
            (subst (λ b. (after_steps step top).under None o n v b) (sym e)
            ((written_after top).own.has.holds m o n v h (can_any s can.0 top v (omega arith) can.1) (subst (λ i. i ≤ n) k level)
            (subst (λ b. length b < 2 ^ 64) e short)));
        only = λ m n v b h p.
            let top = suc (n + depth v) in
            let e = encoding_any s (suc (depth v)) top None m v (omega arith) (omega arith) in
            let k = depth_any (suc (depth v)) top m v (omega arith) (omega arith) in
            let y = (written_after top).own.has.only m n v b h (under_any s n (suc n) top None m v b (omega arith) p) in
            (y.0 ∙ sym e, (top, y.1), subst (λ i. i ≤ n) (sym k) y.2);
      };
      any = λ n v b p.
          let top = suc (n + depth v) in
          let k = depth_any (suc (depth v)) top Der v (omega arith) (omega arith) in
          let y = (written_after top).own.any n v b (under_any s n (suc n) top None Ber v b (omega arith) p) in
          ((top, y.0), subst (λ i. i ≤ n) (sym k) y.1);
      same = λ m v w e.
          let top = suc (depth v + depth w) in
          let y = (written_after top).own.same m v w (e top) in (
            encoding_any s (suc (depth v)) top None m v (omega arith) (omega arith) ∙ y.0
                ∙ encoding_any s top (suc (depth w)) None m w (omega arith) (omega arith),
            (λ c. (c.0, ((written_after c.0).own.same m v w (e c.0)).1 c.1)),
            depth_any (suc (depth v)) top m v (omega arith) (omega arith) ∙ y.2
                ∙ depth_any top (suc (depth w)) m w (omega arith) (omega arith),
          );
    };
    others = λ e. never_retagged e;
  }
