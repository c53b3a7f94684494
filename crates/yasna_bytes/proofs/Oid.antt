-- The contents of OBJECT IDENTIFIER, read from the left.
use Rattle.std.proofs.Common.{inl, inr, ◌+◌, ◌*◌, ◌≡◌, ℕ, ◌^◌, ◌<◌, List, [], ◌∷◌, ◌++◌, length, refl, ap, ◌∙◌, sym, append_assoc, append-nil, length-append, arith}
use Rattle.std.proofs.lemmas.Bool.{cases_lt}
use Rattle.std.specs.List.{flat_map, AllByRecursion}
use Rattle.yasna_base.specs.Digits.{base128}
use Rattle.yasna_base.proofs.Digits.{base128_exact, base128_some}
use Rattle.yasna_base.proofs.Oid.{not_empty}
use Rattle.yasna_base.specs.declared.mode.BERMode.{BERMode}
use Rattle.yasna_base.specs.Oid.{AreFirstTwo, AreComponents}
use Rattle.yasna_bytes.specs.Oid.{AreNumbers}

-- numbers were read of s and appended to old, and rest is left
pub record AreReadSo (s old new rest : List ℕ) : Type 0 where
  pub numbers : List ℕ
  pub small : AllByRecursion (λ k. k < 2 ^ 64) numbers
  pub joined : s ≡ flat_map base128 numbers ++ rest
  pub appended : new ≡ old ++ numbers

pub reads_start : (s old : List ℕ) → AreReadSo s old old s
reads_start s old = record { numbers = []; small = tt; joined = refl; appended = sym (append-nil old) }

small_more : (ks : List ℕ) (k : ℕ) → AllByRecursion (λ n. n < 2 ^ 64) ks → k < 2 ^ 64 → AllByRecursion (λ n. n < 2 ^ 64) (ks ++ (k ∷ []))
small_more [] k a h = (h, tt)
small_more (x ∷ ks) k a h = (a.0, small_more ks k a.1 h)

numbers_more : (ks : List ℕ) (k : ℕ) (r : List ℕ) → flat_map base128 ks ++ (base128 k ++ r) ≡ flat_map base128 (ks ++ (k ∷ [])) ++ r
numbers_more [] k r = simp append_assoc
numbers_more (x ∷ ks) k r = append_assoc (base128 x) (flat_map base128 ks) (base128 k ++ r) ∙ ap (λ z. base128 x ++ z) (numbers_more ks k r)
    ∙ sym (append_assoc (base128 x) (flat_map base128 (ks ++ (k ∷ []))) r)

-- one more was read
pub reads_more : (s old new newer rest more : List ℕ) (k : ℕ) → AreReadSo s old new rest → rest ≡ base128 k ++ more → k < 2 ^ 64 →
    newer ≡ new ++ (k ∷ []) → AreReadSo s old newer more
reads_more s old new newer rest more k i e h f = record {
  numbers = i.numbers ++ (k ∷ []);
  small = small_more i.numbers k i.small h;
  joined = i.joined ∙ ap (λ z. flat_map base128 i.numbers ++ z) e ∙ numbers_more i.numbers k more;
  appended = f ∙ ap (λ z. z ++ (k ∷ [])) i.appended ∙ simp append_assoc;
}

-- all were read
pub reads_all : (s old new rest : List ℕ) → AreReadSo s old new rest → rest ≡ [] → (ks : List ℕ) × AreNumbers ks s × (new ≡ old ++ ks)
reads_all s old new rest i e =
    (i.numbers, record { small = i.small; joined = i.joined ∙ ap (λ z. flat_map base128 i.numbers ++ z) e ∙ append-nil _ }, i.appended)

-- of numbers that begin others the rest are numbers
numbers_after : (ks ls r : List ℕ) → flat_map base128 ks ++ r ≡ flat_map base128 ls → AllByRecursion (λ n. n < 2 ^ 64) ls →
    (ms : List ℕ) × AreNumbers ms r
numbers_after [] ls r e a = (ls, record { small = a; joined = e })
numbers_after (k ∷ ks) [] r e a = absurd (not_empty k (flat_map base128 ks ++ r) (sym (append_assoc (base128 k) (flat_map base128 ks) r) ∙ e))
numbers_after (k ∷ ks) (l ∷ ls) r e a =
    let w = base128_exact k l (flat_map base128 ks ++ r) (flat_map base128 ls)
    (sym (append_assoc (base128 k) (flat_map base128 ks) r) ∙ e) in
    numbers_after ks ls r w.1 a.1

no_number_ends : (ms r : List ℕ) → AreNumbers ms r → 0 < length r → ((n : ℕ) (y : List ℕ) → n < 2 ^ 64 → r ≡ base128 n ++ y → ⊥) → ⊥
no_number_ends [] r x some h = omega (arith, some, ap length x.joined)
no_number_ends (m ∷ ms) r x some h = h m (flat_map base128 ms) x.small.0 x.joined

-- no number is where something is left
pub reads_none : (s old new rest : List ℕ) → AreReadSo s old new rest → 0 < length rest → ((n : ℕ) (y : List ℕ) → n < 2 ^ 64 → rest ≡ base128 n ++ y → ⊥) →
    (ks : List ℕ) → AreNumbers ks s → ⊥
reads_none s old new rest i some h ks x = let w = numbers_after i.numbers ks rest (sym i.joined ∙ x.joined) x.small in no_number_ends w.0 rest w.1 some h

-- what follows a number is shorter than with it
pub shorter : (k : ℕ) (rest more : List ℕ) → rest ≡ base128 k ++ more → length more < length rest
shorter k rest more e = omega (arith, base128_some k, ap length e, length-append (base128 k) more)

first_small : (x y : ℕ) → AreFirstTwo x y → 40 * x + y < 2 ^ 64
first_small x y p = elim (cases_lt x 2) [
  | inl h ↦ let a = p.arc (omega arith) in omega arith
  | inr h ↦ let a = p.in_range (omega (arith, p.root)) in omega (arith, p.root)
]

-- contents aren't empty
pub never_empty : (m : BERMode) (cs : List ℕ) → AreComponents m cs [] → ⊥
never_empty m [] x = x.encodable
never_empty m (c ∷ []) x = x.encodable
never_empty m (c ∷ d ∷ cs) x = not_empty (40 * c + d) (flat_map base128 cs) (sym x.contents)

-- contents begin with a number
pub no_first : (m : BERMode) (c : List ℕ) → ((n : ℕ) (r : List ℕ) → n < 2 ^ 64 → c ≡ base128 n ++ r → ⊥) → (cs : List ℕ) → AreComponents m cs c → ⊥
no_first m c h [] x = x.encodable
no_first m c h (a ∷ []) x = x.encodable
no_first m c h (a ∷ b ∷ cs) x = h (40 * a + b) (flat_map base128 cs) (first_small a b x.encodable.0) x.contents

-- contents end with numbers
pub no_further : (m : BERMode) (c : List ℕ) (n : ℕ) (rest : List ℕ) → c ≡ base128 n ++ rest → ((ks : List ℕ) → AreNumbers ks rest → ⊥) →
    (cs : List ℕ) → AreComponents m cs c → ⊥
no_further m c n rest e h [] x = x.encodable
no_further m c n rest e h (a ∷ []) x = x.encodable
no_further m c n rest e h (a ∷ b ∷ cs) x =
    h cs (record { small = x.encodable.1; joined = (base128_exact n (40 * a + b) rest (flat_map base128 cs) (sym e ∙ x.contents)).1 })
