-- The laws of parts, one after the other, and of a SEQUENCE of them.
use Rattle.std.proofs.Common.{◌≡◌, ℕ, List, [], ◌++◌, refl, ap, ◌∙◌, sym, arith, length-append, append_assoc, subst, max}
use Rattle.yasna_base.specs.Canonical.{enclosed_encoding, enclosed_depth, Always, IsWritten}
use Rattle.yasna_base.specs.Coding.{IsCoding, ArePartsCoding}
use Rattle.yasna_base.specs.Element.{Enclosed, AnyEnclosed}
use Rattle.yasna_base.specs.Grammar.{Grammar, Members, Encoding, Depth}
use Rattle.yasna_base.specs.Sequence.{sequence_tag, Then, PartOf, NoParts, AnyPart, AnyNothing, SamePart, SameNothing, part_encoding, part_depth, part_can, nothing_encoding, nothing_depth}
use Rattle.yasna_base.proofs.Canonical.{enclosed_written, written_along}
use Rattle.yasna_base.proofs.Coding.{parts_contents, enclosed, along}
use Rattle.yasna_base.proofs.Digits.{bytes_append}
use Rattle.yasna_base.proofs.Identifier.{not_end}
use Rattle.yasna_base.proofs.Lists.{append_same}

-- no part satisfies the laws of reading
pub no_part : ArePartsCoding SameNothing NoParts AnyNothing
no_part = record {
  meaning = record {
    equal = record { reflexive = λ v. tt; symmetric = λ v w e. tt; transitive = λ u v w d e. tt };
    among = λ m n v c x. x;
    exact = λ m n k v w c x y. tt;
    deeper = λ m n k v c below x. x;
  };
  prefix_free = λ m n k b c r s x y e. x ∙ sym y;
}

-- two parts and two rests are the same where neither front begins the other
then_same : {S T P Q : List ℕ → Type 0} → ((b c r s : List ℕ) → S b → T c → b ++ r ≡ c ++ s → b ≡ c) →
    ((b c r s : List ℕ) → P b → Q c → b ++ r ≡ c ++ s → b ≡ c) → (b c r s : List ℕ) (x : Then S P b) (y : Then T Q c) → b ++ r ≡ c ++ s →
    (x.prefix ≡ y.prefix) × (x.rest ≡ y.rest)
then_same same_prefix rests b c r s x y e =
    let whole = sym (append_assoc x.prefix x.rest r) ∙ sym (ap (λ z. z ++ r) x.joined) ∙ e ∙ ap (λ z. z ++ s) y.joined ∙ append_assoc y.prefix y.rest s in
    let prefix = same_prefix x.prefix y.prefix (x.rest ++ r) (y.rest ++ s) x.here y.here whole in
    (prefix, rests x.rest y.rest r s x.more y.more (append_same y.prefix (x.rest ++ r) (y.rest ++ s) (sym (ap (λ z. z ++ (x.rest ++ r)) prefix) ∙ whole)))

-- a part and the parts after it satisfy the laws of reading
pub part : {A V : Type 0} {E : A → A → Type 0} {F : V → V → Type 0} {B : Grammar A} {C : Grammar V}
    {S Q : Members} → IsCoding E B S → ArePartsCoding F C Q → ArePartsCoding (SamePart E F) (PartOf B C) (AnyPart S Q)
part {B} {C} x y =
    let first = x.meaning in
    let others = y.meaning in
    record {
      meaning = record {
        equal = record {
          reflexive = λ v. (first.equal.reflexive v.0, others.equal.reflexive v.1);
          symmetric = λ v w e. (first.equal.symmetric v.0 w.0 e.0, others.equal.symmetric v.1 w.1 e.1);
          transitive = λ u v w d e. (first.equal.transitive u.0 v.0 w.0 d.0 e.0, others.equal.transitive u.1 v.1 w.1 d.1 e.1);
        };
        among = λ m n v c p. record {
          prefix = p.prefix;
          rest = p.rest;
          joined = p.joined;
          here = first.among m n v.0 p.prefix p.here;
          more = others.among m n v.1 p.rest p.more;
        };
        exact = λ m n k v w c p q.
            let same = then_same
            (λ b d r s i j. x.prefix_free m n k b d r s (first.among m n v.0 b i) (first.among m k w.0 d j))
            (λ b d r s i j. y.prefix_free m n k b d r s (others.among m n v.1 b i) (others.among m k w.1 d j))
            c c [] [] p q refl in
            let here = first.exact m n k v.0 w.0 q.prefix (subst (λ b. B m n v.0 b) same.0 p.here) q.here in
            (here, others.exact m n k v.1 w.1 q.rest (subst (λ b. C m n v.1 b) same.1 p.more) q.more);
        deeper = λ m n k v c below p. record {
          prefix = p.prefix;
          rest = p.rest;
          joined = p.joined;
          here = first.deeper m n k v.0 p.prefix below p.here;
          more = others.deeper m n k v.1 p.rest below p.more;
        };
      };
      prefix_free = λ m n k b c r s p q e.
          let same = then_same (x.prefix_free m n k) (y.prefix_free m n k) b c r s p q e in
          let joined = p.joined in
          let other = q.joined in
          let prefix = same.0 in
          let rest = same.1 in
          cc;
    }

-- a type whose values represent tuples satisfies the laws of reading as a SEQUENCE
pub tuple : {U A : Type 0} {E : A → A → Type 0} {C : Grammar A} {S : Members} (f : U → A) →
    ArePartsCoding E C S → IsCoding (λ v w. E (f v) (f w)) (λ m n v b. Enclosed C sequence_tag m n (f v) b) (AnyEnclosed S sequence_tag)
tuple f x = along f (enclosed sequence_tag (not_end 16 (λ e. omega arith)) (parts_contents x))

-- no part satisfies the laws of writing
pub no_part_written : IsWritten SameNothing NoParts nothing_encoding nothing_depth Always
no_part_written = record {
  has = record {
    in_bytes = λ m v can short. tt;
    holds = λ m o n v h can level short. refl;
    only = λ m n v b h x. (x, tt, omega arith);
  };
  any = λ n v b x. (tt, omega arith);
  same = λ m v w e. (refl, λ can. tt, refl);
}

-- a part and the parts after it satisfy the laws of writing
pub part_written : {A V : Type 0} {E : A → A → Type 0} {F : V → V → Type 0} {B : Grammar A} {C : Grammar V}
    {f : Encoding A} {g : Encoding V} {n : Depth A} {o : Depth V}
    {c : A → Type 0} {d : V → Type 0} → IsWritten E B f n c → IsWritten F C g o d →
    IsWritten (SamePart E F) (PartOf B C) (part_encoding f g) (part_depth n o) (part_can c d)
part_written {f} {g} {n} {o} x y = record {
  has = record {
    in_bytes = λ m v can short.
        let both = length-append (f m v.0) (g m v.1) in
        bytes_append (f m v.0) (g m v.1) (x.has.in_bytes m v.0 can.0 (omega (arith, both, short))) (y.has.in_bytes m v.1 can.1 (omega (arith, both, short)));
    holds = λ m p k v h can level short.
        let both = length-append (f m v.0) (g m v.1) in
        record {
          prefix = f m v.0;
          rest = g m v.1;
          joined = refl;
          here = x.has.holds m p k v.0 h can.0 (omega (arith, level)) (omega (arith, both, short));
          more = y.has.holds m p k v.1 h can.1 (omega (arith, level)) (omega (arith, both, short));
        };
    only = λ m k v b h p.
        let prefix = x.has.only m k v.0 p.prefix h p.here in
        let rest = y.has.only m k v.1 p.rest h p.more in
        (p.joined ∙ ap (λ z. z ++ p.rest) prefix.0 ∙ ap (λ z. f m v.0 ++ z) rest.0, (prefix.1, rest.1), omega (arith, prefix.2, rest.2));
  };
  any = λ k v b p.
      let prefix = x.any k v.0 p.prefix p.here in
      let rest = y.any k v.1 p.rest p.more in
      ((prefix.0, rest.0), omega (arith, prefix.1, rest.1));
  same = λ m v w e.
      let prefix = x.same m v.0 w.0 e.0 in
      let rest = y.same m v.1 w.1 e.1 in (
        ap (λ z. z ++ g m v.1) prefix.0 ∙ ap (λ z. f m w.0 ++ z) rest.0,
        λ can. (prefix.1 can.0, rest.1 can.1),
        ap (λ z. max z (o m v.1)) prefix.2
            ∙ ap (λ z. max (n m w.0) z) rest.2,
      );
}

-- a type whose values represent tuples satisfies the laws of writing as a SEQUENCE
pub tuple_written : {U A : Type 0} {E : A → A → Type 0} {C : Grammar A} {encoding : Encoding A} {depth : Depth A} {Can : A → Type 0} (f : U → A) →
    IsWritten E C encoding depth Can →
    IsWritten (λ v w. E (f v) (f w)) (λ m n v b. Enclosed C sequence_tag m n (f v) b) (λ m v. enclosed_encoding encoding sequence_tag m (f v))
    (λ m v. enclosed_depth depth m (f v)) (λ v. Can (f v))
tuple_written f x = written_along f (enclosed_written sequence_tag (omega arith) x)
