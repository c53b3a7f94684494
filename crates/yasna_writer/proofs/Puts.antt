-- Octets that are written before others.
use Rattle.std.proofs.Common.{◌≡◌, ℕ, ◌≤◌, List, ◌++◌, length, take, drop, sym, subst, ap, ap₂, ◌∙◌, arith, append_assoc, append-nil, length-append, length-take, length-drop}
use Rattle.std.proofs.lemmas.List.{take-append-le, take-take, drop_at, drop_all}
use Rattle.yasna_writer.specs.Put.{PutBefore}

-- where a place is within the bytes, what is before it is as long as it says
prefix_length : (n : ℕ) (b : List ℕ) → n ≤ length b → length (take n b) ≡ n
prefix_length n b h = omega (arith, length-take n b)

-- what is before the first octet stays
pub put_prefix :
    (octets : List ℕ) (end : ℕ) (old new : List ℕ) (start k : ℕ) → PutBefore octets end old new start → end ≤ length old → k ≤ start
    → take k new ≡ take k old
put_prefix octets end old new start k p within le =
    let there : length (take start old) ≡ start = prefix_length start old (omega (arith, p.place)) in
    ap (take k) p.bytes ∙ take-append-le k (take start old) (octets ++ drop end old) (omega (arith, there)) ∙ take-take k start old le

-- the octets, and what was after them, are from the first octet on
pub put_back :
    (octets : List ℕ) (end : ℕ) (old new : List ℕ) (start : ℕ) → PutBefore octets end old new start → end ≤ length old
    → drop start new ≡ octets ++ drop end old
put_back octets end old new start p within =
    let there : length (take start old) ≡ start = prefix_length start old (omega (arith, p.place)) in
    ap (drop start) p.bytes ∙ drop_at (take start old) (octets ++ drop end old) start there

-- no byte is added
pub put_length : (octets : List ℕ) (end : ℕ) (old new : List ℕ) (start : ℕ) → PutBefore octets end old new start → end ≤ length old → length new ≡ length old
put_length octets end old new start p within =
    omega (
      arith,
      p.place,
      ap length p.bytes,
      length-append (take start old) (octets ++ drop end old),
      length-append octets (drop end old),
      length-take start old,
      length-drop end old,
    )

-- octets before others that were put
pub put_both :
    (a b : List ℕ) (end : ℕ) (old one new : List ℕ) (middle start : ℕ) → PutBefore b end old one middle → PutBefore a middle one new start → end ≤ length old
    → PutBefore (a ++ b) end old new start
put_both a b end old one new middle start p q within =
    let le : middle ≤ length old = omega (arith, p.place) in
    record {
      place = omega (arith, p.place, q.place, length-append a b);
      bytes = q.bytes
          ∙ ap₂ (λ x y. x ++ (a ++ y)) (put_prefix b end old one middle start p within (omega (arith, q.place))) (put_back b end old one middle p within)
          ∙ ap (λ x. take start old ++ x) (sym (append_assoc a b (drop end old)));
    }

-- octets before others that were put, by what both are
pub put_then :
    (a b c : List ℕ) (end : ℕ) (old one new : List ℕ) (middle start : ℕ) → PutBefore b end old one middle → PutBefore a middle one new start → end ≤ length old
    → a ++ b ≡ c → PutBefore c end old new start
put_then a b c end old one new middle start p q within e =
    subst (λ x. PutBefore x end old new start) e (put_both a b end old one new middle start p q within)

-- what is from the first octet on, where they end all
pub put_last : (octets : List ℕ) (end : ℕ) (old new : List ℕ) (start : ℕ) → PutBefore octets end old new start → length old ≡ end → drop start new ≡ octets
put_last octets end old new start p e =
    put_back octets end old new start p (omega arith) ∙ ap (λ x. octets ++ x) (drop_all end old (omega arith)) ∙ append-nil octets
