-- Parts that were prepended, cut apart by their lengths.
use Rattle.std.proofs.Common.{◌≡◌, ℕ, suc, ◌+◌, ◌-◌, ◌≤◌, List, [], ◌∷◌, ◌++◌, length, take, drop, map, reverse, refl, sym, ap, ◌∙◌, subst, arith, append_assoc, length-append}
use Rattle.std.proofs.lemmas.List.{take_at, drop_at, append-nil, map-append, reverse-append}
use Rattle.std.proofs.lemmas.Result.{MatchResult-weaker}
use Rattle.std.specs.List.{concat, flat_map}
use Rattle.std.specs.Prelude.{Result}
use Rattle.yasna_base.specs.declared.error.ASN1Error.{ASN1Error}
use Rattle.yasna_base.specs.declared.mode.BERMode.{BERMode}
use Rattle.yasna_base.specs.Grammar.{Encoding}
use Rattle.yasna_base.specs.Order.{octets_cmp, in_order}
use Rattle.yasna_base.specs.SetWriting.{in_encoding_order}
use Rattle.yasna_base.proofs.Order.{in_order_map}
use Rattle.yasna_writer.specs.Prepend.{Prepended, with_prefix, PrependsAll, Prepends}
use Rattle.yasna_writer.specs.PartOrder.{BeginsWithParts, AreLengths, ArePartsInOrder, OrdersParts, part_lens}
use Rattle.yasna_writer.proofs.KnownLengths.{in_order_length}
use Rattle.yasna_writer.proofs.Sets.{flat_concat}

last_same : (xs ys : List ℕ) (x y : ℕ) → xs ++ x ∷ [] ≡ ys ++ y ∷ [] → (xs ≡ ys) × (x ≡ y)
last_same [] [] x y e = (refl, cc)
last_same [] (b ∷ ys) x y e = absurd (omega (arith, ap length e, length-append ys (y ∷ [])))
last_same (a ∷ xs) [] x y e = absurd (omega (arith, ap length e, length-append xs (x ∷ [])))
last_same (a ∷ xs) (b ∷ ys) x y e =
    let tails : xs ++ x ∷ [] ≡ ys ++ y ∷ [] = cc in
    let r = last_same xs ys x y tails in
    let s = r.0 in
    (cc, r.1)

-- the last length is that of the first part, and the others are those of the parts after it
pub record CutsOne (before : List ℕ) (len : ℕ) (bytes : List ℕ) (parts : List (List ℕ)) (rest : List ℕ) : Type 0 where
  pub part : List ℕ
  pub after : List (List ℕ)
  pub all : parts ≡ part ∷ after
  pub is : part ≡ take len bytes
  pub within : len ≤ length bytes
  pub left : BeginsWithParts before (drop len bytes) after rest

pub cuts_one : (before : List ℕ) (len : ℕ) (lens bytes : List ℕ) (parts : List (List ℕ)) (rest : List ℕ) → lens ≡ before ++ len ∷ [] →
    BeginsWithParts lens bytes parts rest → CutsOne before len bytes parts rest
cuts_one before len lens bytes [] rest e h = absurd (omega (arith, ap length (sym e ∙ h.counted), length-append before (len ∷ [])))
cuts_one before len lens bytes (p ∷ ps) rest e h =
    let r = last_same before (reverse (map length ps)) len (length p) (sym e ∙ h.counted ∙ reverse-append (length p ∷ []) (map length ps)) in
    let joined : bytes ≡ p ++ (concat ps ++ rest) = h.joined ∙ append_assoc p (concat ps) rest in
    record {
      part = p;
      after = ps;
      all = refl;
      is = sym (take_at p (concat ps ++ rest) len (sym r.1)) ∙ ap (take len) (sym joined);
      within = omega (arith, ap length joined, length-append p (concat ps ++ rest), r.1);
      left = record { joined = ap (drop len) joined ∙ drop_at p (concat ps ++ rest) len (sym r.1); counted = r.0 };
    }

-- the parts are those that were cut, and those that are left
abbrev pub CutSoFar : List ℕ → List ℕ → List (List ℕ) → List ℕ → List ℕ → Type 0
CutSoFar lens bytes done others left =
    (parts : List (List ℕ)) (rest : List ℕ) → BeginsWithParts lens bytes parts rest → (after : List (List ℕ)) × (parts ≡ done ++ after) × BeginsWithParts others left after rest

-- one more was cut
pub cut_more : (lens bytes : List ℕ) (done : List (List ℕ)) (others left before : List ℕ) (len : ℕ) → others ≡ before ++ len ∷ [] →
    CutSoFar lens bytes done others left → CutSoFar lens bytes (done ++ take len left ∷ []) before (drop len left)
cut_more lens bytes done others left before len e so parts rest h =
    let s = so parts rest h in
    let r = cuts_one before len others left s.0 rest e s.2 in (
      r.after,
      s.1 ∙ ap (λ qs. done ++ qs) r.all ∙ ap (λ q. done ++ q ∷ r.after) r.is ∙ sym (append_assoc done (take len left ∷ []) r.after),
      r.left,
    )

-- no length passes the bytes that are left
pub within_left : (lens bytes : List ℕ) (done : List (List ℕ)) (others left before : List ℕ) (len : ℕ) → others ≡ before ++ len ∷ [] →
    CutSoFar lens bytes done others left → AreLengths lens bytes → len ≤ length left
within_left lens bytes done others left before len e so some =
    let s = so some.0 some.1 some.2 in
    (cuts_one before len others left s.0 some.1 e s.2).within

-- all were cut
pub all_cut : (lens bytes : List ℕ) (done : List (List ℕ)) (others left : List ℕ) → others ≡ [] → CutSoFar lens bytes done others left →
    (parts : List (List ℕ)) (rest : List ℕ) → BeginsWithParts lens bytes parts rest → done ≡ parts
all_cut lens bytes done others left none so parts rest h =
    let s = so parts rest h in
    let e : s.0 ≡ [] = no_lens s.0 (sym none ∙ s.2.counted) in
    sym (s.1 ∙ ap (λ qs. done ++ qs) e ∙ append-nil done)
  where
    no_lens : (qs : List (List ℕ)) → [] ≡ reverse (map length qs) → qs ≡ []
    no_lens [] f = refl
    no_lens (q ∷ qs) f =
        absurd (omega (arith, ap length (f ∙ reverse-append (length q ∷ []) (map length qs)), length-append (reverse (map length qs)) (length q ∷ [])))

-- the order changes no length
pub ordered_length : (parts : List (List ℕ)) → length (concat (in_order octets_cmp parts)) ≡ length (concat parts)
ordered_length parts =
    ap length (sym (flat_concat_all (in_order octets_cmp parts))) ∙ in_order_length (λ (b : List ℕ). b) octets_cmp parts ∙ ap length (flat_concat_all parts)
  where
    flat_concat_all : (bs : List (List ℕ)) → flat_map (λ (b : List ℕ). b) bs ≡ concat bs
    flat_concat_all [] = refl
    flat_concat_all (b ∷ bs) = ap (λ z. b ++ z) (flat_concat_all bs)

-- parts in order are prepended to the rest, once the parts as they were are removed
pub ordered_prepended :
    (lens ordered : List ℕ) (old mid new : Prepended) (r : Result (Unit {0}) ASN1Error)
    → ArePartsInOrder lens old.bytes ordered
    → mid ≡ record old { bytes = drop (length ordered) old.bytes } → PrependsAll ordered mid new r → OrdersParts lens old new r
ordered_prepended lens ordered old mid new r is e h =
    MatchResult-weaker r h
    (λ _ f parts rest begins.
    let o = is parts rest begins in
    let count : length (concat parts) ≡ length ordered = sym (ap length o ∙ ordered_length parts) in
    let left : drop (length ordered) old.bytes ≡ rest = ap (drop (length ordered)) begins.joined ∙ drop_at (concat parts) rest (length ordered) count in
    f ∙ ap (with_prefix ordered) e ∙ ap (λ z. record old { bytes = ordered ++ z }) left ∙ ap (λ z. record old { bytes = z ++ rest }) o) (λ k i. i.0)

-- bytes that were ordered are there
pub ordered_within :
    (lens bytes ordered : List ℕ) → AreLengths lens bytes
    → ArePartsInOrder lens bytes ordered → length ordered ≤ length bytes
ordered_within lens bytes ordered some is =
    omega (
      arith,
      ap length some.2.joined,
      length-append (concat some.0) some.1,
      ap length (is some.0 some.1 some.2),
      ordered_length some.0,
    )

module _ {A : Type 0} (encoding : Encoding A) where
  -- one more length was noted, that of the last of the rest
  pub part_noted :
      (rest others : List A) (v : A) (old new : Prepended) (lens all : List ℕ) → rest ≡ others ++ v ∷ []
      → new ≡ with_prefix (encoding old.mode v) old → lens ++ part_lens encoding old.mode rest ≡ all
      → (lens ++ (length new.bytes - length old.bytes) ∷ []) ++ part_lens encoding new.mode others ≡ all
  part_noted rest others v old new lens all s e done =
      let f = encoding old.mode in
      let count : length new.bytes - length old.bytes ≡ length (f v) =
      omega (arith, ap (λ (p : Prepended). length p.bytes) e, length-append (f v) old.bytes) in
      let whole : part_lens encoding old.mode rest ≡ length (f v) ∷ part_lens encoding old.mode others =
      ap (part_lens encoding old.mode) s ∙ ap (λ z. reverse (map length z)) (map-append f others (v ∷ []))
      ∙ ap reverse (map-append length (map f others) (f v ∷ [])) ∙ reverse-append (map length (map f others)) (length (f v) ∷ []) in
      ap (λ (p : Prepended). (lens ++ (length new.bytes - length old.bytes) ∷ []) ++ part_lens encoding p.mode others) e
      ∙ append_assoc lens ((length new.bytes - length old.bytes) ∷ []) (part_lens encoding old.mode others)
      ∙ ap (λ n. lens ++ n ∷ part_lens encoding old.mode others) count ∙ ap (λ z. lens ++ z) (sym whole) ∙ done

  -- encodings that were prepended are parts
  pub encodings_begin : (vs : List A) (old mid : Prepended) (lens : List ℕ) → mid ≡ with_prefix (flat_map (encoding old.mode) vs) old →
      lens ≡ part_lens encoding old.mode vs → BeginsWithParts lens mid.bytes (map (encoding old.mode) vs) old.bytes
  encodings_begin vs old mid lens e f = record {
    joined = ap (λ (p : Prepended). p.bytes) e ∙ ap (λ z. z ++ old.bytes) (flat_concat (encoding old.mode) vs);
    counted = f;
  }

  -- values were prepended in the order of their encodings
  pub values_ordered :
      (vs : List A) (old mid new : Prepended) (lens : List ℕ) (r : Result (Unit {0}) ASN1Error) → mid ≡ with_prefix (flat_map (encoding old.mode) vs) old
      → lens ≡ part_lens encoding old.mode vs → OrdersParts lens mid new r
      → Prepends (flat_map (encoding old.mode) (in_encoding_order encoding old.mode vs)) old new r
  values_ordered vs old mid new lens r e f h =
      let own = encoding old.mode in
      let joined : concat (in_order octets_cmp (map own vs)) ≡ flat_map own (in_encoding_order encoding old.mode vs) =
      ap concat (sym (in_order_map own octets_cmp vs)) ∙ sym (flat_concat own (in_encoding_order encoding old.mode vs)) in
      MatchResult-weaker r h
      (λ _ g.
      g (map own vs) old.bytes (encodings_begin vs old mid lens e f) ∙ ap (λ (p : Prepended). record p { bytes = concat (in_order octets_cmp (map own vs)) ++ old.bytes }) e
      ∙ ap (λ z. record old { bytes = z ++ old.bytes }) joined) (λ k i. i)
