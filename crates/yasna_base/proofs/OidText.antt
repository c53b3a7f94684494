-- The texts of object identifiers: what each part says, and that what is printed is read again.
use Rattle.std.proofs.Common.{◌≡◌, ◌≢◌, ◌⊎◌, inl, inr, ℕ, ◌^◌, ◌<◌, List, [], ◌∷◌, ◌++◌, length, get_or, refl, ap, ap₂, false, ◌∙◌, sym, subst}
use Rattle.std.proofs.Common.{append_assoc, append-nil, arith, All, Result, Ok, Err, MatchResult, Bool, true}
use Rattle.std.specs.Fmt.{decimal}
use Rattle.std.specs.List.{AllByRecursion, AllZip, slice_split, position_or_len, before_first, after_first}
use Rattle.std.specs.Str.Parse.{IsNumeral, digits_value, without_leading_plus}
use Rattle.std.proofs.lemmas.Bool.{ne_eqb}
use Rattle.std.proofs.lemmas.Fmt.{decimal_is_IsNumeral}
use Rattle.std.proofs.lemmas.List.Elements.{All-from_get_or}
use Rattle.std.proofs.lemmas.List.Sums.{fails_before_first}
use Rattle.std.proofs.lemmas.List.Splits.{slice_split_first, slice_split_none, slice_split_at}
use Rattle.std.proofs.lemmas.Str.Parse.{digit_at, without_leading_plus_none}
use Rattle.yasna_base.specs.OidText.{oid_text, BeginsWithComponent, IsComponent, IsOidText, is_dot, ran_out_of_memory}
use Rattle.yasna_base.specs.declared.models.oid_text.ParseOidError.{ParseOidError}

-- the components cs were read of a text, and rest is left of it
pub record IsRest (text cs rest : List ℕ) : Type 0 where
  pub on : (ds : List ℕ) → IsOidText rest ds → IsOidText text (cs ++ ds)
  pub back : (ds : List ℕ) → IsOidText text ds → (es : List ℕ) × (ds ≡ cs ++ es) × IsOidText rest es

pub rest_start : (text : List ℕ) → IsRest text [] text
rest_start text = record { on = λ ds x. x; back = λ ds x. (ds, refl, x) }

-- what parts say before others
head_is : (part : List ℕ) (parts : List (List ℕ)) (n : ℕ) (ds : List ℕ) → IsComponent part n → AllZip IsComponent (part ∷ parts) ds →
    (fs : List ℕ) × (ds ≡ n ∷ fs) × AllZip IsComponent parts fs
head_is part parts n [] c x = absurd x
head_is part parts n (d ∷ ds) c x = (ds, ap (λ k. k ∷ ds) (sym x.0.value ∙ c.value), x.1)

none_of : (part : List ℕ) (parts : List (List ℕ)) (ds : List ℕ) → ((n : ℕ) → IsComponent part n → ⊥) → AllZip IsComponent (part ∷ parts) ds → ⊥
none_of part parts [] h x = x
none_of part parts (d ∷ ds) h x = h d x.0

-- a text without dots is one part
one_part : (s : List ℕ) → position_or_len is_dot s ≡ length s → slice_split is_dot s ≡ s ∷ []
one_part s h = slice_split_none is_dot s (All-from_get_or (λ c. is_dot c ≡ false) s 0 (λ k l. fails_before_first is_dot s k 0 (omega (arith, h, l))))

-- a part was read up to a dot
pub rest_more : (text cs rest part more : List ℕ) (n : ℕ) → IsRest text cs rest → position_or_len is_dot rest < length rest →
    part ≡ before_first is_dot rest → more ≡ after_first is_dot rest → IsComponent part n → IsRest text (cs ++ (n ∷ [])) more
rest_more text cs rest part more n i h e f c =
    let split : slice_split is_dot rest ≡ part ∷ slice_split is_dot more =
    slice_split_first is_dot rest 0 h ∙ ap₂ (λ p q. p ∷ slice_split is_dot q) (sym e) (sym f) in
    record {
      on = λ ds x. subst (λ z. IsOidText text z) (simp append_assoc) (i.on (n ∷ ds) (subst (λ parts. AllZip IsComponent parts (n ∷ ds)) (sym split) (c, x)));
      back = λ ds x.
          let w = i.back ds x in
          let v = head_is part (slice_split is_dot more) n w.0 c (subst (λ parts. AllZip IsComponent parts w.0) split w.2) in
          (v.0, w.1 ∙ ap (λ es. cs ++ es) v.1 ∙ simp append_assoc, v.2);
    }

-- the last part was read
pub rest_last : (text cs rest : List ℕ) (n : ℕ) → IsRest text cs rest → position_or_len is_dot rest ≡ length rest → IsComponent rest n →
    IsOidText text (cs ++ (n ∷ []))
rest_last text cs rest n i h c = i.on (n ∷ []) (subst (λ parts. AllZip IsComponent parts (n ∷ [])) (sym (one_part rest h)) (c, tt))

-- a part of the rest is no number
pub no_part : (text cs rest part : List ℕ) (parts : List (List ℕ)) → IsRest text cs rest → slice_split is_dot rest ≡ part ∷ parts →
    ((n : ℕ) → IsComponent part n → ⊥) → (ds : List ℕ) → IsOidText text ds → ⊥
no_part text cs rest part parts i e h ds x = let w = i.back ds x in none_of part parts w.0 h (subst (λ ps. AllZip IsComponent ps w.0) e w.2)

-- a part between dots
pub no_first : (text cs rest part : List ℕ) → IsRest text cs rest → position_or_len is_dot rest < length rest → part ≡ before_first is_dot rest →
    ((n : ℕ) → IsComponent part n → ⊥) → (ds : List ℕ) → IsOidText text ds → ⊥
no_first text cs rest part i h e =
    no_part text cs rest part (slice_split is_dot (after_first is_dot rest)) i
    (slice_split_first is_dot rest 0 h ∙ ap (λ p. p ∷ slice_split is_dot (after_first is_dot rest)) (sym e))

-- the last part
pub no_last : (text cs rest : List ℕ) → IsRest text cs rest → position_or_len is_dot rest ≡ length rest → ((n : ℕ) → IsComponent rest n → ⊥) →
    (ds : List ℕ) → IsOidText text ds → ⊥
no_last text cs rest i h = no_part text cs rest rest [] i (one_part rest h)

-- where parts were read of a text, or it is still whole, and the part up to the next dot is a component, its first part is one
pub begins_more : (text rest part : List ℕ) (n : ℕ) → (rest ≡ text) ⊎ BeginsWithComponent text → position_or_len is_dot rest < length rest →
    part ≡ before_first is_dot rest → IsComponent part n → BeginsWithComponent text
begins_more text rest part n (inl w) h e c =
    subst BeginsWithComponent w (
      n,
      part,
      slice_split is_dot (after_first is_dot rest),
      slice_split_first is_dot rest 0 h ∙ ap (λ p. p ∷ slice_split is_dot (after_first is_dot rest)) (sym e),
      c,
    )
begins_more text rest part n (inr b) h e c = b

-- as `begins_more`, of the last part
pub begins_last : (text rest : List ℕ) (n : ℕ) → (rest ≡ text) ⊎ BeginsWithComponent text → position_or_len is_dot rest ≡ length rest →
    IsComponent rest n → BeginsWithComponent text
begins_last text rest n (inl w) h c = subst BeginsWithComponent w (n, rest, [], one_part rest h, c)
begins_last text rest n (inr b) h c = b

-- the digits of a number hold no dot
no_dot : (n : ℕ) → n < 2 ^ 64 → All (λ c. is_dot c ≡ false) (decimal n)
no_dot n h =
    let d = decimal_is_IsNumeral n h in
    All-from_get_or (λ c. is_dot c ≡ false) (decimal n) 0 (λ i l.
    let r = digit_at (decimal n) i d.0.1 l in
    let e : get_or (decimal n) i 0 ≢ 46 = λ f. omega (arith, r, f) in
    ne_eqb (get_or (decimal n) i 0) 46 e)

-- a number in decimal is a component
decimal_component : (n : ℕ) → n < 2 ^ 64 → IsComponent (decimal n) n
decimal_component n h =
    let d = decimal_is_IsNumeral n h in
    let r = digit_at (decimal n) 0 d.0.1 d.0.0 in
    let e : without_leading_plus (decimal n) ≡ decimal n = without_leading_plus_none (decimal n) (λ f. omega (arith, r, f)) in
    record {
      digits = subst (λ s. IsNumeral 10 s) (sym e) d.0;
      value = ap (digits_value 10) e ∙ d.1;
      in_range = h;
    }

-- the text of components is read as them
pub oid_text_is : (c : ℕ) (cs : List ℕ) → AllByRecursion (λ n. n < 2 ^ 64) (c ∷ cs) → IsOidText (oid_text (c ∷ cs)) (c ∷ cs)
oid_text_is c [] h =
    subst (λ parts. AllZip IsComponent parts (c ∷ []))
    (sym (ap (slice_split is_dot) (append-nil (decimal c)) ∙ slice_split_none is_dot (decimal c) (no_dot c h.0)))
    (decimal_component c h.0, tt)
oid_text_is c (d ∷ ds) h =
    subst (λ parts. AllZip IsComponent parts (c ∷ d ∷ ds)) (sym (slice_split_at is_dot (decimal c) 46 (oid_text (d ∷ ds)) (no_dot c h.0) refl))
    (decimal_component c h.0, oid_text_is d ds h.1)

-- parts say one list of components
parts_same : (parts : List (List ℕ)) (cs ds : List ℕ) → AllZip IsComponent parts cs → AllZip IsComponent parts ds → cs ≡ ds
parts_same [] [] [] x y = refl
parts_same [] [] (d ∷ ds) x y = absurd y
parts_same [] (c ∷ cs) ds x y = absurd x
parts_same (p ∷ ps) [] ds x y = absurd x
parts_same (p ∷ ps) (c ∷ cs) [] x y = absurd y
parts_same (p ∷ ps) (c ∷ cs) (d ∷ ds) x y = ap₂ (λ k ks. k ∷ ks) (sym x.0.value ∙ y.0.value) (parts_same ps cs ds x.1 y.1)

-- a text is that of one object identifier
pub oid_text_exact : (text cs ds : List ℕ) → IsOidText text cs → IsOidText text ds → cs ≡ ds
oid_text_exact text cs ds = parts_same (slice_split is_dot text) cs ds

not_false : (b : Bool) → (b ≡ false → ⊥) → b ≡ true
not_false true h = refl
not_false false h = absurd (h refl)

spelled : (c : List ℕ) → 0 < length c → AllByRecursion (λ n. n < 2 ^ 64) c → IsOidText (oid_text c) c
spelled [] l h = absurd (omega arith)
spelled (c ∷ cs) l h = oid_text_is c cs h

-- the text of components is read as them or not when out of memory
pub read_again : (cs text : List ℕ) (r : Result (List ℕ) ParseOidError) → 0 < length cs → AllByRecursion (λ n. n < 2 ^ 64) cs → text ≡ oid_text cs →
    MatchResult r (λ oid. IsOidText text oid) (λ e. ran_out_of_memory e ≡ false → (ds : List ℕ) → IsOidText text ds → ⊥) →
    MatchResult r (λ again. again ≡ cs) (λ e. ran_out_of_memory e ≡ true)
read_again cs text (Ok oid) l h e x = oid_text_exact text oid cs x (subst (λ s. IsOidText s cs) (sym e) (spelled cs l h))
read_again cs text (Err f) l h e x = not_false (ran_out_of_memory f) (λ b. x b cs (subst (λ s. IsOidText s cs) (sym e) (spelled cs l h)))
