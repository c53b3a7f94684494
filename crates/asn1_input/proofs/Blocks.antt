-- What is left to be said by lines of PEM, one line after the other.
use Rattle.std.proofs.Common.{◌≡◌, ◌↔◌, inl, inr, ℕ, List, [], ◌∷◌, ◌++◌, length, refl, ap, ◌∙◌, sym, subst, append_assoc, append-nil, arith, Bool, true, Option, Some, None}
use Rattle.std.specs.List.{AllByRecursion}
use Rattle.std.specs.Prelude.{get_or, drop, unwrap_or}
use Rattle.std.specs.Result.{result_ok}
use Rattle.asn1_input.specs.Blocks.{BeginsBlock, BlockDecodes, EndsBlock, IsInner, FirstBlock, DecodeBlocks}
use Rattle.asn1_input.specs.Reader.{texts, OpenBlockDecodes, DecodeRest, AwaitsFrom}
use Rattle.asn1_input.specs.declared.block.TextLine.{TextLine}

abbrev prefix : List (List ℕ) → List ℕ
prefix lines = get_or lines 0 []

-- ---- a line beside all blocks

first_after : (R : List (List ℕ) → Type 0) (line : List ℕ) (rest : List (List ℕ)) (bytes : List ℕ) → (BeginsBlock line → ⊥) →
    (x : FirstBlock R (line ∷ rest) bytes) (before : List (List ℕ)) → x.before ≡ before → FirstBlock R rest bytes
first_after R line rest bytes not x [] h =
    let e = x.joined ∙ ap (λ z. z ++ (x.first ∷ (x.body ++ (x.last ∷ x.after)))) h in
    absurd (not (subst BeginsBlock (sym (ap prefix e)) x.begins))
first_after R line rest bytes not x (y ∷ ys) h =
    let e = x.joined ∙ ap (λ z. z ++ (x.first ∷ (x.body ++ (x.last ∷ x.after)))) h in
    record {
      before = ys;
      first = x.first;
      body = x.body;
      last = x.last;
      after = x.after;
      joined = ap (drop 1) e;
      none_before = (subst (AllByRecursion (λ l. BeginsBlock l → ⊥)) h x.none_before).1;
      begins = x.begins;
      inner = x.inner;
      ends = x.ends;
      decodes = x.decodes;
      others = x.others;
    }

first_before : (R : List (List ℕ) → Type 0) (line : List ℕ) (rest : List (List ℕ)) (bytes : List ℕ) → (BeginsBlock line → ⊥) → FirstBlock R rest bytes →
    FirstBlock R (line ∷ rest) bytes
first_before R line rest bytes not x = record {
  before = line ∷ x.before;
  first = x.first;
  body = x.body;
  last = x.last;
  after = x.after;
  joined = ap (λ z. line ∷ z) x.joined;
  none_before = (not, x.none_before);
  begins = x.begins;
  inner = x.inner;
  ends = x.ends;
  decodes = x.decodes;
  others = x.others;
}

decode_after : (blocks : List (List ℕ)) (line : List ℕ) (rest : List (List ℕ)) → (BeginsBlock line → ⊥) → DecodeBlocks blocks (line ∷ rest) →
    DecodeBlocks blocks rest
unfolding DecodeBlocks
decode_after [] line rest not x = x.1
decode_after (b ∷ more) line rest not x = first_after (DecodeBlocks more) line rest b not x x.before refl

pub decode_before : (blocks : List (List ℕ)) (line : List ℕ) (rest : List (List ℕ)) → (BeginsBlock line → ⊥) → DecodeBlocks blocks rest →
    DecodeBlocks blocks (line ∷ rest)
unfolding DecodeBlocks
decode_before [] line rest not x = (not, x)
decode_before (b ∷ more) line rest not x = first_before (DecodeBlocks more) line rest b not x

-- ---- a line that begins a block

opened : (R : List (List ℕ) → Type 0) (line : List ℕ) (rest : List (List ℕ)) (bytes : List ℕ) → BeginsBlock line → (x : FirstBlock R (line ∷ rest) bytes)
    (before : List (List ℕ)) → x.before ≡ before → OpenBlockDecodes R [] rest bytes
opened R line rest bytes is x [] h =
    let e = x.joined ∙ ap (λ z. z ++ (x.first ∷ (x.body ++ (x.last ∷ x.after)))) h in
    record {
      body = x.body;
      last = x.last;
      after = x.after;
      joined = ap (drop 1) e;
      inner = x.inner;
      ends = x.ends;
      decodes = x.decodes;
      others = x.others;
    }
opened R line rest bytes is x (y ∷ ys) h =
    let e = x.joined ∙ ap (λ z. z ++ (x.first ∷ (x.body ++ (x.last ∷ x.after)))) h in
    absurd ((subst (AllByRecursion (λ l. BeginsBlock l → ⊥)) h x.none_before).0 (subst BeginsBlock (ap prefix e) is))

decode_opened : (blocks : List (List ℕ)) (line : List ℕ) (rest : List (List ℕ)) → BeginsBlock line → DecodeBlocks blocks (line ∷ rest) →
    DecodeRest (Some []) blocks rest
unfolding DecodeBlocks
decode_opened [] line rest is x = x.0 is
decode_opened (b ∷ more) line rest is x = opened (DecodeBlocks more) line rest b is x x.before refl

pub decode_from_opened : (blocks : List (List ℕ)) (line : List ℕ) (rest : List (List ℕ)) → BeginsBlock line → DecodeRest (Some []) blocks rest →
    DecodeBlocks blocks (line ∷ rest)
unfolding DecodeBlocks
decode_from_opened [] line rest is x = absurd x
decode_from_opened (b ∷ more) line rest is x = record {
  before = [];
  first = line;
  body = x.body;
  last = x.last;
  after = x.after;
  joined = ap (λ z. line ∷ z) x.joined;
  none_before = tt;
  begins = is;
  inner = x.inner;
  ends = x.ends;
  decodes = x.decodes;
  others = x.others;
}

-- ---- a line in a block

one_more : (taken : List (List ℕ)) (line : List ℕ) (body : List (List ℕ)) → taken ++ (line ∷ body) ≡ (taken ++ (line ∷ [])) ++ body
one_more taken line body = simp append_assoc

more_taken : (R : List (List ℕ) → Type 0) (taken : List (List ℕ)) (line : List ℕ) (rest : List (List ℕ)) (bytes : List ℕ) → (EndsBlock line → ⊥) →
    (x : OpenBlockDecodes R taken (line ∷ rest) bytes) (body : List (List ℕ)) → x.body ≡ body → OpenBlockDecodes R (taken ++ (line ∷ [])) rest bytes
more_taken R taken line rest bytes not x [] h =
    let e = x.joined ∙ ap (λ z. z ++ (x.last ∷ x.after)) h in
    absurd (not (subst EndsBlock (sym (ap prefix e)) x.ends))
more_taken R taken line rest bytes not x (y ∷ ys) h =
    let e = x.joined ∙ ap (λ z. z ++ (x.last ∷ x.after)) h in
    let same : x.body ≡ line ∷ ys = h ∙ ap (λ z. z ∷ ys) (sym (ap prefix e)) in
    record {
      body = ys;
      last = x.last;
      after = x.after;
      joined = ap (drop 1) e;
      inner = (subst (AllByRecursion IsInner) h x.inner).1;
      ends = x.ends;
      decodes = subst (λ z. BlockDecodes z bytes) (ap (λ z. taken ++ z) same ∙ one_more taken line ys) x.decodes;
      others = x.others;
    }

module _ (taken new : List TextLine) (line : List ℕ) (rest : List (List ℕ)) (added : texts new ≡ texts taken ++ (line ∷ [])) where
  decode_within : (blocks : List (List ℕ)) → (EndsBlock line → ⊥) → DecodeRest (Some taken) blocks (line ∷ rest) → DecodeRest (Some new) blocks rest
  decode_within [] not x = x
  decode_within (b ∷ more) not x =
      subst (λ z. OpenBlockDecodes (DecodeBlocks more) z rest b) (sym added) (more_taken (DecodeBlocks more) (texts taken) line rest b not x x.body refl)

  pub decode_from_within : (blocks : List (List ℕ)) → IsInner line → DecodeRest (Some new) blocks rest → DecodeRest (Some taken) blocks (line ∷ rest)
  decode_from_within [] inner x = x
  decode_from_within (b ∷ more) inner x = record {
    body = line ∷ x.body;
    last = x.last;
    after = x.after;
    joined = ap (λ z. line ∷ z) x.joined;
    inner = (inner, x.inner);
    ends = x.ends;
    decodes = subst (λ z. BlockDecodes z b) (ap (λ z. z ++ x.body) added ∙ sym (one_more (texts taken) line x.body)) x.decodes;
    others = x.others;
  }

-- ---- a line that ends a block

pub record Ended (R : List (List ℕ) → Type 0) (taken : List (List ℕ)) (rest : List (List ℕ)) (bytes : List ℕ) : Type 0 where
  pub decodes : BlockDecodes taken bytes
  pub others : R rest

ended : (R : List (List ℕ) → Type 0) (taken : List (List ℕ)) (line : List ℕ) (rest : List (List ℕ)) (bytes : List ℕ) → EndsBlock line →
    (x : OpenBlockDecodes R taken (line ∷ rest) bytes) (body : List (List ℕ)) → x.body ≡ body → Ended R taken rest bytes
ended R taken line rest bytes is x [] h =
    let e = x.joined ∙ ap (λ z. z ++ (x.last ∷ x.after)) h in
    record {
      decodes = subst (λ z. BlockDecodes z bytes) (ap (λ z. taken ++ z) h ∙ append-nil taken) x.decodes;
      others = subst R (sym (ap (drop 1) e)) x.others;
    }
ended R taken line rest bytes is x (y ∷ ys) h =
    let e = x.joined ∙ ap (λ z. z ++ (x.last ∷ x.after)) h in
    absurd ((subst (AllByRecursion IsInner) h x.inner).0.0 (subst EndsBlock (ap prefix e) is))

pub decode_ended : (taken : List TextLine) (line : List ℕ) (rest : List (List ℕ)) (bytes : List ℕ) (blocks : List (List ℕ)) → EndsBlock line →
    BlockDecodes (texts taken) bytes → DecodeBlocks blocks rest → DecodeRest (Some taken) (bytes ∷ blocks) (line ∷ rest)
decode_ended taken line rest bytes blocks is d x = record {
  body = [];
  last = line;
  after = rest;
  joined = refl;
  inner = tt;
  ends = is;
  decodes = subst (λ z. BlockDecodes z bytes) (sym (append-nil (texts taken))) d;
  others = x;
}

-- ---- a line that begins another block

cut_off : (R : List (List ℕ) → Type 0) (taken : List (List ℕ)) (line : List ℕ) (rest : List (List ℕ)) (bytes : List ℕ) → (EndsBlock line → ⊥) → BeginsBlock line →
    (x : OpenBlockDecodes R taken (line ∷ rest) bytes) (body : List (List ℕ)) → x.body ≡ body → ⊥
cut_off R taken line rest bytes not is x [] h =
    let e = x.joined ∙ ap (λ z. z ++ (x.last ∷ x.after)) h in
    not (subst EndsBlock (sym (ap prefix e)) x.ends)
cut_off R taken line rest bytes not is x (y ∷ ys) h =
    let e = x.joined ∙ ap (λ z. z ++ (x.last ∷ x.after)) h in
    (subst (AllByRecursion IsInner) h x.inner).0.1 (subst BeginsBlock (ap prefix e) is)

none_cut_off : (taken : List TextLine) (line : List ℕ) (rest : List (List ℕ)) → (EndsBlock line → ⊥) → BeginsBlock line → (blocks : List (List ℕ)) →
    DecodeRest (Some taken) blocks (line ∷ rest) → ⊥
none_cut_off taken line rest not is [] x = x
none_cut_off taken line rest not is (b ∷ more) x = cut_off (DecodeBlocks more) (texts taken) line rest b not is x x.body refl

-- ---- one line, where P is to hold of each block

module _ (P : List ℕ → Type 0) (line : List ℕ) (rest : List (List ℕ)) where
  pub awaits_outside : (any : Bool) → (BeginsBlock line → ⊥) → AwaitsFrom P None any (line ∷ rest) ↔ AwaitsFrom P None any rest
  awaits_outside any not = (
    λ w. record { blocks = w.blocks; decode = decode_after w.blocks line rest not w.decode; some = w.some; all = w.all },
    λ w. record { blocks = w.blocks; decode = decode_before w.blocks line rest not w.decode; some = w.some; all = w.all },
  )

  pub awaits_begun : (any : Bool) → BeginsBlock line → AwaitsFrom P None any (line ∷ rest) ↔ AwaitsFrom P (Some []) any rest
  awaits_begun any is = (
    λ w. record { blocks = w.blocks; decode = decode_opened w.blocks line rest is w.decode; some = w.some; all = w.all },
    λ w. record { blocks = w.blocks; decode = decode_from_opened w.blocks line rest is w.decode; some = w.some; all = w.all },
  )

  pub awaits_within : (taken new : List TextLine) (any : Bool) → texts new ≡ texts taken ++ (line ∷ []) → IsInner line →
      AwaitsFrom P (Some taken) any (line ∷ rest) ↔ AwaitsFrom P (Some new) any rest
  awaits_within taken new any added inner = (
    λ w. record {
      blocks = w.blocks;
      decode = decode_within taken new line rest added w.blocks inner.0 w.decode;
      some = w.some;
      all = w.all;
    },
    λ w. record {
      blocks = w.blocks;
      decode = decode_from_within taken new line rest added w.blocks inner w.decode;
      some = w.some;
      all = w.all;
    },
  )

  after_end : (taken : List TextLine) (bytes : List ℕ) → EndsBlock line → BlockDecodes (texts taken) bytes → (blocks : List (List ℕ)) →
      DecodeRest (Some taken) blocks (line ∷ rest) →
      AllByRecursion P blocks → P bytes × AwaitsFrom P None true rest
  after_end taken bytes is d [] decode all = absurd decode
  after_end taken bytes is d (b ∷ more) decode all =
      let x = ended (DecodeBlocks more) (texts taken) line rest b is decode decode.body refl in
      let same : b ≡ bytes = ap (λ r. unwrap_or (result_ok r) []) (sym x.decodes.decodes ∙ d.decodes) in
      (subst P same all.0, record { blocks = more; decode = x.others; some = inl refl; all = all.1 })

  pub awaits_ended : (taken : List TextLine) (bytes : List ℕ) (any : Bool) → EndsBlock line → BlockDecodes (texts taken) bytes →
      AwaitsFrom P (Some taken) any (line ∷ rest) ↔ (P bytes × AwaitsFrom P None true rest)
  awaits_ended taken bytes any is d = (
    λ w. after_end taken bytes is d w.blocks w.decode w.all,
    λ w. record {
      blocks = bytes ∷ w.1.blocks;
      decode = decode_ended taken line rest bytes w.1.blocks is d w.1.decode;
      some = inr (omega arith);
      all = (w.0, w.1.all);
    },
  )

  none_after_end : (taken : List TextLine) → EndsBlock line → ((bytes : List ℕ) → BlockDecodes (texts taken) bytes → ⊥) → (blocks : List (List ℕ)) →
      DecodeRest (Some taken) blocks (line ∷ rest) → ⊥
  none_after_end taken is not [] decode = decode
  none_after_end taken is not (b ∷ more) decode = not b (ended (DecodeBlocks more) (texts taken) line rest b is decode decode.body refl).decodes

  pub awaits_nothing : (taken : List TextLine) (any : Bool) → EndsBlock line → ((bytes : List ℕ) → BlockDecodes (texts taken) bytes → ⊥) →
      AwaitsFrom P (Some taken) any (line ∷ rest) → ⊥
  awaits_nothing taken any is not w = none_after_end taken is not w.blocks w.decode

  pub awaits_cut : (taken : List TextLine) (any : Bool) → (EndsBlock line → ⊥) → BeginsBlock line → AwaitsFrom P (Some taken) any (line ∷ rest) → ⊥
  awaits_cut taken any not is w = none_cut_off taken line rest not is w.blocks w.decode

-- ---- no line is left

no_last : (body : List (List ℕ)) (last : List ℕ) (after : List (List ℕ)) → [] ≡ body ++ (last ∷ after) → ⊥
no_last [] last after e = omega (arith, ap length e)
no_last (x ∷ body) last after e = omega (arith, ap length e)

pub none_left : (taken : Option (List TextLine)) (blocks : List (List ℕ)) → DecodeRest taken blocks [] → (taken ≡ None) × (blocks ≡ [])
unfolding DecodeBlocks
none_left None [] decode = (refl, refl)
none_left None (b ∷ more) decode = absurd (no_last decode.before decode.first (decode.body ++ (decode.last ∷ decode.after)) decode.joined)
none_left (Some taken) [] decode = absurd decode
none_left (Some taken) (b ∷ more) decode = absurd (no_last decode.body decode.last decode.after decode.joined)
