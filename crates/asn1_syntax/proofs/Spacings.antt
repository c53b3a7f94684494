-- White space and comments, from the text after them.
use Rattle.std.proofs.Common.{◌≡◌, ◌==◌, ◌&&◌, ◌+◌, ◌-◌, ◌<◌, ℕ, Bool, true, false, cond, not, List, [], ◌∷◌, ◌++◌, length, Some, None, ◌⊎◌, inl, inr, refl, sym, ◌∙◌, ap, subst, arith, append_assoc, length-append}
use Rattle.std.specs.List.{concat}
use Rattle.asn1_syntax.specs.Spacing.{EndsLine, IsCharacter, IsGap, IsLexicalRun, IsSpacing, after_comment, after_hyphens, after_run, after_spacing, in_line, is_newline, is_white_space}
use Rattle.asn1_syntax.proofs.Runs.{RunOf, pair_is, run_of}

-- another character of a comment leaves the text after the comment as it is
pub character_goes_on : (others : ℕ) (s more : List ℕ) → IsCharacter s more → after_comment others s ≡ after_comment others more
character_goes_on others [] more is = absurd is
character_goes_on others (c ∷ []) more is = ap (after_comment others) is.0
character_goes_on others (c ∷ d ∷ s) more is = rw (is.1, is.2) (ap (after_comment others) is.0)

-- a text ends with another one
pub record EndsWith (s after : List ℕ) : Type 0 where
  pub text : List ℕ
  pub joined : s ≡ text ++ after
  pub some : 0 < length text

pub more_before : (c : ℕ) (s after : List ℕ) → EndsWith s after → EndsWith (c ∷ s) after
more_before c s after e = record { text = c ∷ e.text; joined = ap (λ l. c ∷ l) e.joined; some = omega arith }

comment_case : (k c d : ℕ) (s r : List ℕ) (closes opens only : Bool)
    → cond closes (cond only (Some s) (after_comment (k - 1) s)) (cond opens (after_comment (k + 1) s) (after_comment k (d ∷ s))) ≡ Some r
    → (after_comment (k - 1) s ≡ Some r → EndsWith s r)
    → (after_comment (k + 1) s ≡ Some r → EndsWith s r)
    → (after_comment k (d ∷ s) ≡ Some r → EndsWith (d ∷ s) r)
    → EndsWith (c ∷ d ∷ s) r
comment_case k c d s r true opens true e f g h = record { text = c ∷ d ∷ []; joined = let same : s ≡ r = cc in ap (λ l. c ∷ d ∷ l) same; some = omega arith }
comment_case k c d s r true opens false e f g h = more_before c (d ∷ s) r (more_before d s r (f e))
comment_case k c d s r false true only e f g h = more_before c (d ∷ s) r (more_before d s r (g e))
comment_case k c d s r false false only e f g h = more_before c (d ∷ s) r (h e)

pub comment_ends : (k : ℕ) (s r : List ℕ) → after_comment k s ≡ Some r → EndsWith s r
comment_ends k [] r e = absurd (cc)
comment_ends k (c ∷ []) r e = absurd (cc)
comment_ends k (c ∷ d ∷ s) r e =
    comment_case k c d s r (c == 42 && d == 47) (c == 47 && d == 42) (k == 0) e (comment_ends (k - 1) s r) (comment_ends (k + 1) s r) (comment_ends k (d ∷ s) r)

-- how the comment of a line ends
record Closed (s after : List ℕ) : Type 0 where
  pub close : List ℕ
  pub joined : s ≡ close ++ after
  pub closed : (close ≡ 45 ∷ 45 ∷ []) ⊎ ((close ≡ []) × EndsLine after)

ends_line : (newline hyphens : Bool) → (not newline && not hyphens) ≡ false → hyphens ≡ false → newline ≡ true
ends_line true hyphens e f = refl
ends_line false true e f = absurd (cc)
ends_line false false e f = absurd (cc)

close_case : (c d : ℕ) (s : List ℕ) (hyphens : Bool) → (c == 45 && d == 45) ≡ hyphens → (not (is_newline c) && not hyphens) ≡ false
    → Closed (c ∷ d ∷ s) (cond hyphens s (c ∷ d ∷ s))
close_case c d s true are stops = let p = pair_is 45 45 c d are in record {
  close = c ∷ d ∷ [];
  joined = refl;
  closed = inl (ap (λ x. x ∷ d ∷ []) p.0 ∙ ap (λ x. 45 ∷ x ∷ []) p.1);
}
close_case c d s false are stops = record { close = []; joined = refl; closed = inr (refl, ends_line (is_newline c) false stops refl) }

close_of : (s : List ℕ) → in_line s ≡ false → Closed s (after_hyphens s)
close_of [] stops = record { close = []; joined = refl; closed = inr (refl, tt) }
close_of (c ∷ []) stops = record { close = []; joined = refl; closed = inr (refl, ends_line (is_newline c) false stops refl) }
close_of (c ∷ d ∷ s) stops = close_case c d s (c == 45 && d == 45) refl stops

-- a text begins with a white space or a comment
pub record BeginsSpacing (s after : List ℕ) : Type 0 where
  pub text : List ℕ
  pub joined : s ≡ text ++ after
  pub spacing : IsSpacing text after
  pub some : 0 < length text

line_comment : (s : List ℕ) → BeginsSpacing (45 ∷ 45 ∷ s) (after_hyphens (after_run in_line s))
line_comment s =
    let r : RunOf in_line s (after_run in_line s) = run_of in_line refl s in
    let e : Closed (after_run in_line s) (after_hyphens (after_run in_line s)) = close_of (after_run in_line s) r.stops in
    record {
      text = 45 ∷ 45 ∷ (r.run ++ e.close);
      joined = ap (λ l. 45 ∷ 45 ∷ l) (r.joined ∙ ap (λ l. r.run ++ l) e.joined ∙ sym (append_assoc r.run e.close _));
      spacing = inr (inl (record { body = r.run; close = e.close; joined = refl; run = subst (IsLexicalRun in_line r.run) e.joined r.is_run; closed = e.closed }));
      some = omega arith;
    }

block_comment : (s r : List ℕ) → after_comment 0 s ≡ Some r → BeginsSpacing (47 ∷ 42 ∷ s) r
block_comment s r e =
    let b : EndsWith s r = comment_ends 0 s r e in
    record {
      text = 47 ∷ 42 ∷ b.text;
      joined = ap (λ l. 47 ∷ 42 ∷ l) b.joined;
      spacing = inr (inr (record { body = b.text; joined = refl; ends = subst (λ l. after_comment 0 l ≡ Some r) b.joined e }));
      some = omega arith;
    }

white : (c : ℕ) (s r : List ℕ) → is_white_space c ≡ true → Some s ≡ Some r → BeginsSpacing (c ∷ s) r
white c s r is e = record {
  text = c ∷ [];
  joined = let same : s ≡ r = cc in ap (λ l. c ∷ l) same;
  spacing = inl (record { character = c; joined = refl; white = is });
  some = omega arith;
}

pair_case : (c d : ℕ) (s r : List ℕ) (hyphens slash : Bool) → (c == 45 && d == 45) ≡ hyphens → (c == 47 && d == 42) ≡ slash
    → cond hyphens (Some (after_hyphens (after_run in_line s))) (cond slash (after_comment 0 s) None) ≡ Some r
    → BeginsSpacing (c ∷ d ∷ s) r
pair_case c d s r true slash are is e =
    let p = pair_is 45 45 c d are in
    let same : after_hyphens (after_run in_line s) ≡ r = cc in
    rw (p.0, p.1, ← same) (line_comment s)
pair_case c d s r false true are is e =
    let p = pair_is 47 42 c d is in
    rw (p.0, p.1) (block_comment s r e)
pair_case c d s r false false are is e = absurd (cc)

one_case : (c : ℕ) (r : List ℕ) (w : Bool) → is_white_space c ≡ w → cond w (Some []) None ≡ Some r → BeginsSpacing (c ∷ []) r
one_case c r true is e = white c [] r is e
one_case c r false is e = absurd (cc)

white_case : (c d : ℕ) (s r : List ℕ) (w : Bool) → is_white_space c ≡ w
    → cond w (Some (d ∷ s)) (cond (c == 45 && d == 45) (Some (after_hyphens (after_run in_line s))) (cond (c == 47 && d == 42) (after_comment 0 s) None)) ≡ Some r
    → BeginsSpacing (c ∷ d ∷ s) r
white_case c d s r true is e = white c (d ∷ s) r is e
white_case c d s r false is e = pair_case c d s r (c == 45 && d == 45) (c == 47 && d == 42) refl refl e

pub begins_spacing : (s r : List ℕ) → after_spacing s ≡ Some r → BeginsSpacing s r
begins_spacing [] r e = absurd (cc)
begins_spacing (c ∷ []) r e = one_case c r (is_white_space c) refl e
begins_spacing (c ∷ d ∷ s) r e = white_case c d s r (is_white_space c) refl e

-- the text after a white space or a comment is shorter
pub spacing_shortens : (s r : List ℕ) → after_spacing s ≡ Some r → length r < length s
spacing_shortens s r e =
    let b : BeginsSpacing s r = begins_spacing s r e in
    omega (arith, b.some, ap length b.joined, length-append b.text r)

-- a white space or a comment before a gap is part of it
pub longer_gap : (s r after : List ℕ) → after_spacing s ≡ Some r → IsGap r after → IsGap s after
longer_gap s r after e gap =
    let b : BeginsSpacing s r = begins_spacing s r e in
    record {
      spacings = b.text ∷ gap.spacings;
      joined = b.joined ∙ ap (λ l. b.text ++ l) gap.joined ∙ sym (append_assoc b.text (concat gap.spacings) after);
      each = (subst (IsSpacing b.text) gap.joined b.spacing, gap.each);
      whole = gap.whole;
    }
