-- Lexical items one after the other.
use Rattle.std.proofs.Common.{◌≡◌, ◌-◌, ◌≤◌, ◌<◌, ℕ, List, [], ◌∷◌, ◌++◌, length, take, None, refl, sym, ap, subst, arith, length-append}
use Rattle.std.specs.List.{concat}
use Rattle.std.proofs.Math.Seq.{take-append_seam}
use Rattle.asn1_syntax.specs.declared.error.SyntaxError.{SyntaxError}
use Rattle.asn1_syntax.specs.declared.error.SyntaxError.TheVariants.{Malformed, Memory}
use Rattle.asn1_syntax.specs.declared.token.Token.{Token}
use Rattle.asn1_syntax.proofs.Items.{item_some}
use Rattle.asn1_syntax.specs.Lexing.{AreTokens, IsToken, Lexes, LexingFails, MissesToken}
use Rattle.asn1_syntax.specs.Spacing.{IsGap, after_spacing}

-- lexical items, one more of them, and a gap
pub one_more : (total : ℕ) (ts : List Token) (t : Token) (start s after next : List ℕ) → AreTokens total ts start s → IsToken total t s after → IsGap after next
    → AreTokens total (ts ++ (t ∷ [])) start next
unfolding AreTokens
one_more total [] t start s after next before token gap = record {
  after = after;
  next = next;
  token = subst (λ l. IsToken total t l after) (sym before) token;
  gap = gap;
  others = refl;
}
one_more total (u ∷ ts) t start s after next before token gap = record {
  after = before.after;
  next = before.next;
  token = before.token;
  gap = before.gap;
  others = one_more total ts t before.next s after next before.others token gap;
}

-- a source is lexical items and gaps up to a text
pub record LexesTo (source : List ℕ) (ts : List Token) (rest : List ℕ) : Type 0 where
  pub start : List ℕ
  pub gap : IsGap source start
  pub items : AreTokens (length source) ts start rest
  pub whole : after_spacing rest ≡ None
  pub fits : length rest ≤ length source

gap_fits : (s after : List ℕ) → IsGap s after → length after ≤ length s
gap_fits s after gap = omega (arith, ap length gap.joined, length-append (concat gap.spacings) after)

pub before_first : (source start : List ℕ) → IsGap source start → LexesTo source [] start
unfolding AreTokens
before_first source start gap = record { start = start; gap = gap; items = refl; whole = gap.whole; fits = gap_fits source start gap }

-- a token is of one character at least, so the text after it and a gap is shorter
pub token_shortens : (total : ℕ) (t : Token) (s after next : List ℕ) → IsToken total t s after → IsGap after next → length next < length s
token_shortens total t s after next token gap =
    omega (arith, gap_fits after next gap, ap length token.joined, length-append t.text.now after, item_some t.kind t.text.now after token.item)

pub after_token : (source : List ℕ) (ts : List Token) (t : Token) (rest after next : List ℕ) → LexesTo source ts rest → IsToken (length source) t rest after → IsGap after next → LexesTo source (ts ++ (t ∷ [])) next
after_token source ts t rest after next before token gap = record {
  start = before.start;
  gap = before.gap;
  items = one_more (length source) ts t before.start rest after next before.items token gap;
  whole = gap.whole;
  fits = omega (arith, before.fits, token_shortens (length source) t rest after next token gap);
}

pub at_end : (source : List ℕ) (ts : List Token) (rest : List ℕ) → LexesTo source ts rest → rest ≡ [] → Lexes source ts
at_end source ts rest to end = record { start = to.start; gap = to.gap; items = subst (AreTokens (length source) ts to.start) end to.items }

-- a text without the text after its start is its start
pub start_of : (s text after : List ℕ) → s ≡ text ++ after → take (length s - length after) s ≡ text
start_of s text after e =
    let size : length s - length after ≡ length text = omega (arith, ap length e, length-append text after) in
    rw (size, e) (take-append_seam text after)

pub stops_at : (source : List ℕ) (ts : List Token) (rest : List ℕ) (e : SyntaxError) → LexesTo source ts rest → MissesToken (length source) rest e → LexingFails source e
stops_at source ts rest Memory to misses = tt
stops_at source ts rest (Malformed offset expected) to misses = record {
  before = ts;
  start = to.start;
  place = rest;
  gap = to.gap;
  items = to.items;
  missing = misses.1;
  distance = misses.0;
}
