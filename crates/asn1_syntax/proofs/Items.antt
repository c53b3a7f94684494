-- Lexical items, from the text after them.
use Rattle.std.proofs.Common.{◌≡◌, ◌==◌, ◌&&◌, ◌||◌, ℕ, Bool, true, false, cond, List, [], ◌∷◌, ◌++◌, Some, None, refl, sym, ◌∙◌, ap, subst, append_assoc, length, ◌<◌, arith, length-append}
use Rattle.std.specs.Char.{is_ascii_alphanumeric, is_ascii_digit, is_ascii_lowercase, is_ascii_uppercase}
use Rattle.asn1_syntax.specs.declared.token.TokenKind.{TokenKind}
use Rattle.asn1_syntax.specs.declared.token.TokenKind.TheVariants.{TypeReference, Identifier, Number, BString, HString, CString, Symbol}
use Rattle.asn1_syntax.specs.Items.{BeginsItem, IsItem, IsQuoted, IsRunFrom, after_end, after_string, after_symbol, continues_word, first_is, is_in_bstring, is_in_hstring, is_symbol, is_pair, is_triple}
use Rattle.asn1_syntax.specs.Spacing.{IsLexicalRun, after_run}
use Rattle.asn1_syntax.proofs.Runs.{RunOf, pair_is, run_of}
use Rattle.asn1_syntax.proofs.Spacings.{EndsWith, more_before}

-- a run that begins with a character that continues it begins with that character
run_begins : (g : List ℕ → Bool) (begins : ℕ → Bool) (c : ℕ) (s : List ℕ) → begins c ≡ true → g (c ∷ s) ≡ true → RunOf g s (after_run g s) → (text : List ℕ) × (c ∷ s ≡ text ++ after_run g (c ∷ s)) × IsRunFrom begins g text (after_run g (c ∷ s))
run_begins g begins c s is goes r = rw goes (
  c ∷ r.run,
  ap (λ l. c ∷ l) r.joined,
  record { first = is; run = (subst (λ l. g (c ∷ l) ≡ true) r.joined goes, r.is_run) },
)

-- a run of more than nothing is at the start of a text that begins so
pub run_item : (g : List ℕ → Bool) (begins : ℕ → Bool) → g [] ≡ false → (s : List ℕ) → first_is begins s ≡ true → ((c : ℕ) (more : List ℕ) → begins c ≡ true → g (c ∷ more) ≡ true)
    → (text : List ℕ) × (s ≡ text ++ after_run g s) × IsRunFrom begins g text (after_run g s)
run_item g begins none [] first goes = absurd (cc)
run_item g begins none (c ∷ s) first goes = run_begins g begins c s first (goes c s first) (run_of g none s)

-- a character string ends
string_case : (c d : ℕ) (s r : List ℕ) (quote second : Bool)
    → cond quote (cond second (after_string s) (Some (d ∷ s))) (after_string (d ∷ s)) ≡ Some r
    → (after_string s ≡ Some r → EndsWith s r)
    → (after_string (d ∷ s) ≡ Some r → EndsWith (d ∷ s) r)
    → EndsWith (c ∷ d ∷ s) r
string_case c d s r true true e f g = more_before c (d ∷ s) r (more_before d s r (f e))
string_case c d s r true false e f g = record { text = c ∷ []; joined = let same : d ∷ s ≡ r = cc in ap (λ l. c ∷ l) same; some = omega arith }
string_case c d s r false second e f g = more_before c (d ∷ s) r (g e)

string_end : (c : ℕ) (r : List ℕ) (quote : Bool) → cond quote (Some []) None ≡ Some r → EndsWith (c ∷ []) r
string_end c r true e = record { text = c ∷ []; joined = let same : [] ≡ r = cc in ap (λ l. c ∷ l) same; some = omega arith }
string_end c r false e = absurd (cc)

pub string_ends : (s r : List ℕ) → after_string s ≡ Some r → EndsWith s r
string_ends [] r e = absurd (cc)
string_ends (c ∷ []) r e = string_end c r (c == 34) e
string_ends (c ∷ d ∷ s) r e = string_case c d s r (c == 34) (d == 34) e (string_ends s r) (string_ends (d ∷ s) r)

pub string_item : (s r : List ℕ) → after_string s ≡ Some r → BeginsItem CString (34 ∷ s) r
string_item s r e =
    let b : EndsWith s r = string_ends s r e in
    record {
      text = 34 ∷ b.text;
      joined = ap (λ l. 34 ∷ l) b.joined;
      item = record { body = b.text; joined = refl; ends = subst (λ l. after_string l ≡ Some r) b.joined e };
    }

-- the end of a binary or hexadecimal string
end_case : (letter c d : ℕ) (s r : List ℕ) (both : Bool) → (c == 39 && d == letter) ≡ both → cond both (Some s) None ≡ Some r → c ∷ d ∷ s ≡ 39 ∷ letter ∷ r
end_case letter c d s r true are e =
    let p = pair_is 39 letter c d are in
    let same : s ≡ r = cc in
    ap (λ x. x ∷ d ∷ s) p.0 ∙ ap (λ x. 39 ∷ x ∷ s) p.1 ∙ ap (λ l. 39 ∷ letter ∷ l) same
end_case letter c d s r false are e = absurd (cc)

end_is : (letter : ℕ) (s r : List ℕ) → after_end letter s ≡ Some r → s ≡ 39 ∷ letter ∷ r
end_is letter [] r e = absurd (cc)
end_is letter (c ∷ []) r e = absurd (cc)
end_is letter (c ∷ d ∷ s) r e = end_case letter c d s r (c == 39 && d == letter) refl e

pub quoted_of : (is_digit : ℕ → Bool) (letter : ℕ) (s r : List ℕ) → after_end letter (after_run (first_is is_digit) s) ≡ Some r
    → (text : List ℕ) × (39 ∷ s ≡ text ++ r) × IsQuoted is_digit letter text r
quoted_of is_digit letter s r e =
    let g = first_is is_digit in
    let run : RunOf g s (after_run g s) = run_of g refl s in
    let close : after_run g s ≡ 39 ∷ letter ∷ r = end_is letter (after_run g s) r e in
    let joined : s ≡ run.run ++ (39 ∷ letter ∷ r) = run.joined ∙ ap (λ l. run.run ++ l) close in (
      39 ∷ (run.run ++ (39 ∷ letter ∷ [])),
      ap (λ l. 39 ∷ l) (joined ∙ sym (append_assoc run.run (39 ∷ letter ∷ []) r)),
      record { digits = run.run; joined = refl; run = subst (IsLexicalRun g run.run) close run.is_run },
    )

-- a symbol ends
symbol_case1 : (c : ℕ) (r : List ℕ) (one : Bool) → cond one (Some []) None ≡ Some r → EndsWith (c ∷ []) r
symbol_case1 c r true e = record { text = c ∷ []; joined = let same : [] ≡ r = cc in ap (λ l. c ∷ l) same; some = omega arith }
symbol_case1 c r false e = absurd (cc)

symbol_case2 : (c d : ℕ) (r : List ℕ) (two one : Bool) → cond two (Some []) (cond one (Some (d ∷ [])) None) ≡ Some r → EndsWith (c ∷ d ∷ []) r
symbol_case2 c d r true one e = record { text = c ∷ d ∷ []; joined = let same : [] ≡ r = cc in ap (λ l. c ∷ d ∷ l) same; some = omega arith }
symbol_case2 c d r false true e = record { text = c ∷ []; joined = let same : d ∷ [] ≡ r = cc in ap (λ l. c ∷ l) same; some = omega arith }
symbol_case2 c d r false false e = absurd (cc)

symbol_case3 : (c d e : ℕ) (s r : List ℕ) (three two one : Bool) → cond three (Some s) (cond two (Some (e ∷ s)) (cond one (Some (d ∷ e ∷ s)) None)) ≡ Some r → EndsWith (c ∷ d ∷ e ∷ s) r
symbol_case3 c d e s r true two one is = record { text = c ∷ d ∷ e ∷ []; joined = let same : s ≡ r = cc in ap (λ l. c ∷ d ∷ e ∷ l) same; some = omega arith }
symbol_case3 c d e s r false true one is = record { text = c ∷ d ∷ []; joined = let same : e ∷ s ≡ r = cc in ap (λ l. c ∷ d ∷ l) same; some = omega arith }
symbol_case3 c d e s r false false true is = record { text = c ∷ []; joined = let same : d ∷ e ∷ s ≡ r = cc in ap (λ l. c ∷ l) same; some = omega arith }
symbol_case3 c d e s r false false false is = absurd (cc)

symbol_ends : (s r : List ℕ) → after_symbol s ≡ Some r → EndsWith s r
symbol_ends [] r e = absurd (cc)
symbol_ends (c ∷ []) r e = symbol_case1 c r (is_symbol c) e
symbol_ends (c ∷ d ∷ []) r e = symbol_case2 c d r (is_pair c d) (is_symbol c) e
symbol_ends (c ∷ d ∷ f ∷ s) r e = symbol_case3 c d f s r (is_triple c d f) (is_pair c d) (is_symbol c) e

pub symbol_item : (s r : List ℕ) → after_symbol s ≡ Some r → BeginsItem Symbol s r
symbol_item s r e =
    let b : EndsWith s r = symbol_ends s r e in
    record { text = b.text; joined = b.joined; item = subst (λ l. after_symbol l ≡ Some r) b.joined e }

pub bstring_item : (s r : List ℕ) → after_end 66 (after_run (first_is is_in_bstring) s) ≡ Some r → BeginsItem BString (39 ∷ s) r
bstring_item s r e = let p = quoted_of is_in_bstring 66 s r e in record { text = p.0; joined = p.1; item = p.2 }

pub hstring_item : (s r : List ℕ) → after_end 72 (after_run (first_is is_in_hstring) s) ≡ Some r → BeginsItem HString (39 ∷ s) r
hstring_item s r e = let p = quoted_of is_in_hstring 72 s r e in record { text = p.0; joined = p.1; item = p.2 }

or_second : (a b c d : Bool) → b ≡ true → (((a || b) || c) || d) ≡ true
or_second a false c d e = absurd (cc)
or_second true true c d e = refl
or_second false true c d e = refl

or_third : (a b c d : Bool) → c ≡ true → (((a || b) || c) || d) ≡ true
or_third a b false d e = absurd (cc)
or_third true b true d e = refl
or_third false true true d e = refl
or_third false false true d e = refl

pub upper_item : (s : List ℕ) → first_is is_ascii_uppercase s ≡ true → BeginsItem TypeReference s (after_run continues_word s)
upper_item s first = let p = run_item continues_word is_ascii_uppercase refl s first (λ c more is. or_second (is_ascii_digit c) (is_ascii_uppercase c) (is_ascii_lowercase c) (c == 45 && first_is is_ascii_alphanumeric more) is) in record { text = p.0; joined = p.1; item = p.2 }

pub lower_item : (s : List ℕ) → first_is is_ascii_lowercase s ≡ true → BeginsItem Identifier s (after_run continues_word s)
lower_item s first = let p = run_item continues_word is_ascii_lowercase refl s first (λ c more is. or_third (is_ascii_digit c) (is_ascii_uppercase c) (is_ascii_lowercase c) (c == 45 && first_is is_ascii_alphanumeric more) is) in record { text = p.0; joined = p.1; item = p.2 }

pub number_item : (s : List ℕ) → first_is is_ascii_digit s ≡ true → BeginsItem Number s (after_run (first_is is_ascii_digit) s)
number_item s first = let p = run_item (first_is is_ascii_digit) is_ascii_digit refl s first (λ c more is. is) in record { text = p.0; joined = p.1; item = p.2 }

-- a lexical item is of one character at least
run_some : (g : List ℕ → Bool) (begins : ℕ → Bool) (text after : List ℕ) → IsRunFrom begins g text after → 0 < length text
run_some g begins [] after run = absurd (let e : false ≡ true = run.first in cc)
run_some g begins (c ∷ text) after run = omega arith

symbol_some : (text after : List ℕ) → after_symbol (text ++ after) ≡ Some after → 0 < length text
symbol_some text after e =
    let b : EndsWith (text ++ after) after = symbol_ends (text ++ after) after e in
    omega (arith, b.some, ap length b.joined, length-append text after, length-append b.text after)

pub item_some : (kind : TokenKind) (text after : List ℕ) → IsItem kind text after → 0 < length text
item_some TypeReference text after is = run_some _ _ text after is
item_some Identifier text after is = run_some _ _ text after is
item_some Number text after is = run_some _ _ text after is
item_some BString text after is = omega (arith, ap length is.joined)
item_some HString text after is = omega (arith, ap length is.joined)
item_some CString text after is = omega (arith, ap length is.joined)
item_some Symbol text after is = symbol_some text after is
