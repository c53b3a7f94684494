-- The laws of what octets say, and of texts in UTF-8.
use Rattle.std.proofs.Common.{◌≡◌, ℕ, ◌^◌, ◌<◌, List, [], ◌∷◌, refl, ap, ap₂, ◌∙◌, sym, inl, inr, arith, zero, suc, subst, Bool, true, false, ◌&&◌, length, ◌≤◌}
use Rattle.std.proofs.Common.{lt-ltb, le-ltb}
use Rattle.std.proofs.Math.Utf8.{scalar, scalars, scalar_cases, encode, encodes}
use Rattle.std.proofs.lemmas.Bool.{cases_lt, eq-eqb}
use Rattle.std.proofs.lemmas.Str.{encodes_same, encodes-chars, chars-encodes, scalars-chars, encodes-IsAscii, chars-IsAscii, IsUtf8-from_ascii, IsUtf8-string_bytes}
use Rattle.std.specs.Char.{IsScalar, IsNotAsciiAlphanumeric}
use Rattle.std.specs.Global.{Global}
use Rattle.std.specs.List.{AllByRecursion, list_any, Contains}
use Rattle.std.specs.Prelude.{String, string_bytes, IsTrue, ◌↔◌, codes, nat_eq, slice_index_or, MatchBool, ◌||◌}
use Rattle.std.specs.Str.{chars, encode_utf8_all, IsUtf8, IsAscii, IsNotAscii}
use Rattle.yasna_base.specs.declared.mode.BERMode.{BERMode}
use Rattle.yasna_base.specs.declared.mode.BERMode.TheVariants.{Ber}
use Rattle.yasna_base.specs.declared.tag.Tag.{Tag}
use Rattle.yasna_base.specs.Canonical.{IsCanonicalMode, IsWritten, Always}
use Rattle.yasna_base.specs.Coding.{IsCoding, Any}
use Rattle.yasna_base.specs.Digits.{IsBytes}
use Rattle.yasna_base.specs.Identifier.{end_tag}
use Rattle.yasna_base.specs.Octets.{octets_segmentation, octets_encoding, octets_depth}
use Rattle.yasna_base.specs.Text.{IsTextIn, IsUtf8In, IsStringOf, utf8_encoding, utf8_depth, characters, EncodesText, EncodesString, TextKeepsLaws, InUtf8, InNumeric, InVisible, InIa5, InPrintable, utf8_tag}
use Rattle.yasna_base.proofs.Canonical.{written_along, written_always}
use Rattle.yasna_base.proofs.Coding.{equal_same, along}
use Rattle.yasna_base.proofs.Segmented.{segmented_exact, segmented_starts, segmented_deeper, segmented_level}
use Rattle.yasna_base.proofs.Digits.{bytes_append}
use Rattle.yasna_base.proofs.Identifier.{not_end}
use Rattle.yasna_base.proofs.Octets.{octets_once, octets_bytes, octets_written}
use Rattle.std.proofs.lemmas.Bool.Decides.{eqb_tells}
use Rattle.std.specs.Int.{IsOutOfRange}

-- what octets say satisfies the laws of reading, where they say one thing
pub string_coding : {A : Type 0} (K : BERMode → A → List ℕ → Type 0) → ((m : BERMode) (v w : A) (c : List ℕ) → K m v c → K m w c → v ≡ w) →
    (t : Tag) → (t ≡ end_tag → ⊥) → IsCoding (λ v w. v ≡ w) (IsStringOf K t) (Any (IsStringOf K t))
string_coding K one t not_end = record {
  meaning = record {
    equal = equal_same;
    among = λ m n v b x. (v, x);
    exact = λ m n k v w b x y.
        let same = (segmented_exact octets_once n k m t x.octets y.octets b b [] [] x.string y.string refl).0 in
        one m v w y.octets (subst (λ c. K m v c) same x.meaning) y.meaning;
    deeper = λ m n k v b below x. record
        { octets = x.octets; string = segmented_deeper octets_segmentation n k m t x.octets b below x.string; meaning = x.meaning };
  };
  opens = λ m n b x. segmented_starts octets_segmentation n m t x.1.octets b not_end x.1.string;
  prefix_free = λ m n k b c r s x y e. (segmented_exact octets_once n k m t x.1.octets y.1.octets b c r s x.1.string y.1.string e).1;
}

-- it satisfies the laws of writing, where each value has octets of its own in each canonical mode
pub string_written : {A : Type 0} (K : BERMode → A → List ℕ → Type 0) (Can : A → Type 0) (octets : A → List ℕ) (t : Tag) → t.tag_number < 2 ^ 64 →
    ((v : A) → Can v → IsBytes (octets v)) → ((m : BERMode) (v : A) → Can v → K m v (octets v)) →
    ((m : BERMode) (v : A) (c : List ℕ) → IsCanonicalMode m → IsBytes c → K m v c → c ≡ octets v) →
    ((m : BERMode) (v : A) (c : List ℕ) → IsBytes c → K m v c → Can v) →
    IsWritten (λ v w. v ≡ w) (IsStringOf K t) (λ m v. octets_encoding t m (octets v)) (λ m v. octets_depth m (octets v)) Can
string_written K Can octets t range bytes means one back =
    let has = (octets_written t range).has in
    record {
      has = record {
        in_bytes = λ m v can. has.in_bytes m (octets v) (bytes v can);
        holds = λ m o n v h can level short. record
            { octets = octets v; string = has.holds m o n (octets v) h (bytes v can) level short; meaning = means o v can };
        only = λ m n v b h x.
            let y = has.only m n x.octets b h x.string in (
              y.0 ∙ ap (octets_encoding t m) (one m v x.octets h y.1 x.meaning),
              back m v x.octets y.1 x.meaning,
              subst (λ c. octets_depth m c ≤ n) (one m v x.octets h y.1 x.meaning) y.2,
            );
      };
      any = λ n v b x. (
        back Ber v x.octets (octets_bytes n Ber t x.octets b x.string) x.meaning,
        segmented_level octets_segmentation n Ber t x.octets b x.string,
      );
      same = λ m v w e. (ap (λ u. octets_encoding t m (octets u)) e, λ can. subst Can e can, ap (λ u. octets_depth m (octets u)) e);
    }

-- UTF-8

pub scalars_all : (text : List ℕ) → AllByRecursion IsScalar text → scalars text ≡ true
scalars_all [] h = refl
scalars_all (c ∷ cs) h = ap₂ (λ x y. x && y) h.0 (scalars_all cs h.1)

both_true : (x y : Bool) → x && y ≡ true → (x ≡ true) × (y ≡ true)
both_true true y e = (refl, e)
both_true false y e = (e, cc)

pub all_scalars : (text : List ℕ) → scalars text ≡ true → AllByRecursion IsScalar text
all_scalars [] e = tt
all_scalars (c ∷ cs) e = let h = both_true (scalar c) (scalars cs) e in (h.0, all_scalars cs h.1)

encode_bytes : (c : ℕ) → c < 1114112 → IsBytes (encode c)
unfolding encode
encode_bytes c h = elim (cases_lt c 128) [
  | inl i ↦ rw (lt-ltb c 128 i) (omega arith, tt)
  | inr i ↦ elim (cases_lt c 2048) [
    | inl j ↦ rw (le-ltb c 128 i, lt-ltb c 2048 j) (omega arith, (omega arith, tt))
    | inr j ↦ elim (cases_lt c 65536) [
      | inl k ↦ rw (le-ltb c 128 i, le-ltb c 2048 j, lt-ltb c 65536 k) (omega arith, (omega arith, (omega arith, tt)))
      | inr k ↦ rw (le-ltb c 128 i, le-ltb c 2048 j, le-ltb c 65536 k) (omega arith, (omega arith, (omega arith, (omega arith, tt))))
    ]
  ]
]

-- a character's number is at most 0x10FFFF
pub scalar_below : (c : ℕ) → IsScalar c → c < 1114112
scalar_below c h = elim (scalar_cases c h) [
  | inl i ↦ omega (arith, i)
  | inr i ↦ i.1
]

-- a text in UTF-8 is bytes
pub text_bytes : (text : List ℕ) → AllByRecursion IsScalar text → IsBytes (encode_utf8_all text)
text_bytes [] h = tt
text_bytes (c ∷ cs) h = bytes_append (encode c) (encodes cs) (encode_bytes c (scalar_below c h.0)) (text_bytes cs h.1)

-- a class of text in UTF-8 satisfies the laws of reading
pub class_coding : (In : ℕ → Type 0) (t : Tag) → (t ≡ end_tag → ⊥) →
    IsCoding (λ v w. v ≡ w) (IsStringOf (IsUtf8In In) t) (Any (IsStringOf (IsUtf8In In) t))
class_coding In t not_end = string_coding (IsUtf8In In) (λ m v w c x y. encodes_same v w (sym x.octets ∙ y.octets)) t not_end

-- a class of text in UTF-8 satisfies the laws of writing
pub class_written : (In : ℕ → Type 0) (t : Tag) → t.tag_number < 2 ^ 64 →
    IsWritten (λ v w. v ≡ w) (IsStringOf (IsUtf8In In) t) (utf8_encoding t) utf8_depth (IsTextIn In)
class_written In t range = string_written (IsUtf8In In) (IsTextIn In) encode_utf8_all t range
    (λ v can. text_bytes v can.characters) (λ m v can. record { is_text = can; octets = refl })
    (λ m v c h bytes x. x.octets) (λ m v c bytes x. x.is_text)

pub class_keeps : (In : ℕ → Type 0) → TextKeepsLaws In
class_keeps In t not_end range = (class_coding In t not_end, class_written In t range)

-- any text is of the class of all characters
pub text_in_utf8 : (text : List ℕ) → AllByRecursion InUtf8 text
text_in_utf8 [] = tt
text_in_utf8 (c ∷ cs) = (tt, text_in_utf8 cs)

-- bytes in UTF-8 are the text of their characters
pub utf8_means : (m : BERMode) (v : List ℕ) → IsUtf8 v → IsUtf8In InUtf8 m (chars v) v
utf8_means m v h = record {
  is_text = record { characters = all_scalars (chars v) (scalars-chars v h); in_class = text_in_utf8 (chars v) };
  octets = sym (encodes-chars v h);
}

-- bytes in UTF-8 are the text of no other characters
pub utf8_only : (In : ℕ → Type 0) (m : BERMode) (text v : List ℕ) → IsUtf8In In m text v → IsUtf8 v × (text ≡ chars v)
utf8_only In m text v x =
    let s = scalars_all text x.is_text.characters in
    ((text, (s, sym x.octets)), sym (chars-encodes text s) ∙ ap chars (sym x.octets))

-- the text of a string
pub string_text : (s : String Global) → IsTextIn InUtf8 (characters s)
string_text s = (utf8_means Ber (string_bytes s) (IsUtf8-string_bytes s)).is_text

-- under its own tag, of strings that are equal where their characters are
pub text_coding : IsCoding (λ (v w : String Global). characters v ≡ characters w) EncodesString (Any EncodesText)
text_coding = along characters (class_coding InUtf8 utf8_tag (not_end 12 (λ e. omega arith)))

pub text_written : IsWritten (λ (v w : String Global). characters v ≡ characters w) EncodesString
    (λ m v. utf8_encoding utf8_tag m (characters v)) (λ m v. utf8_depth m (characters v)) Always
text_written = written_always string_text (written_along characters (class_written InUtf8 utf8_tag (omega arith)))

-- classes of ASCII

module _ (In : ℕ → Type 0) (below : (c : ℕ) → In c → c < 128) where
  class_ascii : (bs : List ℕ) → AllByRecursion In bs → IsAscii bs
  class_ascii [] h i = omega arith
  class_ascii (b ∷ bs) h zero = below b h.0
  class_ascii (b ∷ bs) h (suc i) = class_ascii bs h.1 i

  -- bytes in the class are the text of the same characters
  pub class_means : (m : BERMode) (bs : List ℕ) → AllByRecursion In bs → IsUtf8In In m bs bs
  class_means m bs h =
      let a = class_ascii bs h in
      let characters = all_scalars bs (ap scalars (sym (chars-IsAscii bs a)) ∙ scalars-chars bs (IsUtf8-from_ascii bs a)) in
      record { is_text = record { characters = characters; in_class = h }; octets = sym (encodes-IsAscii bs a) }

  -- bytes in the class are the text of no other characters
  pub class_only : (m : BERMode) (text bs : List ℕ) → IsUtf8In In m text bs → (text ≡ bs) × AllByRecursion In bs
  class_only m text bs x =
      let same = sym (encodes-IsAscii text (class_ascii text x.is_text.in_class)) ∙ sym x.octets in
      (same, subst (AllByRecursion In) same x.is_text.in_class)

  -- bytes in the class are UTF-8, and their own characters
  pub class_utf8 : (bs : List ℕ) → AllByRecursion In bs → IsUtf8 bs × (chars bs ≡ bs)
  class_utf8 bs h = let a = class_ascii bs h in (IsUtf8-from_ascii bs a, chars-IsAscii bs a)

  -- bytes whose characters are in the class are in it
  pub class_bytes : (bs : List ℕ) → IsUtf8 bs → AllByRecursion In (chars bs) → (chars bs ≡ bs) × AllByRecursion In bs
  class_bytes bs u h =
      let same = sym (encodes-IsAscii (chars bs) (class_ascii (chars bs) h)) ∙ encodes-chars bs u in
      (same, subst (AllByRecursion In) same h)

  -- a test of its bytes says whether a text is in the class
  pub class_text : (result : Bool) (bs text : List ℕ) → IsUtf8 text → bs ≡ text → (IsTrue result ↔ AllByRecursion In bs) →
      (IsTrue result ↔ AllByRecursion In (chars text))
  class_text result bs text u e h = (
    λ yes. let i = subst (AllByRecursion In) e (h.0 yes) in subst (AllByRecursion In) (sym (class_utf8 text i).1) i,
    λ all. h.1 (subst (AllByRecursion In) (sym e) (class_bytes text u all).1),
  )

pub numeric_below : (c : ℕ) → InNumeric c → c < 128
numeric_below c (inl h) = omega (arith, h.1)
numeric_below c (inr h) = omega (arith, h)

pub visible_below : (c : ℕ) → InVisible c → c < 128
visible_below c h = omega (arith, h.1)

pub ia5_below : (c : ℕ) → InIa5 c → c < 128
ia5_below c h = omega (arith, h)

-- what tests say of the classes

any_contains : (xs : List ℕ) (x : ℕ) → list_any (λ y. nat_eq y x) xs ≡ true → Contains xs x
any_contains [] x e = cc
any_contains (y ∷ ys) x e = elim (eqb_tells y x) [
  | inl h ↦ (0, omega arith, h.1)
  | inr h ↦ let r = any_contains ys x (sym (ap (λ t. t || list_any (λ y. nat_eq y x) ys) h.0) ∙ e) in (suc r.0, omega (arith, r.1), r.2)
]

contains_any : (xs : List ℕ) (x k : ℕ) → k < length xs → slice_index_or xs k x ≡ x → list_any (λ y. nat_eq y x) xs ≡ true
contains_any [] x k h e = absurd (omega (arith, h))
contains_any (y ∷ ys) x zero h e = ap (λ t. t || list_any (λ y. nat_eq y x) ys) (eq-eqb y x e)
contains_any (y ∷ ys) x (suc k) h e = elim (eqb_tells y x) [
  | inl i ↦ ap (λ t. t || list_any (λ y. nat_eq y x) ys) i.0
  | inr i ↦ ap (λ t. t || list_any (λ y. nat_eq y x) ys) i.0 ∙ contains_any ys x k (omega (arith, h)) e
]

-- a slice's own test for an element
pub contains_is : (xs : List ℕ) (x : ℕ) (result : Bool) → result ≡ list_any (λ y. nat_eq y x) xs → IsTrue result ↔ Contains xs x
contains_is xs x result e = (λ yes. any_contains xs x (sym e ∙ yes), λ h. e ∙ contains_any xs x h.0 h.1 h.2)

all_ascii : (bs : List ℕ) → IsAscii bs → AllByRecursion InIa5 bs
all_ascii [] h = tt
all_ascii (b ∷ bs) h = (omega (arith, h 0), all_ascii bs (λ i. h (suc i)))

-- a slice's own test for ASCII
pub ascii_is : (bs : List ℕ) (result : Bool) → MatchBool result (IsAscii bs) (IsNotAscii bs) → IsTrue result ↔ AllByRecursion InIa5 bs
ascii_is bs true h = (λ yes. all_ascii bs h, λ all. refl)
ascii_is bs false h = (λ yes. cc, λ all. absurd (omega (arith, h.1, class_ascii InIa5 ia5_below bs all h.0)))

contains_below : (xs : List ℕ) (x k : ℕ) → AllByRecursion (λ y. y < 128) xs → k < length xs → slice_index_or xs k x ≡ x → x < 128
contains_below [] x k all h e = absurd (omega (arith, h))
contains_below (y ∷ ys) x zero all h e = let i = all.0 in omega (arith, e)
contains_below (y ∷ ys) x (suc k) all h e = contains_below ys x k all.1 (omega (arith, h)) e

-- the characters of a text of ASCII lie in IA5
pub ascii_text : (bs : List ℕ) → IsAscii bs → AllByRecursion InIa5 (chars bs)
ascii_text bs h = subst (AllByRecursion InIa5) (sym (chars-IsAscii bs h)) ((ascii_is bs true h).0 refl)

pub printable_below : (c : ℕ) → InPrintable c → c < 128
printable_below c (inl (inl h)) = omega (arith, h.1)
printable_below c (inl (inr h)) = omega (arith, h.1)
printable_below c (inr (inl h)) = omega (arith, h.1)
printable_below c (inr (inr h)) = contains_below (codes " '()+,-./:=?") c h.0 (search arith) h.1 h.2

out_of : (lo hi c : ℕ) → IsOutOfRange lo hi c → lo ≤ c → c ≤ hi → ⊥
out_of lo hi c (inl h) i j = omega (arith, h, i)
out_of lo hi c (inr h) i j = omega (arith, h, j)

printable_only : (c : ℕ) (P : Type 0) → IsNotAsciiAlphanumeric c → (Contains (codes " '()+,-./:=?") c → P) → InPrintable c → P
printable_only c P other mark (inl (inl h)) = absurd (out_of 65 90 c other.0.1 h.0 h.1)
printable_only c P other mark (inl (inr h)) = absurd (out_of 97 122 c other.1 h.0 h.1)
printable_only c P other mark (inr (inl h)) = absurd (out_of 48 57 c other.0.0 h.0 h.1)
printable_only c P other mark (inr (inr h)) = mark h

-- a byte that is neither letter nor digit is printable where it is a mark
pub printable_mark : (c : ℕ) (result : Bool) → IsNotAsciiAlphanumeric c → result ≡ list_any (λ y. nat_eq y c) (codes " '()+,-./:=?") →
    IsTrue result ↔ InPrintable c
printable_mark c result other e =
    let mark = contains_is (codes " '()+,-./:=?") c result e in
    (λ yes. inr (inr (mark.0 yes)), printable_only c (IsTrue result) other mark.1)
