-- BMPString as `yasna` reads it (X.690, 8.23.8), of the texts that don't have U+FFFD.
use Rattle.std.proofs.Common.{◌≡◌, ◌∷◌, [], ℕ, List, Bool, true, not, map, Option, Some, None, String, refl, ap, ap₂, subst}
use Rattle.std.proofs.lemmas.Bool.{and_parts}
use Rattle.std.specs.Char.Utf16.{utf16_chars}
use Rattle.std.specs.Global.{Global}
use Rattle.std.specs.List.{list_all}
use Rattle.std.specs.Prelude.{nat_eq, unwrap_or}
use Rattle.yasna_base.specs.declared.mode.BERMode.{BERMode}
use Rattle.yasna_base.specs.declared.mode.BERMode.TheVariants.{Ber}
use Rattle.yasna_base.specs.declared.tag.Tag.{Tag}
use Rattle.yasna_base.specs.Coding.{IsCoding, Any}
use Rattle.yasna_base.specs.Exact.{written_fits}
use Rattle.yasna_base.specs.Grammar.{TaggedGrammar}
use Rattle.yasna_base.specs.Identifier.{AnyTag, end_tag, BeginsWithTag}
use Rattle.yasna_base.specs.Text.{units, IsBmp, IsPairedBmp, IsStringOf, bmp_octets, bmp_encoding, bmp_depth, characters}
use Rattle.yasna_base.specs.UnderTags.{IsExactUnderTags}
use Rattle.yasna_base.proofs.Bmp.{bmp_coding, bmp_keeps, paired_written}
use Rattle.yasna_base.proofs.Coding.{along}
use Rattle.yasna_base.proofs.Exact.{written_exact}
use Rattle.yasna_base.proofs.Texts.{string_text}
use Rattle.yasna_notation.specs.Bounded.{Within}
use Rattle.yasna_notation.specs.Canonical.{IsWrittenUnderTags}
use Rattle.yasna_notation.specs.Elements.{AreSingleElements, string_elements}
use Rattle.yasna_notation.specs.Laws.{octets_non_empty, string_begins}
use Rattle.yasna_notation.specs.WithinMode.{within_mode_coding}

-- b encodes a string with the tag t, as `yasna` reads it
abbrev pub EncodesBmp : TaggedGrammar (String Global)
EncodesBmp t m n v b = IsStringOf IsBmp t m n (characters v) b

-- any character but U+FFFD
abbrev pub is_known : ℕ → Bool
is_known c = not (nat_eq c 0xFFFD)

-- each character of the string is known
abbrev pub has_known : String Global → Bool
has_known v = list_all is_known (characters v)

-- what is read as a known character is that character
is_some : (c : ℕ) (o : Option ℕ) → is_known c ≡ true → c ≡ unwrap_or o 0xFFFD → Some c ≡ o
is_some c (Some d) known e = ap Some e
is_some c None known e = absurd (let f : is_known 0xFFFD ≡ true = subst (λ z. is_known z ≡ true) e known in cc)

all_some : (text : List ℕ) (os : List (Option ℕ)) → list_all is_known text ≡ true → text ≡ map (λ o. unwrap_or o 0xFFFD) os → map Some text ≡ os
all_some [] [] known e = refl
all_some [] (o ∷ os) known e = cc
all_some (c ∷ cs) [] known e = cc
all_some (c ∷ cs) (o ∷ os) known e =
    let x = and_parts (is_known c) (list_all is_known cs) known in
    let f : c ≡ unwrap_or o 0xFFFD = cc in
    let g : cs ≡ map (λ p. unwrap_or p 0xFFFD) os = cc in
    ap₂ (λ y ys. y ∷ ys) (is_some c o x.0 f) (all_some cs os x.1 g)

-- each surrogate of a text of known characters has its partner
paired : (m : BERMode) (text v : List ℕ) → list_all is_known text ≡ true → IsBmp m text v → IsPairedBmp m text v
paired m text v known x = record { even = x.even; spelled = all_some text (utf16_chars (units v)) known x.spelled }

pair_string : (t : Tag) (m : BERMode) (n : ℕ) (text b : List ℕ) → list_all is_known text ≡ true → IsStringOf IsBmp t m n text b → IsStringOf IsPairedBmp t m n text b
pair_string t m n text b known x = record { octets = x.octets; string = x.string; meaning = paired m text x.octets known x.meaning }

read_string : (t : Tag) (m : BERMode) (n : ℕ) (text b : List ℕ) → IsStringOf IsPairedBmp t m n text b → IsStringOf IsBmp t m n text b
read_string t m n text b x = record { octets = x.octets; string = x.string; meaning = bmp_keeps.spells m text x.octets x.meaning }

-- the laws of writing, under any tag
pub bmp_under : IsWrittenUnderTags (λ v w. characters v ≡ characters w) (λ t. Within has_known (EncodesBmp t)) (λ t m v. bmp_encoding t m (characters v))
    (λ m v. bmp_depth m (characters v)) (λ v. has_known v ≡ true)
bmp_under t not_end range =
    let x = paired_written t range in
    record {
      has = record {
        in_bytes = λ m v can short. x.has.in_bytes m (characters v) (string_text v) short;
        holds = λ m o n v h can level short.
            (read_string t o n (characters v) _ (x.has.holds m o n (characters v) h (string_text v) level short), can);
        only = λ m n v b h p.
            let y = x.has.only m n (characters v) b h (pair_string t m n (characters v) b p.1 p.0) in
            (y.0, p.1, y.2);
      };
      any = λ n v b p. let y = x.any n (characters v) b (pair_string t Ber n (characters v) b p.1 p.0) in (p.1, y.1);
      same = λ m v w e. (
        ap (λ z. bmp_encoding t m z) e,
        λ can. subst (λ z. list_all is_known z ≡ true) e can,
        ap (λ z. bmp_depth m z) e,
      );
    }

-- reading, as `yasna` does it
pub encodes_bmp_coding : (t : Tag) → (t ≡ end_tag → ⊥) → IsCoding (λ v w. characters v ≡ characters w) (EncodesBmp t) (Any (IsStringOf IsBmp t))
encodes_bmp_coding t not_end = along characters (bmp_coding t not_end)

pub bmp_laws : IsExactUnderTags (λ v w. characters v ≡ characters w) (λ t. Within has_known (EncodesBmp t)) (λ t. Any (Within has_known (EncodesBmp t)))
    (λ t m v. bmp_encoding t m (characters v)) (written_fits (λ m v. bmp_depth m (characters v)) (λ v. has_known v ≡ true)) (λ v. has_known v ≡ true)
bmp_laws t not_end range = (within_mode_coding (λ m. has_known) (encodes_bmp_coding t not_end), written_exact (bmp_under t not_end range))

pub bmp_begins : (t : Tag) (m : BERMode) (n : ℕ) (b : List ℕ) → Any (Within has_known (EncodesBmp t)) m n b → BeginsWithTag t b
bmp_begins t m n b p = string_begins IsBmp t m n b (characters p.0, p.1.0)

pub bmp_elements : AnyTag (λ t. AreSingleElements (Any (Within has_known (EncodesBmp t))))
bmp_elements t other range m n b p = string_elements IsBmp t other range m n b (characters p.0, p.1.0)

pub bmp_non_empty : (t : Tag) (m : BERMode) (text : List ℕ) → bmp_encoding t m text ≡ [] → ⊥
bmp_non_empty t m text = octets_non_empty t m (bmp_octets text)
