-- The lines that list elements (X.690, 8.1).
use Rattle.std.specs.Prelude.{◌≡◌, ◌⊎◌, ℕ, zero, suc, ◌+◌, ◌^◌, ◌<◌, Bool, true, List, [], ◌∷◌, ◌++◌, length, Option, Some, None}
use Rattle.yasna_base.specs.Bits.{bits_tag}
use Rattle.yasna_base.specs.Digits.{IsBytes}
use Rattle.yasna_base.specs.Element.{Definite, Indefinite}
use Rattle.yasna_base.specs.Grammar.{max_depth}
use Rattle.yasna_base.specs.Identifier.{end_tag}
use Rattle.yasna_base.specs.Octets.{octets_tag}
use Rattle.yasna_base.specs.declared.mode.BERMode.{BERMode}
use Rattle.yasna_base.specs.declared.tag.PCBit.{PCBit}
use Rattle.yasna_base.specs.declared.tag.PCBit.TheVariants.{Primitive, Constructed}
use Rattle.yasna_base.specs.declared.tag.Tag.{Tag}

-- an element's offset, the octets of its header and the count of those of its contents, its depth, and its contents, with all bytes that are left if its
-- length is indefinite
pub record Line : Type 0 where
  pub offset : ℕ
  pub header : ℕ
  pub size : Option ℕ
  pub depth : ℕ
  pub in_string : Bool
  pub tag : Tag
  pub bit : PCBit
  pub contents : List ℕ

-- what holds before these lines were visited, of those visited until then, holds after them, of all of these
abbrev pub VisitsLines : (List Line → Type 0) → (List Line → Type 0) → List Line → Type 0
VisitsLines old new ls = (before : List Line) → old before → new (before ++ ls)

-- a line shows the contents c: alone, or before two zeros if the length is indefinite
abbrev pub ShowsContents : Option ℕ → List ℕ → List ℕ → Type 0
ShowsContents None c shown = (after : List ℕ) × (shown ≡ c ++ (0 ∷ 0 ∷ after))
ShowsContents (Some size) c shown = shown ≡ c

-- b is an element with a header of h octets and the contents c, and len is its length where that is definite
pub data IsHeaded (m : BERMode) (t : Tag) (bit : PCBit) (c b : List ℕ) (h : ℕ) (len : Option ℕ) : Type 0 where
  with_length : Definite m t bit c b → h + length c ≡ length b → len ≡ Some (length c) → IsHeaded m t bit c b h len
  with_zeros : Indefinite m t bit c b → h + length c + 2 ≡ length b → len ≡ None → IsHeaded m t bit c b h len

-- lines list the elements in the contents c of a string, which begin at o: in a BIT STRING after a count of no unused bits
pub data InString (Inner : ℕ → List ℕ → List Line → Type 0) (t : Tag) (o : ℕ) (c : List ℕ) (ls : List Line) : Type 0 where
  octets : t ≡ octets_tag → Inner o c ls → InString Inner t o c ls
  bits : (d : List ℕ) → t ≡ bits_tag → c ≡ 0 ∷ d → Inner (o + 1) d ls → InString Inner t o c ls

-- lines list the elements in contents: those of a constructed element, and none or those in a string
abbrev pub Below : (Bool → ℕ → List ℕ → List Line → Type 0) → Bool → Tag → PCBit → ℕ → List ℕ → List Line → Type 0
Below Inner w t Constructed o c ls = Inner w o c ls
Below Inner w t Primitive o c ls = (ls ≡ []) ⊎ InString (Inner true) t o c ls

-- lines list the element b, which begins at o and has n levels left: its own line, and the lines of the elements in it
pub record ListsElement (Inner : Bool → ℕ → List ℕ → List Line → Type 0) (m : BERMode) (n : ℕ) (w : Bool) (o : ℕ) (b : List ℕ) (ls : List Line) : Type 0 where
  pub line : Line
  pub below : List Line
  pub reported : ls ≡ line ∷ below
  pub offset : line.offset ≡ o
  pub depth : line.depth + n ≡ max_depth
  pub in_string : line.in_string ≡ w
  pub not_end : line.tag ≡ end_tag → ⊥
  pub in_range : line.tag.tag_number < 2 ^ 64
  pub contents : List ℕ
  pub in_bytes : IsBytes contents
  pub header : IsHeaded m line.tag line.bit contents b line.header line.size
  pub shown : ShowsContents line.size contents line.contents
  pub inner : Below Inner w line.tag line.bit (o + line.header) contents below

-- lines list a prefix of s by Before, and after it a last piece by One
pub record Continues (Before One : ℕ → List ℕ → List Line → Type 0) (o : ℕ) (s : List ℕ) (ls : List Line) : Type 0 where
  pub prefix : List ℕ
  pub last : List ℕ
  pub lines : List Line
  pub more : List Line
  pub before : Before o prefix lines
  pub one : One (o + length prefix) last more
  pub joined : s ≡ prefix ++ last
  pub reported : ls ≡ lines ++ more

-- lines list k pieces of s one after the other, which begin at o, each by One
unfoldable pub ListsCount : (One : ℕ → List ℕ → List Line → Type 0) → ℕ → ℕ → List ℕ → List Line → Type 0
ListsCount One zero o s ls = (s ≡ []) × (ls ≡ [])
ListsCount One (suc k) o s ls = Continues (ListsCount One k) One o s ls

-- lines list pieces of s, however many, as `ListsCount`
abbrev pub ListsEach : (One : ℕ → List ℕ → List Line → Type 0) → ℕ → List ℕ → List Line → Type 0
ListsEach One o s ls = (k : ℕ) × ListsCount One k o s ls

-- within n levels, lines list the element b, which begins at o
unfoldable pub ListsOne : ℕ → BERMode → Bool → ℕ → List ℕ → List Line → Type 0
ListsOne zero m w o b ls = ⊥
ListsOne (suc n) m w o b ls = ListsElement (λ v. ListsEach (ListsOne n m v)) m (suc n) w o b ls

-- within n levels, lines list the elements that s is, one after the other, of which the first begins at o
abbrev pub ListsBytes : ℕ → BERMode → Bool → ℕ → List ℕ → List Line → Type 0
ListsBytes n m w o s ls = ListsEach (ListsOne n m w) o s ls
