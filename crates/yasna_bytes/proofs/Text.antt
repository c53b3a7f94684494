-- Strings whose octets say a value, and texts.
use Rattle.std.proofs.Common.{◌⊎◌, inl, inr, ℕ, zero, suc, ◌<◌, ◌≤◌, List, [], ◌∷◌, length, true, refl, sym, ap, subst, ◌∙◌, length-append, arith, map}
use Rattle.std.proofs.Common.{get_or, take, drop, take_all, ◌+◌, ◌-◌, ◌*◌, ◌≡◌, unwrap_or, String, string_bytes}
use Rattle.std.proofs.lemmas.Bool.{lt-leb, le-leb, lt-ltb, le-ltb}
use Rattle.std.proofs.lemmas.Str.{chars_from_encodes, IsUtf8-string_bytes, utf16_chars_lone, utf16_chars_pair}
use Rattle.std.specs.Global.{Global}
use Rattle.std.specs.List.{concat, AllByRecursion}
use Rattle.std.specs.Char.Utf16.{utf16_lossy_chars, lone_unit_char, surrogate_pair_char}
use Rattle.std.specs.Str.{chars, encode_utf8_all, IsUtf8}
use Rattle.std.specs.Prelude.{Option, Some, None, IsSome, Result, Ok, Err, MatchResult}
use Rattle.std.specs.Option.{SomeIff}
use Rattle.yasna_base.specs.declared.error.ASN1ErrorKind.{ASN1ErrorKind}
use Rattle.yasna_base.specs.declared.error.ASN1ErrorKind.TheVariants.{OutOfMemory, Invalid}
use Rattle.yasna_base.specs.declared.mode.BERMode.{BERMode}
use Rattle.yasna_base.specs.declared.tag.PCBit.TheVariants.{Primitive, Constructed}
use Rattle.yasna_base.specs.declared.tag.Tag.{Tag}
use Rattle.yasna_base.specs.Segmented.{segment_mode, whole, in_segments}
use Rattle.yasna_base.specs.Identifier.{BeginsWithTag}
use Rattle.yasna_base.specs.Octets.{octets_segmentation, octets_tag, IsOctets, IsDeepOctets}
use Rattle.yasna_base.specs.Pieces.{Each}
use Rattle.yasna_base.specs.Text.{InUtf8, InNumeric, InPrintable, InIa5, InVisible, IsUtf8In, IsStringOf, characters, units}
use Rattle.yasna_base.proofs.Segmented.{segmented_zero, segmented_into, segmented_begins, segmented_exact, deep_not_segmented}
use Rattle.yasna_base.proofs.Identifier.{begins_some, begins_with}
use Rattle.yasna_base.proofs.Octets.{octets_once}
use Rattle.yasna_base.proofs.Texts.{utf8_means, utf8_only, class_means, class_only, class_utf8, numeric_below, printable_below, ia5_below, visible_below}
use Rattle.yasna_bytes.specs.declared.bytes.header.Rejection.{Rejection}
use Rattle.yasna_bytes.specs.declared.bytes.text.Class.{Class}
use Rattle.yasna_bytes.specs.declared.bytes.text.Class.TheVariants.{Utf8, Numeric, Printable, Ia5, Visible, Bmp}
use Rattle.yasna_bytes.specs.Contents.{MayAllocate}
use Rattle.yasna_bytes.specs.Prefix.{Takes, HasPrefix}
use Rattle.yasna_bytes.specs.Rejection.{BlamesBytes, Rejects, IsElsewhere}
use Rattle.yasna_bytes.specs.Text.{Judges, SpellsText, MayHold, Utf8At}
use Rattle.yasna_bytes.proofs.Contents.{element_may_allocate}
use Rattle.yasna_bytes.proofs.Rejection.{blames_not_depth, blames_not_memory, begins_not_elsewhere, rejects_less}

-- no segments but none at all make up nothing
no_pieces : (n : ℕ) (m : BERMode) (vs bs : List (List ℕ)) → Each (IsOctets octets_tag m n) vs bs → concat bs ≡ [] → concat vs ≡ []
no_pieces n m [] [] p e = refl
no_pieces n m [] (b ∷ bs) p e = absurd p
no_pieces n m (v ∷ vs) [] p e = absurd p
no_pieces n m (v ∷ vs) (b ∷ bs) p e =
    let i = begins_some octets_tag b (segmented_begins octets_segmentation n m octets_tag v b p.0) in
    absurd (omega (arith, ap length e, length-append b (concat bs)))

-- a string with octets has contents
octets_may_allocate : (n : ℕ) (m : BERMode) (t : Tag) (s v r : List ℕ) → Takes (IsOctets t m n) s v r → (v ≡ [] → ⊥) → MayAllocate n t s
octets_may_allocate zero m t s v r x h = absurd (segmented_zero octets_segmentation m t v x.prefix x.member)
octets_may_allocate (suc n) m t s v r x h = elim (segmented_into octets_segmentation n m t v x.prefix x.member) [
  | whole c y w a ↦ element_may_allocate (suc n) m t Primitive s c x.prefix r (omega arith) (λ e. h (w ∙ e)) y x.joined
  | in_segments g c vs y p j a ↦
      element_may_allocate (suc n) m t Constructed s c x.prefix r (omega arith) (λ e. h (j ∙ no_pieces n (segment_mode m) vs p.pieces p.each (sym p.joined ∙ e))) y
      x.joined
]

octets_begin : (n : ℕ) (m : BERMode) (t : Tag) (s v r : List ℕ) → Takes (IsOctets t m n) s v r → BeginsWithTag t s
octets_begin n m t s v r x =
    subst (λ z. BeginsWithTag t z) (sym x.joined) (begins_with t x.prefix r (segmented_begins octets_segmentation n m t v x.prefix x.member))

-- octets were read that say nothing, or for whose value there is no memory
pub judged_rejected : {A : Type 0} (K : BERMode → A → List ℕ → Type 0) (n : ℕ) (m : BERMode) (t : Tag) (s o r : List ℕ) (e : Rejection) →
    Takes (IsOctets t m n) s o r → ((e.kind ≡ OutOfMemory) × (o ≡ [] → ⊥)) ⊎ (BlamesBytes e.kind × ((v : A) → K m v o → ⊥)) → e.consumed ≡ true →
    Rejects (HasPrefix (IsStringOf K t m n) s) (IsDeepOctets t m n s) (MayAllocate n t s) (IsElsewhere t s) e
judged_rejected K n m t s o r e x (inl h) f = record {
  none = λ q. absurd (q h.0);
  consumed = (λ g. absurd (cc), λ g. absurd (begins_not_elsewhere (octets_begin n m t s o r x) g));
  too_deep = λ g. let i = h.0 in absurd (cc);
  deep = λ q. absurd (q h.0);
  memory = λ _. octets_may_allocate n m t s o r x h.1;
}
judged_rejected K n m t s o r e x (inr h) f = record {
  none = λ _ w.
      let y = w.2.member in
      let same = (segmented_exact octets_once n n m t o y.octets x.prefix w.2.prefix r w.1 x.member y.string (sym x.joined ∙ w.2.joined)).0 in
      h.1 w.0 (subst (K m w.0) (sym same) y.meaning);
  consumed = (λ g. absurd (cc), λ g. absurd (begins_not_elsewhere (octets_begin n m t s o r x) g));
  too_deep = λ g. absurd (blames_not_depth h.0 g);
  deep = λ _ d. absurd (deep_not_segmented octets_once n m t s d o x.prefix r x.member x.joined);
  memory = λ g. absurd (blames_not_memory h.0 g);
}

-- where no octet string is there, none is that says a value
pub octets_rejected : {A : Type 0} (K : BERMode → A → List ℕ → Type 0) (n : ℕ) (m : BERMode) (t : Tag) (s : List ℕ) (D M : Type 0) (e : Rejection) →
    Rejects (HasPrefix (IsOctets t m n) s) D M (IsElsewhere t s) e → Rejects (HasPrefix (IsStringOf K t m n) s) D M (IsElsewhere t s) e
octets_rejected K n m t s D M e x = rejects_less (HasPrefix (IsOctets t m n) s) (HasPrefix (IsStringOf K t m n) s) D M t s e (λ w.
    let y = w.2 in
    (y.member.octets, w.1, record { prefix = y.prefix; joined = y.joined; member = y.member.string })) x

ascii_spells : (In : ℕ → Type 0) → ((c : ℕ) → In c → c < 128) → (m : BERMode) (o : List ℕ) → AllByRecursion In o → IsUtf8In In m (chars o) o
ascii_spells In below m o h = subst (λ z. IsUtf8In In m z o) (sym (class_utf8 In below o h).1) (class_means In below m o h)

-- octets of a class that are UTF-8 spell their characters
pub class_spells : (k : Class) (m : BERMode) (o : List ℕ) → (k ≡ Bmp → ⊥) → MayHold k o → IsUtf8 o → SpellsText k m (chars o) o
class_spells Utf8 m o h i u = utf8_means m o u
class_spells Numeric m o h i u = ascii_spells InNumeric numeric_below m o i
class_spells Printable m o h i u = ascii_spells InPrintable printable_below m o i
class_spells Ia5 m o h i u = ascii_spells InIa5 ia5_below m o i
class_spells Visible m o h i u = ascii_spells InVisible visible_below m o i
class_spells Bmp m o h i u = absurd (h refl)

-- octets spell a text of a class only where the class may hold them
pub class_holds : (k : Class) (m : BERMode) (text o : List ℕ) → SpellsText k m text o → MayHold k o
class_holds Utf8 m text o x = tt
class_holds Numeric m text o x = (class_only InNumeric numeric_below m text o x).1
class_holds Printable m text o x = (class_only InPrintable printable_below m text o x).1
class_holds Ia5 m text o x = (class_only InIa5 ia5_below m text o x).1
class_holds Visible m text o x = (class_only InVisible visible_below m text o x).1
class_holds Bmp m text o x = x.even

-- octets that spell a text of a class other than BMP are UTF-8
pub class_in_utf8 : (k : Class) (m : BERMode) (text o : List ℕ) → (k ≡ Bmp → ⊥) → SpellsText k m text o → IsUtf8 o
class_in_utf8 Utf8 m text o h x = (utf8_only InUtf8 m text o x).0
class_in_utf8 Numeric m text o h x = (utf8_only InNumeric m text o x).0
class_in_utf8 Printable m text o h x = (utf8_only InPrintable m text o x).0
class_in_utf8 Ia5 m text o h x = (utf8_only InIa5 m text o x).0
class_in_utf8 Visible m text o h x = (utf8_only InVisible m text o x).0
class_in_utf8 Bmp m text o h x = absurd (h refl)

-- octets that the class may not hold spell no text
pub class_rejected : (k : Class) (m : BERMode) (o : List ℕ) → (MayHold k o → ⊥) → Judges (SpellsText k m) characters o (Err Invalid)
class_rejected k m o h = inr (tt, λ v x. h (class_holds k m v o x))

-- what a string spells whose bytes the octets are
pub utf8_judged : (k : Class) (m : BERMode) (o : List ℕ) (r : Result (String Global) ASN1ErrorKind) → (k ≡ Bmp → ⊥) → MayHold k o → Utf8At o r →
    Judges (SpellsText k m) characters o r
utf8_judged k m o (Ok text) h i e =
    let u : IsUtf8 o = subst IsUtf8 e (IsUtf8-string_bytes text) in
    subst (λ b. SpellsText k m (chars b) o) (sym e) (class_spells k m o h i u)
utf8_judged k m o (Err f) h i (inl x) = inl x
utf8_judged k m o (Err f) h i (inr x) = inr (x.0, λ v y. x.1 (class_in_utf8 k m v o h y))

-- the characters of a string that is made of some
pub made_of : (s : String Global) (text : List ℕ) → string_bytes s ≡ encode_utf8_all text → text ≡ characters s
made_of s text e = chars_from_encodes text (string_bytes s) (IsUtf8-string_bytes s) (sym e)

-- the units are a pair of surrogates
abbrev ArePair : ℕ → ℕ → Type 0
ArePair u v = (0xD800 ≤ u) × (u < 0xDC00) × (0xDC00 ≤ v) × (v < 0xE000)

-- a unit that has no partner, and is no surrogate, is its own character; a surrogate represents U+FFFD
spelled_by_itself : (u : ℕ) (us : List ℕ) → (ArePair u (get_or us 0 0) → ⊥) →
    utf16_lossy_chars (u ∷ us) ≡ unwrap_or (lone_unit_char u) 0xFFFD ∷ utf16_lossy_chars us
spelled_by_itself u us unambiguous = ap (λ cs. map (λ o. unwrap_or o 0xFFFD) cs) (utf16_chars_lone u us unambiguous)

pub spelled_itself : (u : ℕ) (us : List ℕ) → (u < 0xD800) ⊎ (0xE000 ≤ u) → utf16_lossy_chars (u ∷ us) ≡ u ∷ utf16_lossy_chars us
spelled_itself u us (inl below) = spelled_by_itself u us (λ p. omega (arith, below, p.0)) ∙ rw (lt-leb 0xD800 u below)
spelled_itself u us (inr from) = spelled_by_itself u us (λ p. omega (arith, from, p.1)) ∙ rw (le-leb 0xD800 u (omega (arith, from)), le-ltb u 0xE000 from)

pub spelled_unpaired : (u : ℕ) (us : List ℕ) → 0xD800 ≤ u → u < 0xE000 → (ArePair u (get_or us 0 0) → ⊥) →
    utf16_lossy_chars (u ∷ us) ≡ 0xFFFD ∷ utf16_lossy_chars us
spelled_unpaired u us from below unambiguous = spelled_by_itself u us unambiguous ∙ rw (le-leb 0xD800 u from, lt-ltb u 0xE000 below)

pub spelled_pair : (u v : ℕ) (us : List ℕ) → ArePair u v → utf16_lossy_chars (u ∷ v ∷ us) ≡ surrogate_pair_char u v ∷ utf16_lossy_chars us
spelled_pair u v us pair = ap (λ cs. map (λ o. unwrap_or o 0xFFFD) cs) (utf16_chars_pair u v us pair)

-- the first of units, and those after it
pub units_first : (o : List ℕ) → 2 ≤ length o → units o ≡ (256 * get_or o 0 0 + get_or o 1 0) ∷ units (take (length o - 2) (drop 2 o))
units_first [] l = absurd (omega (arith, l))
units_first (x ∷ []) l = absurd (omega (arith, l))
units_first (x ∷ y ∷ o) l = ap (λ z. (256 * x + y) ∷ units z) (sym (take_all (length (x ∷ y ∷ o) - 2) o (omega arith)))

pub units_none : (o : List ℕ) → length o < 2 → units o ≡ []
units_none [] l = refl
units_none (x ∷ []) l = refl
units_none (x ∷ y ∷ o) l = absurd (omega (arith, l))

-- a value that is there
pub value_or : (r : Option ℕ) (P : Type 0) (v d : ℕ) → SomeIff r P v → IsSome r → unwrap_or r d ≡ v
value_or None P v d s i = cc
value_or (Some x) P v d s i = s.1

-- what units of UTF-16 spell
pub bmp_judged : (k : Class) (m : BERMode) (o : List ℕ) (r : Result (String Global) ASN1ErrorKind) → k ≡ Bmp → MayHold k o →
    MatchResult r (λ text. characters text ≡ utf16_lossy_chars (units o)) (λ e. (e ≡ OutOfMemory) × (o ≡ [] → ⊥)) → Judges (SpellsText k m) characters o r
bmp_judged Utf8 m o r e h x = absurd (cc)
bmp_judged Numeric m o r e h x = absurd (cc)
bmp_judged Printable m o r e h x = absurd (cc)
bmp_judged Ia5 m o r e h x = absurd (cc)
bmp_judged Visible m o r e h x = absurd (cc)
bmp_judged Bmp m o (Ok v) e h x = record { even = h; spelled = x }
bmp_judged Bmp m o (Err f) e h x = inl x
