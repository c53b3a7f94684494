-- Elements that lines list are well formed, and well-formed elements are raw elements.
use Rattle.std.proofs.Common.{◌≡◌, ◌+◌, ◌≤◌, ℕ, zero, suc, Bool, List, [], ◌∷◌, ◌++◌, length, refl, sym, subst, rules}
use Rattle.yasna_base.specs.declared.mode.BERMode.{BERMode}
use Rattle.yasna_base.specs.declared.mode.BERMode.TheVariants.{Ber, Der, Cer}
use Rattle.yasna_base.specs.declared.tag.PCBit.{PCBit}
use Rattle.yasna_base.specs.declared.tag.PCBit.TheVariants.{Primitive, Constructed}
use Rattle.yasna_base.specs.declared.tag.Tag.{Tag}
use Rattle.yasna_base.specs.Element.{TakesDefinite, TakesIndefinite, end_of_contents}
use Rattle.yasna_base.specs.Identifier.{StartsElement}
use Rattle.yasna_base.specs.Pieces.{Pieces}
use Rattle.yasna_base.specs.Raw.{RawValue, DescendsInto, IsJoining, RawFramed, RawOver, IsRaw}
use Rattle.yasna_base.specs.Raw.{with_length as raw_with_length, with_zeros as raw_with_zeros}
use Rattle.yasna_base.proofs.Digits.{bytes_append}
use Rattle.yasna_base.proofs.Pieces.{no_pieces, one_piece, pieces_append, pieces_wider}
use Rattle.yasna_base.proofs.Raw.{raw_zero, raw_of, raw_into, raw_starts}
use Rattle.asn1show_walk.specs.Listing.{Line, IsHeaded, with_length, with_zeros, Below, ListsElement, ListsCount, ListsOne, ListsBytes}
use Rattle.asn1show_walk.specs.WellFormed.{WellFramed, WellFormedOver, IsWellFormed, AreElements}
use Rattle.asn1show_walk.specs.WellFormed.{with_length as formed_with_length, with_zeros as formed_with_zeros}

-- no level holds an element
pub formed_zero : (m : BERMode) (v : RawValue) (b : List ℕ) → IsWellFormed zero m v b → ⊥
unfolding IsWellFormed
formed_zero m v b x = x

-- an element over the levels below is well formed with one more level
pub formed_of : (n : ℕ) (m : BERMode) (v : RawValue) (b : List ℕ) → WellFormedOver (IsWellFormed n m) m v b → IsWellFormed (suc n) m v b
unfolding IsWellFormed
formed_of n m v b x = x

-- a well-formed element with one more level is over the levels below
pub formed_into : (n : ℕ) (m : BERMode) (v : RawValue) (b : List ℕ) → IsWellFormed (suc n) m v b → WellFormedOver (IsWellFormed n m) m v b
unfolding IsWellFormed
formed_into n m v b x = x

-- pieces by a narrower relation are pieces
joining_wider : {R S : RawValue → List ℕ → Type 0} → ((v : RawValue) (b : List ℕ) → R v b → S v b) → (c : List ℕ) → IsJoining R c → IsJoining S c
joining_wider f c x = (x.0, pieces_wider f x.0 c x.1)

-- only constructed elements are descended into
descends_constructed : (m : BERMode) (bit : PCBit) → DescendsInto m bit → bit ≡ Constructed
descends_constructed m Constructed l = refl
descends_constructed Ber Primitive l = absurd l
descends_constructed Der Primitive l = absurd l
descends_constructed Cer Primitive l = absurd l

framed_raw : {R S : RawValue → List ℕ → Type 0} (m : BERMode) → ((v : RawValue) (b : List ℕ) → R v b → S v b) → (v : RawValue) (b : List ℕ) →
    WellFramed R m v b → RawFramed S m v b
framed_raw m f v b (formed_with_length d j) = raw_with_length d (λ l. joining_wider f v.payload (j (descends_constructed m v.bit l)))
framed_raw m f v b (formed_with_zeros c d j e) = raw_with_zeros c d (joining_wider f c j) e

over_raw : {R S : RawValue → List ℕ → Type 0} (m : BERMode) → ((v : RawValue) (b : List ℕ) → R v b → S v b) → (v : RawValue) (b : List ℕ) →
    WellFormedOver R m v b → RawOver S m v b
over_raw m f v b x = record { not_end = x.not_end; in_range = x.in_range; in_bytes = x.in_bytes; framed = framed_raw m f v b x.framed }

-- a well-formed element is a raw element
pub formed_raw : (n : ℕ) (m : BERMode) (v : RawValue) (b : List ℕ) → IsWellFormed n m v b → IsRaw m n v b
formed_raw zero m v b x = absurd (formed_zero m v b x)
formed_raw (suc n) m v b x = raw_of n m v b (over_raw m (formed_raw n m) v b (formed_into n m v b x))

-- a well-formed element begins with an identifier, which isn't that of the end of contents
pub formed_starts : (n : ℕ) (m : BERMode) (v : RawValue) (b : List ℕ) → IsWellFormed n m v b → StartsElement b
formed_starts n m v b x = raw_starts n m v b (formed_raw n m v b x)

count_formed : (One : ℕ → List ℕ → List Line → Type 0) (R : RawValue → List ℕ → Type 0) →
    ((o : ℕ) (b : List ℕ) (ls : List Line) → One o b ls → (v : RawValue) × R v b) → (k o : ℕ) (s : List ℕ) (ls : List Line) →
    ListsCount One k o s ls → IsJoining R s
unfolding ListsCount
count_formed One R f zero o s ls x = ([], subst (λ z. Pieces R [] z) (sym (x.0)) no_pieces)
count_formed One R f (suc k) o s ls x =
    let p = count_formed One R f k o x.prefix x.lines x.before in
    let q = f (o + length x.prefix) x.last x.more x.one in
    let vs = p.0 ++ (q.0 ∷ []) in
    (vs, subst (λ z. Pieces R vs z) (sym x.joined) (pieces_append p.0 (q.0 ∷ []) x.prefix x.last p.1 (one_piece q.0 x.last q.1)))

-- what lines list in a constructed element are its contents
within_joined : (R : RawValue → List ℕ → Type 0) (I : Bool → ℕ → List ℕ → List Line → Type 0) →
    ((v : Bool) (o : ℕ) (c : List ℕ) (ls : List Line) → I v o c ls → IsJoining R c) → (w : Bool) (t : Tag) (bit : PCBit) (o : ℕ)
    (c : List ℕ) (ls : List Line) → Below I w t bit o c ls → bit ≡ Constructed → IsJoining R c
within_joined R I f w t bit o c ls x e = f w o c ls (subst (λ p. Below I w t p o c ls) e x)

-- only constructed elements have an indefinite length
pub takes_constructed : (m : BERMode) (bit : PCBit) → TakesIndefinite m bit → bit ≡ Constructed
takes_constructed m Constructed l = refl
takes_constructed Ber Primitive l = absurd l
takes_constructed Der Primitive l = absurd l
takes_constructed Cer Primitive l = absurd l

element_formed : (R : RawValue → List ℕ → Type 0) (I : Bool → ℕ → List ℕ → List Line → Type 0) →
    ((v : Bool) (o : ℕ) (c : List ℕ) (ls : List Line) → I v o c ls → IsJoining R c) → (m : BERMode) (n : ℕ) (w : Bool) (o : ℕ) (b : List ℕ) (ls : List Line) →
    (x : ListsElement I m n w o b ls) → IsHeaded m x.line.tag x.line.bit x.contents b x.line.header x.line.size → (v : RawValue) × WellFormedOver R m v b
element_formed R I f m n w o b ls x (with_length d h e) = (
  record { tag = x.line.tag; bit = x.line.bit; payload = x.contents },
  record {
    not_end = x.not_end;
    in_range = x.in_range;
    in_bytes = x.in_bytes;
    framed = formed_with_length d (within_joined R I f w x.line.tag x.line.bit (o + x.line.header) x.contents x.below x.inner);
  },
)
element_formed R I f m n w o b ls x (with_zeros d h e) = (
  record { tag = x.line.tag; bit = x.line.bit; payload = x.contents ++ end_of_contents },
  record {
    not_end = x.not_end;
    in_range = x.in_range;
    in_bytes = bytes_append x.contents end_of_contents x.in_bytes (search rules);
    framed = formed_with_zeros x.contents d (within_joined R I f w x.line.tag x.line.bit (o + x.line.header) x.contents x.below x.inner
        (takes_constructed m x.line.bit d.taken)) refl;
  },
)

-- an element that lines list is well formed
pub one_formed : (n : ℕ) (m : BERMode) (w : Bool) (o : ℕ) (b : List ℕ) (ls : List Line) → ListsOne n m w o b ls → (v : RawValue) × IsWellFormed n m v b
unfolding ListsOne
one_formed zero m w o b ls x = absurd x
one_formed (suc n) m w o b ls x =
    let y = element_formed (IsWellFormed n m) (λ v. ListsBytes n m v)
    (λ v p c ks z. count_formed (ListsOne n m v) (IsWellFormed n m) (one_formed n m v) z.0 p c ks z.1) m (suc n) w o b ls x x.header in
    (y.0, formed_of n m y.0 b y.1)

-- elements that lines list are well-formed elements, one after the other
pub lists_formed : (n : ℕ) (m : BERMode) (w : Bool) (o : ℕ) (s : List ℕ) (ls : List Line) → ListsBytes n m w o s ls → IsJoining (IsWellFormed n m) s
lists_formed n m w o s ls x = count_formed (ListsOne n m w) (IsWellFormed n m) (one_formed n m w) x.0 o s ls x.1

-- well-formed elements, one after the other, are raw elements
pub joining_raw : (n : ℕ) (m : BERMode) (s : List ℕ) → IsJoining (IsWellFormed n m) s → IsJoining (IsRaw m n) s
joining_raw n m s x = joining_wider (formed_raw n m) s x

-- in DER and CER a raw element is descended into wherever it is constructed
descends_where_constructed : (m : BERMode) (bit : PCBit) → (m ≡ Ber → ⊥) → TakesDefinite m bit → bit ≡ Constructed → DescendsInto m bit
descends_where_constructed Ber bit n d e = absurd (n refl)
descends_where_constructed Der Constructed n d e = tt
descends_where_constructed Der Primitive n d e = absurd (cc)
descends_where_constructed Cer Constructed n d e = absurd d
descends_where_constructed Cer Primitive n d e = absurd (cc)

framed_formed : {R S : RawValue → List ℕ → Type 0} (m : BERMode) → (m ≡ Ber → ⊥) → ((v : RawValue) (b : List ℕ) → R v b → S v b) → (v : RawValue)
    (b : List ℕ) → RawFramed R m v b → WellFramed S m v b
framed_formed m n f v b (raw_with_length d j) =
    formed_with_length d (λ e. joining_wider f v.payload (j (descends_where_constructed m v.bit n d.taken e)))
framed_formed m n f v b (raw_with_zeros c d j e) = formed_with_zeros c d (joining_wider f c j) e

over_formed : {R S : RawValue → List ℕ → Type 0} (m : BERMode) → (m ≡ Ber → ⊥) → ((v : RawValue) (b : List ℕ) → R v b → S v b) → (v : RawValue)
    (b : List ℕ) → RawOver R m v b → WellFormedOver S m v b
over_formed m n f v b x = record { not_end = x.not_end; in_range = x.in_range; in_bytes = x.in_bytes; framed = framed_formed m n f v b x.framed }

-- a raw element in DER and CER is well formed
raw_formed : (n : ℕ) (m : BERMode) → (m ≡ Ber → ⊥) → (v : RawValue) (b : List ℕ) → IsRaw m n v b → IsWellFormed n m v b
raw_formed zero m e v b x = absurd (raw_zero m v b x)
raw_formed (suc n) m e v b x = formed_of n m v b (over_formed m e (raw_formed n m e) v b (raw_into n m v b x))

-- where there are no well-formed elements in DER and CER, there are no raw ones
pub none_raw : (n : ℕ) (m : BERMode) (s : List ℕ) → (AreElements n m s → ⊥) → (m ≡ Ber → ⊥) → IsJoining (IsRaw m n) s → 1 ≤ length s → ⊥
none_raw n m s none e x l = none (record { joining = joining_wider (raw_formed n m e) s x; some = l })
