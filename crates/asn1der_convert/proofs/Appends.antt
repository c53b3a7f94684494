-- Elements that are appended to an output.
use Rattle.std.proofs.Common.{◌≡◌, ℕ, zero, suc, ◌+◌, ◌-◌, ◌*◌, ◌%◌, ◌^◌, ◌<◌, ◌≤◌, ◌⊎◌, inl, inr, Bool, List, [], ◌∷◌, ◌++◌, length, map, take, drop, refl, sym, ap, ap₂, ◌∙◌, subst, append_assoc, length-append, arith}
use Rattle.std.specs.List.{AllByRecursion, concat}
use Rattle.std.proofs.lemmas.List.{take_at, drop_at, take-append-le, drop-append-le, length-take, length-drop}
use Rattle.std.proofs.lemmas.Slice.{between_to_end}
use borrow.Rule.Slice.PartMut.{put_mid}
use Rattle.std.specs.Int.{w64, to_be_bytes}
use Rattle.yasna_base.specs.BigInteger.{trim_leading}
use Rattle.yasna_base.specs.Bits.{BitString, IsBits, bits_tag, padded, bits_contents}
use Rattle.yasna_base.specs.Boolean.{IsBoolean, boolean_tag, boolean_byte}
use Rattle.yasna_base.specs.Canonical.{canonical_element, definite_element}
use Rattle.yasna_base.specs.Digits.{IsBytes}
use Rattle.yasna_base.specs.Element.{Definite, Primitively}
use Rattle.yasna_base.specs.Header.{ContentsEnd, definite_end, OpensAt}
use Rattle.yasna_base.specs.Identifier.{identifier, class_number, end_tag}
use Rattle.yasna_base.specs.Length.{shortest_length}
use Rattle.yasna_base.specs.Octets.{IsOctets}
use Rattle.yasna_base.specs.Order.{octets_cmp, in_order}
use Rattle.yasna_base.specs.Pieces.{Each}
use Rattle.yasna_base.specs.Raw.{with_length}
use Rattle.yasna_base.specs.Set.{SetPart, parts_bytes, set_tag}
use Rattle.yasna_base.specs.declared.mode.BERMode.{BERMode}
use Rattle.yasna_base.specs.declared.mode.BERMode.TheVariants.{Ber, Der}
use Rattle.yasna_base.specs.declared.tag.PCBit.{PCBit}
use Rattle.yasna_base.specs.declared.tag.PCBit.TheVariants.{Primitive, Constructed}
use Rattle.yasna_base.specs.declared.tag.Tag.{Tag}
use Rattle.yasna_base.proofs.Digits.{bytes_after}
use Rattle.yasna_base.proofs.Identifier.{identifier_short}
use Rattle.yasna_base.proofs.Length.{shortest_in_mode}
use Rattle.yasna_base.proofs.Canonical.{short_contents}
use Rattle.yasna_base.proofs.Raw.{raw_of, raw_deeper}
use Rattle.yasna_writer.proofs.BigEndian.{length_trimmed}
use Rattle.yasna_bytes.specs.Prefix.{Takes}
use Rattle.asn1_contents.specs.Contents.{HasContents, ArePlain}
use Rattle.asn1_contents.specs.ContentsType.{type_with}
use Rattle.asn1_contents.specs.declared.contents_type.ContentsType.{ContentsType}
use Rattle.asn1_contents.specs.declared.contents_type.ContentsType.TheVariants.{Number, Nothing, Subidentifiers, Text, UtcTime, GeneralizedTime, Octets}
use Rattle.asn1der_convert.specs.Ambiguity.{EnclosesFrom, Encloses, IsCertain, Notes, first_place}
use Rattle.asn1der_convert.specs.Rows.{IsElementPart, AreElements}
use Rattle.asn1der_convert.specs.Parts.{ArePartsOf, AppendsBits, AppendsContents, AppendsPart, AppendsParts, PutsInOrder}
use Rattle.asn1der_convert.specs.Tags.{IsStringTag, IsOtherPrimitive}
use Rattle.asn1der_convert.specs.Tree.{Branch, boolean, bits, string, primitive, set_of, constructed, Tree, branch_tag, tree_tag, tree_parts, HasBranch, HasTree, branch_encoding, der_encoding}
use Rattle.asn1der_convert.specs.declared.ambiguity.Ambiguities.{Ambiguities}
use Rattle.asn1der_convert.specs.declared.ambiguity.Ambiguity.{Ambiguity}
use Rattle.asn1der_convert.proofs.Weaving.{tail_put, length_put}
use Rattle.asn1der_convert.proofs.Encodings.{canonical}
use Rattle.asn1der_convert.proofs.Exact.{branch_not_end, branch_small}
use Rattle.asn1der_convert.proofs.Parts.{boolean_part, bits_part, string_part, primitive_part, parts_labels}

-- an identifier, a length and contents are an element in DER
pub der_element : (t : Tag) (bit : PCBit) (i c : List ℕ) → i ≡ identifier t bit → i ++ (shortest_length (length c) ++ c) ≡ canonical_element Der t bit c
unfolding canonical_element definite_element
der_element t Primitive i c e = ap (λ z. z ++ (shortest_length (length c) ++ c)) e
der_element t Constructed i c e = ap (λ z. z ++ (shortest_length (length c) ++ c)) e

string_below : (t : Tag) → IsStringTag t → t.tag_number < 31
string_below t h = go t.tag_number h.number
  where
    go : (k : ℕ) → (k ≡ 4) ⊎ (k ≡ 7) ⊎ (k ≡ 12) ⊎ ((18 ≤ k) × (k ≤ 28)) ⊎ (k ≡ 30) → k < 31
    go k (inl e) = omega (arith, e)
    go k (inr (inl e)) = omega (arith, e)
    go k (inr (inr (inl e))) = omega (arith, e)
    go k (inr (inr (inr (inl e)))) = omega (arith, e.1)
    go k (inr (inr (inr (inr e)))) = omega (arith, e)

-- the number of a string's tag is one byte, which is its identifier
pub string_byte : (t : Tag) → IsStringTag t → t.tag_number < 256
string_byte t h = omega (arith, string_below t h)

pub string_identifier : (t : Tag) → IsStringTag t → t.tag_number ∷ [] ≡ identifier t Primitive
string_identifier t h =
    let class = ap class_number h.own in
    let k : t.tag_number ≡ 64 * class_number t.tag_class + 32 * 0 + t.tag_number = omega (arith, class) in
    ap (λ z. z ∷ []) k ∙ sym (identifier_short t Primitive (string_below t h))

-- contents that are the same in DER
pub plain_contents : (k : ContentsType) (c : List ℕ) → ArePlain k c → HasContents k Ber c c
plain_contents Number c h = record { same = refl; plain = h }
plain_contents Nothing c h = record { same = refl; plain = h }
plain_contents Subidentifiers c h = record { same = refl; plain = h }
plain_contents (Text class) c h = record { same = refl; plain = h }
plain_contents UtcTime c h = absurd h
plain_contents GeneralizedTime c h = absurd h
plain_contents Octets c h = record { same = refl; plain = h }

-- a BOOLEAN was appended
pub boolean_appended : (n : ℕ) (m : BERMode) (s r out out' : List ℕ) (v : Bool) (b : ℕ) → Takes (Primitively IsBoolean boolean_tag m n) s v r → b ≡ boolean_byte v →
    out' ≡ out ++ ((1 ∷ []) ++ (shortest_length (length (b ∷ [])) ++ (b ∷ []))) → AppendsPart n m s r out out'
boolean_appended n m s r out out' v b x e f =
    let c = b ∷ [] in
    let p : SetPart = record { tag = boolean_tag; bytes = canonical_element Der boolean_tag Primitive c } in
    record {
      part = p;
      taken = boolean_part n m s r v p c x refl refl (ap (λ z. z ∷ []) e);
      added = f ∙ ap (λ z. out ++ z) (der_element boolean_tag Primitive (1 ∷ []) c (sym (identifier_short boolean_tag Primitive (omega arith))));
    }

-- the contents of a BIT STRING
bits_written : (bytes : List ℕ) (count u : ℕ) → count ≤ 8 * length bytes → 8 * length bytes < count + 8 → u ≡ (8 - count % 8) % 8 →
    u ∷ padded u bytes ≡ bits_contents (record { bytes = bytes; count = count })
bits_written bytes count u enough least unused =
    let same : 8 * length bytes - count ≡ u = omega arith in
    ap (λ k. k ∷ padded k bytes) (sym same)

-- a BIT STRING was appended
pub bits_appended : (n : ℕ) (m : BERMode) (s r out out' : List ℕ) (v : BitString) (u : ℕ) (b : List ℕ) → Takes (IsBits bits_tag m n) s v r → v.count ≤ 8 * length v.bytes →
    8 * length v.bytes < v.count + 8 → u ≡ (8 - v.count % 8) % 8 → b ≡ padded u v.bytes →
    out' ≡ out ++ ((3 ∷ []) ++ (shortest_length (length ((u ∷ []) ++ b)) ++ ((u ∷ []) ++ b))) → AppendsPart n m s r out out'
bits_appended n m s r out out' v u b x enough least unused e f =
    let c = u ∷ b in
    let p : SetPart = record { tag = bits_tag; bytes = canonical_element Der bits_tag Primitive c } in
    record {
      part = p;
      taken = bits_part n m s r v p c x refl refl (ap (λ z. u ∷ z) e ∙ bits_written v.bytes v.count u enough least unused);
      added = f ∙ ap (λ z. out ++ z) (der_element bits_tag Primitive (3 ∷ []) c (sym (identifier_short bits_tag Primitive (omega arith))));
    }

contents_in_bytes : (t : Tag) (bit : PCBit) (c : List ℕ) → IsBytes (canonical_element Der t bit c) → IsBytes c
unfolding canonical_element definite_element
contents_in_bytes t Primitive c h = bytes_after (shortest_length (length c)) c (bytes_after (identifier t Primitive) (shortest_length (length c) ++ c) h)
contents_in_bytes t Constructed c h = bytes_after (shortest_length (length c)) c (bytes_after (identifier t Constructed) (shortest_length (length c) ++ c) h)

definite_in_ber : (t : Tag) (bit : PCBit) (c : List ℕ) → length c < 2 ^ 64 → Definite Ber t bit c (canonical_element Der t bit c)
unfolding canonical_element definite_element
definite_in_ber t Primitive c short = record { taken = tt; l = shortest_length (length c); spelled = shortest_in_mode Ber (length c) short; joined = refl }
definite_in_ber t Constructed c short = record { taken = tt; l = shortest_length (length c); spelled = shortest_in_mode Ber (length c) short; joined = refl }

-- an element in DER with its tag
element_part : (t : Tag) (bit : PCBit) (c : List ℕ) → (t ≡ end_tag → ⊥) → t.tag_number < 2 ^ 64 → IsBytes (canonical_element Der t bit c) →
    length (canonical_element Der t bit c) < 2 ^ 64 → IsElementPart (record { tag = t; bytes = canonical_element Der t bit c })
element_part t bit c not_end small bytes short = record {
  value = record { tag = t; bit = bit; payload = c };
  tag = refl;
  raw = raw_deeper 1 101 Ber (record { tag = t; bit = bit; payload = c }) (canonical_element Der t bit c) (omega arith)
      (raw_of 0 Ber (record { tag = t; bit = bit; payload = c }) (canonical_element Der t bit c) (record {
        not_end = not_end;
        in_range = small;
        in_bytes = contents_in_bytes t bit c bytes;
        framed = with_length (definite_in_ber t bit c (short_contents Der t bit c short)) (λ l. absurd l);
      }));
}

branch_element : {A : Type 0} (R : A → List ℕ → Type 0) (parts : List A → List SetPart) (f : A → List ℕ) (n : ℕ) (w : Branch A) (b : List ℕ) → HasBranch R parts n Ber w b →
    IsBytes (branch_encoding f w) → length (branch_encoding f w) < 2 ^ 64 → IsElementPart (record { tag = branch_tag w; bytes = branch_encoding f w })
branch_element R parts f n (boolean v) b x h short =
    element_part boolean_tag Primitive (boolean_byte v ∷ []) (branch_not_end R parts n Ber (boolean v) b x) (branch_small R parts n Ber (boolean v) b x) h short
branch_element R parts f n (bits v) b x h short =
    element_part bits_tag Primitive (bits_contents v) (branch_not_end R parts n Ber (bits v) b x) (branch_small R parts n Ber (bits v) b x) h short
branch_element R parts f n (string t v) b x h short =
    element_part t Primitive v (branch_not_end R parts n Ber (string t v) b x) (branch_small R parts n Ber (string t v) b x) h short
branch_element R parts f n (primitive t c) b x h short =
    element_part t Primitive c (branch_not_end R parts n Ber (primitive t c) b x) (branch_small R parts n Ber (primitive t c) b x) h short
branch_element R parts f n (set_of vs) b x h short =
    element_part set_tag Constructed (concat (in_order octets_cmp (map f vs))) (branch_not_end R parts n Ber (set_of vs) b x)
    (branch_small R parts n Ber (set_of vs) b x) h short
branch_element R parts f n (constructed t vs) b x h short =
    element_part t Constructed (concat (map f vs)) (branch_not_end R parts n Ber (constructed t vs) b x)
    (branch_small R parts n Ber (constructed t vs) b x) h short

-- the encoding of a tree in DER is an element
tree_element : (n : ℕ) (v : Tree n) (b : List ℕ) → HasTree n Ber v b → length (der_encoding n v) < 2 ^ 64 →
    IsElementPart (record { tag = tree_tag n v; bytes = der_encoding n v })
unfolding Tree HasTree tree_tag der_encoding
tree_element zero v b x short = absurd x
tree_element (suc n) v b x short =
    branch_element (HasTree n Ber) (tree_parts n) (der_encoding n) (suc n) v b x (canonical (suc n) v b x short).in_bytes short

trees_elements : (n : ℕ) (vs : List (Tree n)) (bs : List (List ℕ)) → Each (HasTree n Ber) vs bs → length (concat (parts_bytes (tree_parts n vs))) < 2 ^ 64 →
    AllByRecursion IsElementPart (tree_parts n vs)
trees_elements n [] bs x short = tt
trees_elements n (v ∷ vs) [] x short = absurd x
trees_elements n (v ∷ vs) (b ∷ bs) x short =
    let size = length-append (der_encoding n v) (concat (parts_bytes (tree_parts n vs))) in
    let fits : length (der_encoding n v ++ concat (parts_bytes (tree_parts n vs))) < 2 ^ 64 = short in
    (tree_element n v b x.0 (omega (arith, size, fits)), trees_elements n vs bs x.1 (omega (arith, size, fits)))

-- what was appended for contents is elements
parts_elements : (n : ℕ) (m : BERMode) (c : List ℕ) (ps : List SetPart) → m ≡ Ber → ArePartsOf n m c ps → length (concat (parts_bytes ps)) < 2 ^ 64 →
    AreElements ps (concat (parts_bytes ps))
parts_elements n m c ps e x short =
    let y = subst (λ z. ArePartsOf n z c ps) e x in
    let labels = parts_labels n Ber c ps y in
    let each = trees_elements n y.trees y.read.pieces y.read.each (subst (λ (qs : List SetPart). length (concat (parts_bytes qs)) < 2 ^ 64) labels short) in
    record { each = subst (AllByRecursion IsElementPart) (sym labels) each; joined = refl }

-- a header was put before the elements that were appended for contents
pub enclosed : (n : ℕ) (m : BERMode) (s : List ℕ) (end : ContentsEnd) (r : List ℕ) (t : Tag) (k : ℕ) (out mid out' : List ℕ) (old new : Ambiguities) → m ≡ Ber →
    (x : AppendsParts n m s end r out mid) → k ≡ length out → length mid < 2 ^ 64 → Encloses t k mid out' old new → EnclosesFrom t x.parts k mid out' old new
enclosed n m s end r t k out mid out' old new e x start short f =
    let c = concat (parts_bytes x.parts) in
    let size = ap length x.added ∙ length-append out c in
    let rest : drop k mid ≡ c = ap (drop k) x.added ∙ drop_at out c k (sym start) in
    f x.parts (subst (AreElements x.parts) (sym rest) (parts_elements n m x.taken.prefix x.parts e x.taken.parts (omega (arith, size, short))))

-- so an element was appended
pub enclosed_added : (n : ℕ) (m : BERMode) (s : List ℕ) (end : ContentsEnd) (r : List ℕ) (t : Tag) (k : ℕ) (out mid out' : List ℕ) (old new : Ambiguities) →
    (x : AppendsParts n m s end r out mid) → k ≡ length out → (y : EnclosesFrom t x.parts k mid out' old new) → out' ≡ out ++ y.part.bytes
enclosed_added n m s end r t k out mid out' old new x start y =
    y.added ∙ ap (λ z. z ++ y.part.bytes) (ap (take k) x.added ∙ take_at out (concat (parts_bytes x.parts)) k (sym start))

-- the count of unused bits was put before bytes with zeros in these bits
pub bits_put : (u k : ℕ) (i bytes cleared contents out out' : List ℕ) → u ≡ k → cleared ≡ padded u bytes → contents ≡ u ∷ cleared →
    out' ≡ out ++ (i ++ (shortest_length (length contents) ++ contents)) → AppendsBits k i bytes out out'
bits_put u k i bytes cleared contents out out' e f g h =
    let same = g ∙ ap (λ z. u ∷ z) f ∙ ap (λ n. n ∷ padded n bytes) e in
    h ∙ ap (λ z. out ++ (i ++ (shortest_length (length z) ++ z))) same

-- contents that are those of the tag's type in a mode
contents_in : (m : BERMode) (t : Tag) (k : ContentsType) (o c d : List ℕ) → k ≡ type_with t → m ≡ Ber → c ≡ o → HasContents k Ber d c → HasContents (type_with t) m d o
contents_in m t k o c d is e same h =
    subst (λ z. HasContents (type_with t) z d o) (sym e) (subst (λ z. HasContents (type_with t) Ber d z) same (subst (λ z. HasContents z Ber d c) is h))

-- a string of the octets o was appended
pub string_appended : (n : ℕ) (m : BERMode) (t : Tag) (k : ContentsType) (s r o c out out' : List ℕ) → IsStringTag t → k ≡ type_with t → Takes (IsOctets t m n) s o r →
    m ≡ Ber → c ≡ o → AppendsContents k (t.tag_number ∷ []) c out out' → AppendsPart n m s r out out'
string_appended n m t k s r o c out out' h is x e same y =
    let p : SetPart = record { tag = t; bytes = canonical_element Der t Primitive y.contents } in
    record {
      part = p;
      taken = string_part n m t s r o y.contents p h x (contents_in m t k o c y.contents is e same y.meaning) refl refl;
      added = y.bytes ∙ ap (λ z. out ++ z) (der_element t Primitive (t.tag_number ∷ []) y.contents (string_identifier t h));
    }

-- any other primitive element was appended
pub primitive_appended : (n : ℕ) (m : BERMode) (t : Tag) (k : ContentsType) (i s r o c out out' : List ℕ) → 1 ≤ n → IsOtherPrimitive t → i ≡ identifier t Primitive →
    k ≡ type_with t → OpensAt m t Primitive s o (definite_end r) → m ≡ Ber → c ≡ o → AppendsContents k i c out out' → AppendsPart n m s r out out'
primitive_appended n m t k i s r o c out out' level h own is x e same y =
    let p : SetPart = record { tag = t; bytes = canonical_element Der t Primitive y.contents } in
    record {
      part = p;
      taken = primitive_part n m t s r o y.contents p level h x (contents_in m t k o c y.contents is e same y.meaning) refl refl;
      added = y.bytes ∙ ap (λ z. out ++ z) (der_element t Primitive i y.contents own);
    }

-- a length from 128 on was appended: the count of its bytes without the zeros in front, and these bytes
pub long_length : (n : ℕ) (ds old mid new : List ℕ) → 128 ≤ n → n < 2 ^ 64 → ds ≡ trim_leading 0 (to_be_bytes w64 n) → mid ≡ old ++ ((128 + length ds) ∷ []) →
    new ≡ mid ++ ds → new ≡ old ++ shortest_length n
long_length n ds old mid new long small same counted added =
    added ∙ ap (λ z. z ++ ds) counted ∙ append_assoc old ((128 + length ds) ∷ []) ds ∙ ap (λ z. old ++ ((128 + length z) ∷ z)) same ∙
    ap (λ z. old ++ z) (sym (length_trimmed n long small))

-- bytes that were put over the end of a vector's are its end
module _ (o b s z : List ℕ) (start n : ℕ) where
  -- the vector's bytes after its slice b got s from the place on
  abbrev pub after_put : List ℕ
  after_put = take n (put_mid start (length b - start) b s ++ drop (length (put_mid start (length b - start) b s)) z)

  pub after_put_is : start ≤ length b → length s ≡ length b - start → length b ≡ n → after_put ≡ take start b ++ s
  after_put_is within size long =
      take_at (put_mid start (length b - start) b s) (drop (length (put_mid start (length b - start) b s)) z) n
      (length_put start (length b - start) b s size (omega (arith, within)) ∙ long) ∙ tail_put start b s

-- a header was put before the bytes from a place on: it was appended, and the bytes and it changed places
pub header_put : (o i l b r z : List ℕ) (start k n : ℕ) → b ≡ (o ++ i) ++ l → start ≤ length o → k ≡ length b - length o → length b ≡ n →
    r ≡ drop (length (take (length b - start) (drop start b)) - k) (take (length b - start) (drop start b)) ++
    take (length (take (length b - start) (drop start b)) - k) (take (length b - start) (drop start b)) →
    after_put o b r z start n ≡ take start o ++ (i ++ (l ++ drop start o))
header_put o i l b r z start k n e within count long turned =
    let c = drop start o in
    let joined = e ∙ append_assoc o i l in
    let whole : take (length b - start) (drop start b) ≡ c ++ (i ++ l) =
    between_to_end b start (length b) (omega arith) ∙ ap (drop start) joined ∙ drop-append-le start o (i ++ l) within in
    let size = ap length whole ∙ length-append c (i ++ l) in
    let all = ap length joined ∙ length-append o (i ++ l) in
    let rest = length-drop start o in
    let cut : length (take (length b - start) (drop start b)) - k ≡ length c = omega (arith, size, all, rest, count, within) in
    let r_is : r ≡ (i ++ l) ++ c =
    turned ∙ ap₂ (λ j y. drop j y ++ take j y) cut whole ∙ ap₂ (λ x y. x ++ y) (drop_at c (i ++ l) (length c) refl) (take_at c (i ++ l) (length c) refl) in
    let before : take start b ≡ take start o = ap (take start) joined ∙ take-append-le start o (i ++ l) within in
    after_put_is o b r z start n (omega (arith, within, all)) (omega (arith, ap length r_is, length-append (i ++ l) c, all, rest, within)) long ∙
    ap₂ (λ x y. x ++ y) before r_is ∙ ap (λ x. take start o ++ x) (append_assoc i l c)

-- elements at the end of a vector were put in order and their ambiguities noted, and then a header was put before them
pub encloses_with : (t : Tag) (i o b s z v new : List ℕ) (start n offset : ℕ) (old noted : Ambiguities) → i ≡ identifier t Constructed → start ≤ length o → b ≡ o → length b ≡ n →
    length s ≡ length (take (length b - start) (drop start b)) → PutsInOrder t (take (length b - start) (drop start b)) s →
    v ≡ after_put o b s z start n → ((ps : List SetPart) → AreElements ps (take (length v - start) (drop start v)) → (a : Ambiguity) → Notes (first_place a old) (first_place a noted) offset (IsCertain a t ps)) →
    new ≡ take start (after_put o b s z start n) ++ (i ++ (shortest_length (length (drop start (after_put o b s z start n))) ++ drop start (after_put o b s z start n))) →
    Encloses t start o new old noted
encloses_with t i o b s z v new start n offset old noted e within same long size ordered seen notes added ps a =
    let whole : take (length b - start) (drop start b) ≡ drop start b = between_to_end b start (length b) (omega arith) in
    let bound : start ≤ length b = omega (arith, within, ap length same) in
    let fits : length s ≡ length b - start = size ∙ ap length whole ∙ length-drop start b in
    let x = ordered ps (subst (AreElements ps) (sym (whole ∙ ap (drop start) same)) a) in
    let qs = x.0 in
    let first : length (take start b) ≡ start = omega (arith, length-take start b, bound) in
    let after = after_put_is o b s z start n bound fits long in
    let part : take (length v - start) (drop start v) ≡ s =
    between_to_end v start (length v) (omega arith) ∙ ap (drop start) (seen ∙ after) ∙ drop_at (take start b) s start first in
    let head : take start (after_put o b s z start n) ≡ take start o =
    ap (take start) after ∙ take_at (take start b) s start first ∙ ap (take start) same in
    let c = concat (parts_bytes qs) in
    let tail : drop start (after_put o b s z start n) ≡ c = ap (drop start) after ∙ drop_at (take start b) s start first ∙ x.2.joined in
    record {
      part = record { tag = t; bytes = canonical_element Der t Constructed c };
      encloses = record {
        part = record { tag = refl; inner = qs; order = x.1; bytes = refl };
        met = λ d. (notes qs (subst (AreElements qs) (sym part) x.2) d).meets;
      };
      added = added ∙ ap₂ (λ y d. y ++ (i ++ (shortest_length (length d) ++ d))) head tail ∙ ap (λ y. take start o ++ y) (der_element t Constructed i c e);
    }
