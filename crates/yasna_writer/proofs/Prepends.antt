-- Bytes that are prepended to others.
use Rattle.std.proofs.Common.{◌≡◌, ℕ, ◌+◌, ◌-◌, ◌≤◌, List, [], ◌∷◌, ◌++◌, length, drop, sym, ap, ap₂, ◌∙◌, subst, arith, append_assoc, length-append}
use Rattle.std.proofs.lemmas.List.{drop-drop, drop-append-le, flat_map_more}
use Rattle.std.proofs.lemmas.Result.{MatchResult-weaker}
use Rattle.std.specs.List.{AllByRecursion, flat_map}
use Rattle.std.specs.Prelude.{Result}
use Rattle.yasna_base.specs.declared.error.ASN1Error.{ASN1Error}
use Rattle.yasna_base.specs.declared.mode.BERMode.{BERMode}
use Rattle.yasna_base.specs.declared.mode.BERMode.TheVariants.{Ber, Der, Cer}
use Rattle.yasna_base.specs.declared.tag.Tag.{Tag}
use Rattle.yasna_base.specs.declared.tag.PCBit.TheVariants.{Primitive, Constructed}
use Rattle.yasna_base.specs.Canonical.{canonical_element, definite_element, indefinite_element}
use Rattle.yasna_base.specs.Grammar.{Encoding}
use Rattle.yasna_base.specs.Identifier.{identifier}
use Rattle.yasna_base.specs.Length.{shortest_length}
use Rattle.yasna_writer.specs.Header.{header_bytes}
use Rattle.yasna_writer.specs.Prepend.{Prepended, HasRoom, with_prefix, PrependsAll, Prepends, contents_end, contents_header}
use Rattle.yasna_writer.specs.Put.{PutBefore}
use Rattle.yasna_writer.proofs.Puts.{put_back}

-- what is from the first of the bytes on
pub put_there :
    (bs : List ℕ) (more start end place : ℕ) (old mid new : List ℕ) → HasRoom more start old mid end → PutBefore bs end mid new place
    → drop place new ≡ bs ++ drop start old
put_there bs more start end place old mid new h p = put_back bs end mid new place p h.within ∙ ap (λ x. bs ++ x) h.same

-- what is from a later one on
pub put_later :
    (bs : List ℕ) (less more start end place : ℕ) (old mid new : List ℕ) → less ≤ length bs → HasRoom more start old mid end → PutBefore bs end mid new place
    → drop (place + less) new ≡ drop less bs ++ drop start old
put_later bs less more start end place old mid new few h p =
    sym (drop-drop less place new) ∙ ap (drop less) (put_there bs more start end place old mid new h p) ∙ drop-append-le less bs (drop start old) few

-- after an error the bytes needn't be as they were
pub prepends_all : (bs : List ℕ) (old new : Prepended) (r : Result (Unit {0}) ASN1Error) → PrependsAll bs old new r → Prepends bs old new r
prepends_all bs old new r h = MatchResult-weaker r h (λ _ e. e) (λ k i. i.0)

-- bytes before others that were prepended
pub prepends_both :
    (xs ys zs : List ℕ) (old mid new : Prepended) (r : Result (Unit {0}) ASN1Error) → mid ≡ with_prefix ys old → Prepends xs mid new r → xs ++ ys ≡ zs
    → Prepends zs old new r
prepends_both xs ys zs old mid new r e h f =
    MatchResult-weaker r h
    (λ _ g. g ∙ ap (with_prefix xs) e ∙ ap (λ z. record old { bytes = z }) (sym (append_assoc xs ys old.bytes) ∙ ap (λ z. z ++ old.bytes) f)) (λ k i. i)

-- as `prepends_both`, of two that were prepended
pub both_prepended :
    (xs ys zs : List ℕ) (old mid new : Prepended) → mid ≡ with_prefix ys old → new ≡ with_prefix xs mid → xs ++ ys ≡ zs → new ≡ with_prefix zs old
both_prepended xs ys zs old mid new e g f =
    g ∙ ap (with_prefix xs) e ∙ ap (λ z. record old { bytes = z }) (sym (append_assoc xs ys old.bytes) ∙ ap (λ z. z ++ old.bytes) f)

-- a header before its contents
pub header_before : (m : BERMode) (t : Tag) (c : List ℕ) →
    header_bytes Primitive (record { tag = t; length = length c }) ++ c ≡ canonical_element m t Primitive c
unfolding canonical_element definite_element
header_before m t c = append_assoc (identifier t Primitive) (shortest_length (length c)) c

-- as `header_before`, by how many bytes the contents are
pub header_of_length : (m : BERMode) (t : Tag) (n : ℕ) (c : List ℕ) → n ≡ length c →
    header_bytes Primitive (record { tag = t; length = n }) ++ c ≡ canonical_element m t Primitive c
header_of_length m t n c e = ap (λ k. header_bytes Primitive (record { tag = t; length = k }) ++ c) e ∙ header_before m t c

-- as `header_of_length`, by what the contents are
pub header_of_contents : (m : BERMode) (t : Tag) (n : ℕ) (c d : List ℕ) → n ≡ length c → c ≡ d →
    header_bytes Primitive (record { tag = t; length = n }) ++ c ≡ canonical_element m t Primitive d
header_of_contents m t n c d e f = header_of_length m t n c e ∙ ap (canonical_element m t Primitive) f

-- a header of definite length around parts, and of indefinite length, with what ends them
definite_around : (t : Tag) (c b : List ℕ) (n : ℕ) → n ≡ length c →
    (identifier t Constructed ++ shortest_length n) ++ (c ++ b) ≡ definite_element t Constructed c ++ b
unfolding definite_element
definite_around t c b n e =
    ap (λ k. (identifier t Constructed ++ shortest_length k) ++ (c ++ b)) e
    ∙ append_assoc (identifier t Constructed) (shortest_length (length c)) (c ++ b)
    ∙ ap (λ x. identifier t Constructed ++ x) (sym (append_assoc (shortest_length (length c)) c b))
    ∙ sym (append_assoc (identifier t Constructed) (shortest_length (length c) ++ c) b)

indefinite_around : (t : Tag) (c b : List ℕ) →
    (identifier t Constructed ++ (128 ∷ [])) ++ (c ++ (0 ∷ 0 ∷ b)) ≡ indefinite_element t c ++ b
unfolding indefinite_element
indefinite_around t c b =
    append_assoc (identifier t Constructed) (128 ∷ []) (c ++ (0 ∷ 0 ∷ b))
    ∙ ap (λ x. identifier t Constructed ++ (128 ∷ x)) (sym (append_assoc c (0 ∷ 0 ∷ []) b))
    ∙ sym (append_assoc (identifier t Constructed) (128 ∷ (c ++ (0 ∷ 0 ∷ []))) b)

length_before : (c b : List ℕ) → length (c ++ b) - length b ≡ length c
length_before c b = omega (arith, length-append c b)

around : (m : BERMode) (t : Tag) (c b : List ℕ) →
    contents_header m t (length (c ++ (contents_end m ++ b)) - length (contents_end m ++ b)) ++ (c ++ (contents_end m ++ b))
    ≡ canonical_element m t Constructed c ++ b
unfolding canonical_element
around Ber t c b = definite_around t c b (length (c ++ b) - length b) (length_before c b)
around Der t c b = definite_around t c b (length (c ++ b) - length b) (length_before c b)
around Cer t c b = indefinite_around t c b

-- an element whose end, parts and header were prepended
pub element_prepended :
    (t : Tag) (c : BERMode → List ℕ) (old opened left new : Prepended) (after : ℕ) (r : Result (Unit {0}) ASN1Error)
    → opened ≡ with_prefix (contents_end old.mode) old → after ≡ length opened.bytes → left ≡ with_prefix (c opened.mode) opened
    → Prepends (contents_header left.mode t (length left.bytes - after)) left new r → Prepends (canonical_element old.mode t Constructed (c old.mode)) old new r
element_prepended t c old opened left new after r e f g h =
    let whole = λ (o : Prepended) (n : ℕ). with_prefix (contents_header o.mode t (length (c o.mode ++ o.bytes) - n)) (with_prefix (c o.mode) o) in
    let there : after ≡ length (contents_end old.mode ++ old.bytes) = f ∙ ap (λ (o : Prepended). length o.bytes) e in
    MatchResult-weaker r h
    (λ _ i.
    i ∙ ap (λ (w : Prepended). with_prefix (contents_header w.mode t (length w.bytes - after)) w) g
    ∙ ap₂ whole e there
    ∙ ap (λ z. record old { bytes = z }) (around old.mode t (c old.mode) old.bytes)) (λ k i. i)

-- where the last of the rest was prepended, it and what is left of the rest are all
pub item_prepended :
    {A : Type 0} (encoding : Encoding A) (rest others : List A) (v : A) (old new all : Prepended) → rest ≡ others ++ v ∷ []
    → new ≡ with_prefix (encoding old.mode v) old → with_prefix (flat_map (encoding old.mode) rest) old ≡ all
    → with_prefix (flat_map (encoding new.mode) others) new ≡ all
item_prepended encoding rest others v old new all s e done =
    let f = encoding old.mode in
    let joined : flat_map f others ++ f v ≡ flat_map f rest = flat_map_more f [] others v ∙ ap (flat_map f) (sym s) in
    ap (λ (w : Prepended). with_prefix (flat_map (encoding w.mode) others) w) e
    ∙ ap (λ x. record old { bytes = x }) (sym (append_assoc (flat_map f others) (f v) old.bytes) ∙ ap (λ x. x ++ old.bytes) joined)
    ∙ done

-- what is so of all is so of the others and of the last
pub all_before_last : {A : Type 0} (P : A → Type 0) (rest others : List A) (v : A) → rest ≡ others ++ v ∷ [] → AllByRecursion P rest →
    AllByRecursion P others × P v
all_before_last {A} P rest others v s a = go others (subst (λ xs. AllByRecursion P xs) s a)
  where
    go : (xs : List A) → AllByRecursion P (xs ++ v ∷ []) → AllByRecursion P xs × P v
    go [] h = (tt, h.0)
    go (x ∷ xs) h = let r = go xs h.1 in ((h.0, r.0), r.1)
