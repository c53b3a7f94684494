-- Tokens that are written one after the other.
use Rattle.std.proofs.Common.{◌≡◌, ◌∙◌, ◌+◌, ℕ, List, [], ◌∷◌, ◌++◌, length, refl, ap, sym, append_assoc, length-append}
use Rattle.std.specs.Prelude.{map, codes, Result, Ok, Err, OnOk}
use Rattle.json.specs.Token.{Token, begin_array, begin_object, end_array, key, string}
use Rattle.asn1show_json.specs.Json.{diagnostic_tokens}

-- what follows from what is so of a value, if there is one
pub then_ok : {T E P Q : Type 0} (r : Result T E) → (P → Q) → OnOk r P → OnOk r Q
then_ok (Ok x) f p = f p
then_ok (Err x) f p = p

-- the tokens of texts, and one more
pub one_text : (texts : List (List ℕ)) (text : List ℕ) → map string (texts ++ (text ∷ [])) ≡ map string texts ++ (string text ∷ [])
one_text [] text = refl
one_text (x ∷ texts) text = ap (λ ts. string x ∷ ts) (one_text texts text)

-- so many texts were written after tokens
abbrev pub AreTextsAfter : List Token → ℕ → List Token → Type 0
AreTextsAfter a n now = (texts : List (List ℕ)) × (length texts ≡ n) × (now ≡ a ++ map string texts)

-- and one more
pub more_texts : (a now new : List Token) (n : ℕ) (text : List ℕ) → AreTextsAfter a n now → new ≡ now ++ (string text ∷ []) → AreTextsAfter a (n + 1) new
more_texts a now new n text v e =
    let counted : length (v.0 ++ (text ∷ [])) ≡ n + 1 = length-append v.0 (text ∷ []) ∙ ap (λ k. k + 1) v.1 in
    let joined : now ++ (string text ∷ []) ≡ a ++ map string (v.0 ++ (text ∷ [])) =
    ap (λ ts. ts ++ (string text ∷ [])) v.2
    ∙ append_assoc a (map string v.0) (string text ∷ [])
    ∙ ap (λ ts. a ++ ts) (sym (one_text v.0 text)) in
    (v.0 ++ (text ∷ []), counted, e ∙ joined)

-- the member for diagnostics, written part by part
pub diagnostics_written :
    (a k b t new : List Token) (texts : List (List ℕ))
    → k ≡ a ++ (key (codes "diagnostics") ∷ []) → b ≡ k ++ (begin_array ∷ []) → t ≡ b ++ map string texts
    → new ≡ t ++ (end_array ∷ []) → new ≡ a ++ diagnostic_tokens texts
diagnostics_written a k b t new texts e1 e2 e3 e4 = rw e4 (rw e3 (rw e2 (rw e1 (simp append_assoc))))

-- an element, written part by part
pub element_written :
    (a b m d k new ms ds : List Token)
    → b ≡ a ++ (begin_object ∷ []) → m ≡ b ++ ms → d ≡ m ++ ds → k ≡ d ++ (key (codes "children") ∷ [])
    → new ≡ k ++ (begin_array ∷ []) → new ≡ a ++ (begin_object ∷ (ms ++ (ds ++ (key (codes "children") ∷ begin_array ∷ []))))
element_written a b m d k new ms ds e1 e2 e3 e4 e5 = rw e5 (rw e4 (rw e3 (rw e2 (rw e1 (simp append_assoc)))))

-- members of an element, written part by part
pub members_written :
    (a p t f l new ps ts fs ls vs : List Token)
    → p ≡ a ++ ps → t ≡ p ++ ts → f ≡ t ++ fs → l ≡ f ++ ls → new ≡ l ++ vs → new ≡ a ++ (ps ++ (ts ++ (fs ++ (ls ++ vs))))
members_written a p t f l new ps ts fs ls vs e1 e2 e3 e4 e5 = rw e5 (rw e4 (rw e3 (rw e2 (rw e1 (simp append_assoc)))))
