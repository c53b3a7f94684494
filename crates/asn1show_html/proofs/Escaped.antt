-- An escaped text is read as the text.
use Rattle.std.proofs.Common.{◌≡◌, ◌==◌, ℕ, Bool, true, false, cond, List, [], ◌∷◌, ◌++◌, refl, sym, subst}
use Rattle.std.specs.Prelude.{◌≢◌, codes, Result, Ok, Err, IfOk}
use Rattle.std.proofs.lemmas.Bool.{eq-eqb, eqb-true}
use Rattle.asn1show_html.specs.Escape.{escaped, IsReadAs, nothing, ampersand, less, greater, quote, plain}

-- what follows from what is so of a value, if there is one
pub if_ok : {T E : Type 0} {P Q : T → Type 0} (r : Result T E) → ((x : T) → P x → Q x) → IfOk r P → IfOk r Q
if_ok (Ok x) f p = f x p
if_ok (Err x) f p = p

differs : (c n : ℕ) → (c == n) ≡ false → c ≢ n
differs c n e same = let t = eq-eqb c n same in absurd (cc)

-- an octet before a text that is read as octets
one_more : (c : ℕ) (html text : List ℕ) (a l g q : Bool) → (c == 38) ≡ a → (c == 60) ≡ l → (c == 62) ≡ g → (c == 34) ≡ q → IsReadAs html text →
    IsReadAs (cond a (codes "&amp;") (cond l (codes "&lt;") (cond g (codes "&gt;") (cond q (codes "&quot;") (c ∷ [])))) ++ html) (c ∷ text)
one_more c html text true l g q ea el eg eq x = subst (λ z. IsReadAs (codes "&amp;" ++ html) (z ∷ text)) (sym (eqb-true c 38 ea)) (ampersand html text x)
one_more c html text false true g q ea el eg eq x = subst (λ z. IsReadAs (codes "&lt;" ++ html) (z ∷ text)) (sym (eqb-true c 60 el)) (less html text x)
one_more c html text false false true q ea el eg eq x = subst (λ z. IsReadAs (codes "&gt;" ++ html) (z ∷ text)) (sym (eqb-true c 62 eg)) (greater html text x)
one_more c html text false false false true ea el eg eq x = subst (λ z. IsReadAs (codes "&quot;" ++ html) (z ∷ text)) (sym (eqb-true c 34 eq)) (quote html text x)
one_more c html text false false false false ea el eg eq x = plain c html text (record {
  not_reference = differs c 38 ea;
  not_tag = differs c 60 el;
  not_tag_end = differs c 62 eg;
  not_quote = differs c 34 eq;
}) x

pub read_back : (text : List ℕ) → IsReadAs (escaped text) text
read_back [] = nothing
read_back (c ∷ more) = one_more c (escaped more) more (c == 38) (c == 60) (c == 62) (c == 34) refl refl refl refl (read_back more)
