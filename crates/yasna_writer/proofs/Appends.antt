-- One append after another.
use Rattle.std.proofs.Common.{◌≡◌, ℕ, ◌<◌, ◌+◌, List, [], ◌∷◌, ◌++◌, length, get_or, take, Result, OnOk, sym, ap, ◌∙◌, append_assoc, append-nil}
use Rattle.std.proofs.lemmas.Grind.{flat_map-append}
use Rattle.std.proofs.lemmas.List.{take_more}
use Rattle.std.proofs.lemmas.Result.{on_ok_weaker}
use Rattle.std.specs.List.{flat_map}

-- what two appends leave, where the second one's answer is passed on
pub append_then :
    {T E : Type 0} (r : Result T E) (old mid new xs ys zs : List ℕ) → mid ≡ old ++ xs → OnOk r (new ≡ mid ++ ys) → zs ≡ xs ++ ys → OnOk r (new ≡ old ++ zs)
append_then r old mid new xs ys zs p q e = on_ok_weaker r (λ f. f ∙ ap (λ z. z ++ ys) p ∙ append_assoc old xs ys ∙ ap (λ z. old ++ z) (sym e)) q

-- what is once the bytes of one item more are appended
pub append_item : {X : Type 0} (f : X → List ℕ) (xs : List X) (i : ℕ) (d : X) (old mid : List ℕ) → i < length xs → mid ≡ old ++ flat_map f (take i xs) →
    mid ++ f (get_or xs i d) ≡ old ++ flat_map f (take (i + 1) xs)
append_item f xs i d old mid h e =
    let x = get_or xs i d in
    let done = flat_map f (take i xs) in
    let more = ap (λ ys. flat_map f ys) (take_more xs i d h) ∙ flat_map-append f (take i xs) (x ∷ []) ∙ ap (λ z. done ++ z) (append-nil (f x)) in
    ap (λ z. z ++ f x) e ∙ append_assoc old done (f x) ∙ ap (λ z. old ++ z) (sym more)
