-- Bytes that are one element.
use Rattle.std.proofs.Common.{◌≡◌, ◌++◌, ◌∷◌, ℕ, List, [], length, inl, inr, sym, ap, ◌∙◌, subst, append-nil}
use Rattle.yasna_base.specs.declared.mode.BERMode.{BERMode}
use Rattle.yasna_base.specs.Raw.{IsJoining}
use Rattle.yasna_base.proofs.Lists.{append_same, empty_is}
use Rattle.yasna_base.proofs.Pieces.{one_piece}
use Rattle.yasna_base.proofs.Raw.{raw_exact}
use Rattle.asn1show_walk.specs.Errors.{WalkFails}
use Rattle.asn1show_walk.specs.Reading.{ElementBefore, NoElement}
use Rattle.asn1show_walk.specs.WellFormed.{IsWellFormed, IsOne}
use Rattle.asn1show_walk.specs.declared.error.WalkError.{WalkError}
use Rattle.asn1show_walk.specs.declared.error.WalkError.TheVariants.{Malformed, Memory, Output, ClosedOutput}
use Rattle.asn1show_walk.specs.declared.listing.place.Place.{Place}
use Rattle.asn1show_walk.specs.declared.listing.place.Context.{Context}
use Rattle.asn1show_walk.proofs.WellFormed.{formed_raw}

-- an element after which nothing is left is the whole input
pub one_before_nothing : (context : Context) (p q : Place) → ElementBefore context p q → length q.left.now ≡ 0 → IsOne context.levels context.mode p.left.now
one_before_nothing context p q x e =
    let f : p.left.now ≡ x.1.prefix = x.1.joined ∙ ap (λ z. x.1.prefix ++ z) (empty_is q.left.now e) ∙ append-nil x.1.prefix in
    (x.0, subst (λ z. IsWellFormed context.levels context.mode x.0 z) (sym f) x.1.member)

-- nothing is left after an element that is the whole input
pub nothing_after_one : (context : Context) (p q : Place) → ElementBefore context p q → IsOne context.levels context.mode p.left.now → length q.left.now ≡ 0
nothing_after_one context p q x y =
    let n = context.levels in
    let m = context.mode in
    let s = p.left.now in
    let e : s ++ [] ≡ x.1.prefix ++ q.left.now = append-nil s ∙ x.1.joined in
    let b = (raw_exact n n m y.0 x.0 s x.1.prefix [] q.left.now (formed_raw n m y.0 s y.1) (formed_raw n m x.0 x.1.prefix x.1.member) e).1 in
    ap length (sym (append_same s [] q.left.now (e ∙ ap (λ z. z ++ q.left.now) (sym b))))

-- where none is there and nobody rejected, there isn't one
pub none_is_one : (context : Context) (p : Place) (f : WalkError) → WalkFails (λ _. ⊥) (NoElement context p) f → IsOne context.levels context.mode p.left.now → ⊥
none_is_one context p (Malformed o k e) (inl x) y = x
none_is_one context p (Malformed o k e) (inr x) y =
    x.none (y.0, [], record { prefix = p.left.now; joined = sym (append-nil p.left.now); member = y.1 })
none_is_one context p Memory (inl x) y = x
none_is_one context p Memory (inr x) y = x
none_is_one context p Output (inl x) y = x
none_is_one context p Output (inr x) y = x
none_is_one context p ClosedOutput (inl x) y = x
none_is_one context p ClosedOutput (inr x) y = x

-- one is a joining of one
pub one_joining : (n : ℕ) (m : BERMode) (s : List ℕ) → IsOne n m s → IsJoining (IsWellFormed n m) s
one_joining n m s x = (x.0 ∷ [], one_piece x.0 s x.1)
