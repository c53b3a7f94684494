-- The values that lexical items are: digits, a minus and digits, or a name.
use Rattle.std.proofs.Common.{◌≡◌, ◌∙◌, ◌<◌, ◌≤◌, ℕ, Bool, true, false, List, [], ◌∷◌, Result, Ok, Err, get_or, length, sym, arith}
use Rattle.std.specs.Prelude.{codes}
use Rattle.std.specs.Result.{IfOk}
use Rattle.std.specs.Str.{bytes_eq}
use Rattle.asn1_types.specs.declared.model.Integer.{Integer}
use Rattle.asn1_types.specs.declared.model.KnownType.{KnownType}
use Rattle.asn1_types.specs.declared.problem.Problem.{Problem}
use Rattle.asn1_types.specs.Values.{MeansInteger, IsLiteral, IsValueNamed, by_name, digits, negative}
use Rattle.asn1_syntax.specs.declared.token.Token.{Token}
use Rattle.asn1_syntax.specs.declared.tree.Module.{Module}

module _ (modules : List Module) (known : List KnownType) (m : ℕ) where
  -- what is so of one item, of items that mean the same
  pub as_value : {other : ℕ} {items value : List Token} (r : Result Integer Problem) → IfOk r (λ x. MeansInteger modules known x other items) →
      ((x : Integer) → MeansInteger modules known x other items → MeansInteger modules known x m value) → IfOk r (λ x. MeansInteger modules known x m value)
  as_value (Ok x) is through = through x is
  as_value (Err e) is through = tt

  pub as_digits : (items : List Token) (d : Token) (r : Result Integer Problem) → 1 ≤ length items → length items < 2 →
      IfOk r (IsLiteral false (get_or items 0 d).text.now) → IfOk r (λ x. MeansInteger modules known x m items)
  as_digits [] d r low high is = absurd (omega (arith, low))
  as_digits (token ∷ []) d (Ok x) low high is = digits is
  as_digits (token ∷ []) d (Err e) low high is = tt
  as_digits (token ∷ other ∷ more) d r low high is = absurd (omega (arith, high))

  pub as_negative : (items : List Token) (d : Token) (found : Bool) (r : Result Integer Problem) → 2 ≤ length items → length items < 3 →
      found ≡ bytes_eq (get_or items 0 d).text.now (codes "-") → found ≡ true → IfOk r (IsLiteral true (get_or items 1 d).text.now) →
      IfOk r (λ x. MeansInteger modules known x m items)
  as_negative [] d found r low high is there literal = absurd (omega (arith, low))
  as_negative (minus ∷ []) d found r low high is there literal = absurd (omega (arith, low))
  as_negative (minus ∷ token ∷ []) d found (Ok x) low high is there literal = negative (sym is ∙ there) literal
  as_negative (minus ∷ token ∷ []) d found (Err e) low high is there literal = tt
  as_negative (minus ∷ token ∷ other ∷ more) d found r low high is there literal = absurd (omega (arith, high))

  pub as_named : (items : List Token) (d : Token) {other : ℕ} {value : List Token} → 1 ≤ length items → length items < 2 →
      IsValueNamed modules known m (get_or items 0 d).text.now other value → (x : Integer) → MeansInteger modules known x other value →
      MeansInteger modules known x m items
  as_named [] d low high named x is = absurd (omega (arith, low))
  as_named (name ∷ []) d low high named x is = by_name named is
  as_named (name ∷ other ∷ more) d low high named x is = absurd (omega (arith, high))
