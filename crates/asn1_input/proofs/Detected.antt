-- The format that an input is detected to be in.
use Rattle.std.proofs.Common.{◌≡◌, ◌↔◌, ℕ, List, [], ◌∷◌, ◌++◌, length, get_or, drop, refl, ap, ◌∙◌, sym, subst, arith}
use Rattle.std.specs.List.{AllByRecursion}
use Rattle.asn1_input.specs.Input.{BeginsAsBlock, HasBoundary, IsDetectedIn, IsText}
use Rattle.asn1_input.specs.declared.input_format.InputFormat.{InputFormat}
use Rattle.asn1_input.specs.declared.input_format.InputFormat.TheVariants.{Bytes, Hex, Pem}

module _ (line : List ℕ) (rest : List (List ℕ)) where
  pub boundary_here : BeginsAsBlock line → HasBoundary (line ∷ rest)
  boundary_here x = record { before = []; line = line; after = rest; joined = refl; begins = x; texts = tt }

  boundary_after : (BeginsAsBlock line → ⊥) → (x : HasBoundary (line ∷ rest)) (before : List (List ℕ)) → x.before ≡ before →
      AllByRecursion IsText line × HasBoundary rest
  boundary_after none x [] h =
      let e = x.joined ∙ ap (λ z. z ++ (x.line ∷ x.after)) h in
      absurd (none (subst BeginsAsBlock (sym (ap (λ z. get_or z 0 []) e)) x.begins))
  boundary_after none x (y ∷ ys) h =
      let e = x.joined ∙ ap (λ z. z ++ (x.line ∷ x.after)) h in
      let texts = subst (AllByRecursion (AllByRecursion IsText)) h x.texts in (
        subst (AllByRecursion IsText) (sym (ap (λ z. get_or z 0 []) e)) texts.0,
        record { before = ys; line = x.line; after = x.after; joined = ap (drop 1) e; begins = x.begins; texts = texts.1 },
      )

  pub boundary_beyond : (BeginsAsBlock line → ⊥) → AllByRecursion IsText line → HasBoundary (line ∷ rest) ↔ HasBoundary rest
  boundary_beyond none text = (
    λ x. (boundary_after none x x.before refl).1,
    λ x. record { before = line ∷ x.before; line = x.line; after = x.after; joined = ap (λ z. line ∷ z) x.joined; begins = x.begins; texts = (text, x.texts) },
  )

  pub boundary_hidden : (BeginsAsBlock line → ⊥) → (AllByRecursion IsText line → ⊥) → HasBoundary (line ∷ rest) → ⊥
  boundary_hidden none other x = other (boundary_after none x x.before refl).0

no_lines : (before : List (List ℕ)) (line : List ℕ) (after : List (List ℕ)) → [] ≡ before ++ (line ∷ after) → ⊥
no_lines [] line after e = omega (arith, ap length e)
no_lines (x ∷ before) line after e = omega (arith, ap length e)

pub boundary_nowhere : HasBoundary [] → ⊥
boundary_nowhere x = no_lines x.before x.line x.after x.joined

-- a text is in one format
pub detected_once : (text : List ℕ) (a b : InputFormat) → IsDetectedIn text a → IsDetectedIn text b → a ≡ b
detected_once text Pem Pem x y = refl
detected_once text Pem Hex x y = absurd (y.0 x)
detected_once text Pem Bytes x y = absurd (y.0 x)
detected_once text Hex Pem x y = absurd (x.0 y)
detected_once text Hex Hex x y = refl
detected_once text Hex Bytes x y = absurd (y.1 x.1)
detected_once text Bytes Pem x y = absurd (x.0 y)
detected_once text Bytes Hex x y = absurd (x.1 y.1)
detected_once text Bytes Bytes x y = refl
