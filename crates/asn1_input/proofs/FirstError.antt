-- The first error of blocks, one line after the other.
use Rattle.std.proofs.Common.{◌≡◌, ◌≢◌, ◌⊎◌, ◌↔◌, ℕ, List, [], ◌∷◌, ap, sym, subst, true, false, Option, Some, None, Result, Ok, Err, MatchOption}
use Rattle.std.specs.Prelude.{IfErr, OnOk, unwrap_or}
use Rattle.std.specs.Option.{option_or}
use Rattle.std.specs.Result.{result_ok}
use Rattle.asn1show_walk.specs.Errors.{IsExternal, WalkFails}
use Rattle.asn1show_walk.specs.declared.error.WalkError.{WalkError}
use Rattle.asn1show_walk.proofs.WalkFails.{fails_by}
use Rattle.asn1_input.specs.Reader.{has_any, open_lines, Awaits, GoesOn, IsFirstError, NeverComes}
use Rattle.asn1_input.specs.declared.pem.PemReader.{PemReader}
use Rattle.asn1_input.proofs.Taking.{nothing_awaited, awaited_in_vain}

-- ---- line by line
abbrev ok_of : {A : Type 0} → A → Result A WalkError
ok_of x = Ok x

ok_same : {A : Type 0} (x y : Option A) → ok_of x ≡ ok_of y → x ≡ y
ok_same x y e = ap (λ r. unwrap_or (result_ok r) x) e

some_same : {A : Type 0} (x y : A) → Some x ≡ Some y → x ≡ y
some_same x y e = ap (λ o. unwrap_or o x) e

module _ (H : Type 0) (P : List ℕ → Type 0) where
  -- H is what is awaited, or there was an error that excludes it
  abbrev pub StillHolds : Option WalkError → PemReader → List (List ℕ) → Type 0
  StillHolds first reader lines = MatchOption first (H ↔ Awaits P reader lines) (λ e. WalkFails IsExternal (λ o k. H → ⊥) e)

  taken : (old new : PemReader) (line : List ℕ) (rest : List (List ℕ)) (first : Option WalkError) → StillHolds first old (line ∷ rest) → GoesOn P old line new →
      StillHolds first new rest
  taken old new line rest None i on = ((λ h. (on rest).0 (i.0 h)), (λ w. i.1 ((on rest).1 w)))
  taken old new line rest (Some e) i on = i

  failed : (old new : PemReader) (line : List ℕ) (rest : List (List ℕ)) (first : Option WalkError) (f g : WalkError) → StillHolds first old (line ∷ rest) →
      WalkFails IsExternal (λ o k. NeverComes P old line) f → Some g ≡ option_or first (Some f) → StillHolds (Some g) new rest
  failed old new line rest None f g i never e =
      subst (λ z. WalkFails IsExternal (λ o k. H → ⊥) z) (sym (some_same g f e)) (fails_by IsExternal f (λ o k n h. n rest (i.0 h)) never)
  failed old new line rest (Some x) f g i never e = subst (λ z. WalkFails IsExternal (λ o k. H → ⊥) z) (sym (some_same g x e)) i

  pub after_line : (old new : PemReader) (line : List ℕ) (rest : List (List ℕ)) (first next : Option WalkError) (outcome : Result (Unit {0}) WalkError) →
      StillHolds first old (line ∷ rest) → OnOk outcome (GoesOn P old line new) → IfErr outcome (λ f. WalkFails IsExternal (λ o k. NeverComes P old line) f) →
      IsFirstError first outcome (Ok next) → StillHolds next new rest
  after_line old new line rest first next (Ok u) i on fails e =
      subst (λ z. StillHolds z new rest) (sym (ok_same next first e)) (taken old new line rest first i on)
  after_line old new line rest first None (Err f) i on fails e = absurd e
  after_line old new line rest first (Some g) (Err f) i on fails e = failed old new line rest first f g i fails e.1

  -- ---- at the end
  closed : (reader : PemReader) (first : Option WalkError) → StillHolds first reader [] → None ≡ first → (open_lines reader ≡ None) × (has_any reader ≡ true) → H
  closed reader None i e x = i.1 (nothing_awaited P reader x.0 x.1)
  closed reader (Some f) i e x = absurd (cc)

  pub ends_well : (reader : PemReader) (first : Option WalkError) (outcome : Result (Unit {0}) WalkError) → StillHolds first reader [] →
      OnOk outcome ((open_lines reader ≡ None) × (has_any reader ≡ true)) → IsFirstError first outcome (Ok None) → H
  ends_well reader first (Ok u) i on e = closed reader first i (ok_same None first e) on
  ends_well reader first (Err f) i on e = absurd e

  noted : (reader : PemReader) (first : Option WalkError) (g : WalkError) → StillHolds first reader [] → Some g ≡ first → WalkFails IsExternal (λ o k. H → ⊥) g
  noted reader None g i e = absurd (cc)
  noted reader (Some f) g i e = subst (λ z. WalkFails IsExternal (λ o k. H → ⊥) z) (sym (some_same g f e)) i

  cut_off : (reader : PemReader) (first : Option WalkError) (f g : WalkError) → StillHolds first reader [] →
      WalkFails IsExternal (λ o k. (open_lines reader ≢ None) ⊎ (has_any reader ≡ false)) f → Some g ≡ option_or first (Some f) →
      WalkFails IsExternal (λ o k. H → ⊥) g
  cut_off reader None f g i fails e =
      subst (λ z. WalkFails IsExternal (λ o k. H → ⊥) z) (sym (some_same g f e)) (fails_by IsExternal f (λ o k more h. awaited_in_vain P reader more (i.0 h)) fails)
  cut_off reader (Some x) f g i fails e = subst (λ z. WalkFails IsExternal (λ o k. H → ⊥) z) (sym (some_same g x e)) i

  pub ends_badly : (reader : PemReader) (first : Option WalkError) (outcome : Result (Unit {0}) WalkError) (g : WalkError) → StillHolds first reader [] →
      IfErr outcome (λ f. WalkFails IsExternal (λ o k. (open_lines reader ≢ None) ⊎ (has_any reader ≡ false)) f) → IsFirstError first outcome (Ok (Some g)) →
      WalkFails IsExternal (λ o k. H → ⊥) g
  ends_badly reader first (Ok u) g i fails e = noted reader first g i (ok_same (Some g) first e)
  ends_badly reader first (Err f) g i fails e = cut_off reader first f g i fails e.1

pub is_returned : (first : Option WalkError) (outcome : Result (Unit {0}) WalkError) (g : WalkError) → IsFirstError first outcome (Err g) → IsExternal g
is_returned first (Ok u) g e = absurd (cc)
is_returned first (Err f) g e = subst IsExternal (sym e.1) e.0
