-- The parts that are written in braces, one after the other.
use Rattle.std.proofs.Common.{◌≡◌, ◌∙◌, ◌∷◌, ◌++◌, ◌+◌, ◌<◌, ℕ, Bool, false, List, [], Option, Result, Ok, Err, ap, get_or, length, sym, subst, take}
use Rattle.std.proofs.lemmas.List.{take_more}
use Rattle.std.specs.Global.{Vec}
use Rattle.std.specs.Prelude.{codes}
use Rattle.std.specs.Result.{OnOk}
use Rattle.std.specs.Str.{bytes_eq}
use Rattle.asn1_types.specs.declared.components.Section.{Section}
use Rattle.asn1_types.specs.declared.components.WrittenPart.{WrittenPart}
use Rattle.asn1_types.specs.declared.model.KnownType.{KnownType}
use Rattle.asn1_types.specs.declared.problem.Stop.{Stop}
use Rattle.asn1_types.specs.Cores.{MeansType}
use Rattle.asn1_types.specs.Written.{ArePushed, AreWritten, IsNext, IsPushed, after_marker, marker, of_another, of_braces, one_more, own, roots}
use Rattle.asn1_syntax.specs.declared.token.Token.{Token}
use Rattle.asn1_syntax.specs.declared.tree.Component.{Component}
use Rattle.asn1_syntax.specs.declared.tree.Module.{Module}
use Rattle.asn1_syntax.specs.declared.tree.Part.TheVariants as written
use Rattle.asn1_syntax.specs.declared.tree.Presence.{Presence}
use Rattle.asn1_syntax.specs.declared.tree.TypeNotation.{TypeNotation}
use Rattle.asn1_syntax.specs.declared.tree.TypeNotation.TheVariants as trees

module _ (modules : List Module) (known : List KnownType) where
  -- the parts of COMPONENTS OF a type
  pub as_pushed : (m n : ℕ) (t u : TypeNotation) (word : Token) (components : Vec (Component TypeNotation)) (section : Section)
      (given : List (Component TypeNotation)) (parts sliced before after : List WrittenPart) (is_choice : Bool) (r : Result Unit Stop) →
      MeansType modules known m t n u → u ≡ trees.Constructed word components → is_choice ≡ bytes_eq word.text.now (codes "CHOICE") →
      is_choice ≡ false → given ≡ components.items → AreWritten modules known n given section parts → sliced ≡ parts →
      OnOk r (after ≡ before ++ roots sliced) → OnOk r (ArePushed modules known m t before after)
  as_pushed m n t u word components section given parts sliced before after is_choice (Ok x) means is choice not_choice at are same items = record {
    more = roots parts;
    are = of_braces components (subst (λ (v : TypeNotation). MeansType modules known m t n v) is means) (sym choice ∙ not_choice)
        (subst (λ (cs : List (Component TypeNotation)). AreWritten modules known n cs section parts) at are);
    items = items ∙ ap (λ (ps : List WrittenPart). before ++ roots ps) same;
  }
  as_pushed m n t u word components section given parts sliced before after is_choice (Err e) means is choice not_choice at are same items = tt

  -- a part that is written in the braces themselves
  pub as_own : (m : ℕ) (component : Component TypeNotation) (section next : Section) (parts after : List WrittenPart) (name : Token) (t : TypeNotation)
      (presence : Presence) (r : Result Unit Stop) → component.part ≡ written.Named name t presence → next ≡ section →
      OnOk r (IsPushed m section name t presence parts after) → OnOk r (IsNext modules known m component section parts next after)
  as_own m component section next parts after name t presence (Ok x) is same pushed =
      subst (λ (s : Section). IsNext modules known m component section parts s after) (sym same)
      (subst (λ (ps : List WrittenPart). IsNext modules known m component section parts section ps) (sym pushed.items) (own pushed.part is pushed.is))
  as_own m component section next parts after name t presence (Err e) is same pushed = tt

  -- the parts of COMPONENTS OF
  pub as_another : (m : ℕ) (component : Component TypeNotation) (section next : Section) (parts after : List WrittenPart) (t : TypeNotation)
      (r : Result Unit Stop) → component.part ≡ written.ComponentsOf t → next ≡ section → OnOk r (ArePushed modules known m t parts after) →
      OnOk r (IsNext modules known m component section parts next after)
  as_another m component section next parts after t (Ok x) is same pushed =
      subst (λ (s : Section). IsNext modules known m component section parts s after) (sym same)
      (subst (λ (ps : List WrittenPart). IsNext modules known m component section parts section ps) (sym pushed.items) (of_another pushed.more is pushed.are))
  as_another m component section next parts after t (Err e) is same pushed = tt

  -- no part of `...`
  pub as_marker : (m : ℕ) (component : Component TypeNotation) (section next : Section) (parts after : List WrittenPart) (exception : Option (Vec Token)) →
      component.part ≡ written.Extension exception → next ≡ after_marker section → after ≡ parts →
      IsNext modules known m component section parts next after
  as_marker m component section next parts after exception is same unchanged =
      subst (λ (s : Section). IsNext modules known m component section parts s after) (sym same)
      (subst (λ (ps : List WrittenPart). IsNext modules known m component section parts (after_marker section) ps) (sym unchanged) (marker is))

  -- the parts of the components up to one more
  pub further : (m : ℕ) (components : List (Component TypeNotation)) (i : ℕ) (component : Component TypeNotation) (before after : Section)
      (parts more : List WrittenPart) → i < length components → component ≡ get_or components i component →
      AreWritten modules known m (take i components) before parts → IsNext modules known m component before parts after more →
      AreWritten modules known m (take (i + 1) components) after more
  further m components i component before after parts more below at are next =
      subst (λ (cs : List (Component TypeNotation)). AreWritten modules known m cs after more)
      (sym (take_more components i component below ∙ ap (λ (c : Component TypeNotation). take i components ++ c ∷ []) (sym at)))
      (one_more component are next)
