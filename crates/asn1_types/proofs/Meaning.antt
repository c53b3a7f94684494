-- What words refer to, and what types mean through names.
use Rattle.std.proofs.Common.{◌≡◌, ◌∙◌, ◌∷◌, ◌<◌, ◌≤◌, ℕ, Bool, true, List, [], Option, Some, None, Result, Ok, Err, get_or, length, refl, subst, sym, arith}
use Rattle.std.specs.Global.{Vec}
use Rattle.std.specs.Option.{IfSome}
use Rattle.std.specs.Prelude.{codes}
use Rattle.std.specs.Result.{IfOk}
use Rattle.std.specs.Str.{bytes_eq}
use Rattle.asn1_types.specs.declared.cores.TypeAt.{TypeAt}
use Rattle.asn1_types.specs.declared.model.KnownType.{KnownType}
use Rattle.asn1_types.specs.declared.scope.AssignmentPlace.{AssignmentPlace}
use Rattle.asn1_types.specs.declared.problem.Problem.{Problem}
use Rattle.asn1_types.specs.declared.scope.Meaning.{Meaning}
use Rattle.asn1_types.specs.declared.scope.Meaning.TheVariants as meanings
use Rattle.asn1_types.specs.Cores.{HasAlternative, IsAlternative, IsNameOf, MeansType, by_name}
use Rattle.asn1_types.specs.Names.{IsAssigned, Means, MeansFrom, Refers, by_module}
use Rattle.asn1_types.specs.Names as names
use Rattle.asn1_types.specs.Trees.{IsWithin}
use Rattle.asn1_syntax.specs.declared.token.Token.{Token}
use Rattle.asn1_syntax.specs.declared.tree.Component.{Component}
use Rattle.asn1_syntax.specs.declared.tree.Module.{Module}
use Rattle.asn1_syntax.specs.declared.tree.PlainType.{PlainType}
use Rattle.asn1_syntax.specs.declared.tree.TypeNotation.{TypeNotation}
use Rattle.asn1_syntax.specs.declared.tree.TypeNotation.TheVariants as trees

module _ (modules : List Module) (known : List KnownType) where
  one_refers : (m : ℕ) (words : List Token) (d : Token) (r : Result Meaning Problem) → 1 ≤ length words → length words < 2 →
      IfOk r (Means modules known (get_or words 0 d).text.now m) → IfOk r (Refers modules known m words)
  one_refers m [] d r low high means = absurd (omega (arith, low))
  one_refers m (name ∷ []) d (Ok x) low high means = names.by_name refl means
  one_refers m (name ∷ []) d (Err e) low high means = tt
  one_refers m (name ∷ other ∷ more) d r low high means = absurd (omega (arith, high))

  -- one word is a name
  pub as_one_word : (m : ℕ) (given words : List Token) (d : Token) (r : Result Meaning Problem) → given ≡ words → 1 ≤ length given → length given < 2 →
      IfOk r (Means modules known (get_or given 0 d).text.now m) → IfOk r (Refers modules known m words)
  as_one_word m given words d r same low high means =
      subst (λ (ws : List Token). IfOk r (Refers modules known m ws)) same (one_refers m given d r low high means)

  three_refer : (m : ℕ) (words : List Token) (d : Token) (r : Result Meaning Problem) → 3 ≤ length words → length words < 4 →
      bytes_eq (get_or words 1 d).text.now (codes ".") ≡ true →
      IfOk r (MeansFrom modules known (get_or words 2 d).text.now (get_or words 0 d).text.now) → IfOk r (Refers modules known m words)
  three_refer m [] d r low high dot means = absurd (omega (arith, low))
  three_refer m (a ∷ []) d r low high dot means = absurd (omega (arith, low))
  three_refer m (a ∷ b ∷ []) d r low high dot means = absurd (omega (arith, low))
  three_refer m (a ∷ b ∷ c ∷ []) d (Ok x) low high dot means = by_module refl dot means
  three_refer m (a ∷ b ∷ c ∷ []) d (Err e) low high dot means = tt
  three_refer m (a ∷ b ∷ c ∷ e ∷ more) d r low high dot means = absurd (omega (arith, high))

  -- three words are the name of a module, a dot and a name
  pub as_three_words : (m : ℕ) (given words : List Token) (d : Token) (is_dot : Bool) (r : Result Meaning Problem) → given ≡ words → 3 ≤ length given →
      length given < 4 → is_dot ≡ bytes_eq (get_or given 1 d).text.now (codes ".") → is_dot ≡ true →
      IfOk r (MeansFrom modules known (get_or given 2 d).text.now (get_or given 0 d).text.now) → IfOk r (Refers modules known m words)
  as_three_words m given words d is_dot r same low high is dot means =
      subst (λ (ws : List Token). IfOk r (Refers modules known m ws)) same (three_refer m given d r low high (sym is ∙ dot) means)

  -- what the type means that a name means, is what the name means
  pub means_name : {m n k : ℕ} {t u v w : TypeNotation} → IsWithin t u → IsNameOf modules known m u n v → MeansType modules known n v k w →
      MeansType modules known m t k w
  means_name {k = k} {t = t} {v = v} {w = w} within is means =
      by_name (subst (λ (x : TypeNotation). IsWithin t x) is.is within) is.refers is.assigned
      (subst (λ (x : ℕ). MeansType modules known x v k w) is.there means)

  -- the type that is found for a name
  pub as_name_of : (m : ℕ) (t : TypeNotation) (name : PlainType) (place : AssignmentPlace) (found : Option TypeAt) → t ≡ trees.Plain name →
      Refers modules known m name.words.items (meanings.Assigned place) →
      IfSome found (λ at. IsAssigned modules place.«module» place.assignment at.notation.now) → IfSome found (λ at. at.«module» ≡ place.«module») →
      IfSome found (λ next. IsNameOf modules known m t next.«module» next.notation.now)
  as_name_of m t name place (Some next) is refers assigned there = record {
    name = name;
    place = place;
    is = is;
    refers = refers;
    there = there;
    assigned = assigned;
  }
  as_name_of m t name place None is refers assigned there = tt

  -- the alternative of a CHOICE that has a name
  pub as_alternative : (m n k : ℕ) (choice u t v : TypeNotation) (word : Token) (components : Vec (Component TypeNotation))
      (given : List (Component TypeNotation)) (name : Token) (is_choice : Bool) → MeansType modules known m choice n u →
      u ≡ trees.Constructed word components → is_choice ≡ bytes_eq word.text.now (codes "CHOICE") → is_choice ≡ true → given ≡ components.items →
      HasAlternative given name.text.now t → k ≡ n → v ≡ t → IsAlternative modules known m choice name k v
  as_alternative m n k choice u t v word components given name is_choice means is choice_is true_is at has same same_type = record {
    word = word;
    components = components;
    means = subst (λ (x : ℕ). MeansType modules known m choice x (trees.Constructed word components)) (sym same)
        (subst (λ (x : TypeNotation). MeansType modules known m choice n x) is means);
    is_choice = sym choice_is ∙ true_is;
    has = subst (λ (x : TypeNotation). HasAlternative components.items name.text.now x) (sym same_type)
        (subst (λ (cs : List (Component TypeNotation)). HasAlternative cs name.text.now t) at has);
  }
