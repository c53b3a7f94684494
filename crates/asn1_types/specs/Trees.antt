-- The tags before the types of trees, and the constraints after them.
use Rattle.std.specs.Prelude.{◌≡◌, Bool, true, false}
use Rattle.std.specs.Global.{Box, Vec}
use Rattle.asn1_syntax.specs.declared.token.Token.{Token}
use Rattle.asn1_syntax.specs.declared.tree.TagNotation.{TagNotation}
use Rattle.asn1_syntax.specs.declared.tree.TypeNotation.{TypeNotation}
use Rattle.asn1_syntax.specs.declared.tree.TypeNotation.TheVariants as trees
use Rattle.asn1_syntax.specs.declared.tree.TypeNotation.TheFolds.{fold-TypeNotation}
use Rattle.asn1_syntax.specs.declared.tree.TypeNotation.TheOpen.{TypeNotation-F, Plain, Tagged, Selected, ListOf, Constructed, Constrained}

abbrev pub both : Bool → Bool → Bool
both true second = second
both false second = false

-- whether a tag is written before a type
abbrev pub tag_step : TypeNotation-F Bool → Bool
tag_step (Plain plain) = false
tag_step (Tagged tag inner) = true
tag_step (Selected name inner) = false
tag_step (ListOf head inner) = false
tag_step (Constructed word components) = false
tag_step (Constrained inner constraints) = inner.value

abbrev pub has_tag_before : TypeNotation → Bool
has_tag_before = fold-TypeNotation Bool tag_step

-- the second type is the first one, without some of the tags before it and the constraints after it
pub data IsWithin (t : TypeNotation) : TypeNotation → Type 0 where
  itself : IsWithin t t
  past_tag : {u : TypeNotation} {tag : TagNotation} {inner : Box TypeNotation} → IsWithin t u → u ≡ trees.Tagged tag inner → IsWithin t inner.value
  past_constraints : {u : TypeNotation} {inner : Box TypeNotation} {constraints : Vec (Vec Token)} → IsWithin t u →
      u ≡ trees.Constrained inner constraints → IsWithin t inner.value
