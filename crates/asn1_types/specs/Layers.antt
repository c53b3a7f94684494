-- The tags before a type, outermost first (X.680, 30).
use Rattle.std.specs.Prelude.{◌≡◌, Bool, false, not, List, [], ◌∷◌, ◌++◌}
use Rattle.std.specs.Global.{Box, Vec}
use Rattle.asn1_types.specs.declared.model.TagLayer.{TagLayer}
use Rattle.asn1_types.specs.Tags.{TagSite, IsTagOf}
use Rattle.asn1_types.specs.Trees.{both, has_tag_before}
use Rattle.asn1_syntax.specs.declared.token.Token.{Token}
use Rattle.asn1_syntax.specs.declared.tree.TagNotation.{TagNotation}
use Rattle.asn1_syntax.specs.declared.tree.TypeNotation.{TypeNotation}
use Rattle.asn1_syntax.specs.declared.tree.TypeNotation.TheVariants as trees

-- layers, and then those of the tags before a type, of whether the type without its tags is a CHOICE. The tag
-- next to that CHOICE is before an untagged type. Constraints may be between the tags
pub data AreLayers (e : TagSite) (is_choice : Bool) : List TagLayer → TypeNotation → List TagLayer → Type 0 where
  no_more : {before : List TagLayer} {t : TypeNotation} → has_tag_before t ≡ false → AreLayers e is_choice before t before
  one_more : {before after : List TagLayer} {tag : TagNotation} {inner : Box TypeNotation} {layer : TagLayer} →
      IsTagOf e tag (both is_choice (not (has_tag_before inner.value))) layer →
      AreLayers e is_choice (before ++ layer ∷ []) inner.value after →
      AreLayers e is_choice before (trees.Tagged tag inner) after
  past_constraints : {before after : List TagLayer} {inner : Box TypeNotation} {constraints : Vec (Vec Token)} →
      AreLayers e is_choice before inner.value after → AreLayers e is_choice before (trees.Constrained inner constraints) after
