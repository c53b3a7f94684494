-- Tags before the types of trees.
use Rattle.std.proofs.Common.{◌≡◌, ◌∙◌, Bool, true, false, ap, sym}
use Rattle.std.specs.Global.{Box, Vec}
use Rattle.asn1_syntax.specs.declared.token.Token.{Token}
use Rattle.asn1_syntax.specs.declared.tree.Component.{Component}
use Rattle.asn1_syntax.specs.declared.tree.ListHead.{ListHead}
use Rattle.asn1_syntax.specs.declared.tree.PlainType.{PlainType}
use Rattle.asn1_syntax.specs.declared.tree.TagNotation.{TagNotation}
use Rattle.asn1_syntax.specs.declared.tree.TypeNotation.{TypeNotation}
use Rattle.asn1_syntax.specs.declared.tree.TypeNotation.TheFolds.{fold-roll-TypeNotation}
use Rattle.asn1_syntax.specs.declared.tree.TypeNotation.TheOpen as open_types
use Rattle.asn1_syntax.specs.declared.tree.TypeNotation.TheVariants.{Plain, Tagged, Selected, ListOf, Constructed, Constrained, rolls-Plain, rolls-Tagged, rolls-Selected, rolls-ListOf, rolls-Constructed, rolls-Constrained}
use Rattle.asn1_types.specs.Trees.{has_tag_before, tag_step}

-- a tag is before a type under a tag
pub tag_at_tagged : (v : TypeNotation) (tag : TagNotation) (inner : Box TypeNotation) → v ≡ Tagged tag inner → has_tag_before v ≡ true
tag_at_tagged v tag inner is = ap has_tag_before (is ∙ sym (rolls-Tagged tag inner)) ∙ fold-roll-TypeNotation Bool tag_step (open_types.Tagged tag inner)

pub tag_at_constrained : (v : TypeNotation) (inner : Box TypeNotation) (after : Vec (Vec Token)) → v ≡ Constrained inner after →
    has_tag_before v ≡ has_tag_before inner.value
tag_at_constrained v inner after is = ap has_tag_before (is ∙ sym (rolls-Constrained inner after))
    ∙ fold-roll-TypeNotation Bool tag_step (open_types.Constrained inner after)

pub tag_at_plain : (v : TypeNotation) (plain : PlainType) → v ≡ Plain plain → has_tag_before v ≡ false
tag_at_plain v plain is = ap has_tag_before (is ∙ sym (rolls-Plain plain)) ∙ fold-roll-TypeNotation Bool tag_step (open_types.Plain plain)

pub tag_at_selected : (v : TypeNotation) (name : Token) (inner : Box TypeNotation) → v ≡ Selected name inner → has_tag_before v ≡ false
tag_at_selected v name inner is = ap has_tag_before (is ∙ sym (rolls-Selected name inner))
    ∙ fold-roll-TypeNotation Bool tag_step (open_types.Selected name inner)

pub tag_at_list : (v : TypeNotation) (head : ListHead) (inner : Box TypeNotation) → v ≡ ListOf head inner → has_tag_before v ≡ false
tag_at_list v head inner is = ap has_tag_before (is ∙ sym (rolls-ListOf head inner)) ∙ fold-roll-TypeNotation Bool tag_step (open_types.ListOf head inner)

pub tag_at_constructed : (v : TypeNotation) (word : Token) (parts : Vec (Component TypeNotation)) → v ≡ Constructed word parts →
    has_tag_before v ≡ false
tag_at_constructed v word parts is = ap has_tag_before (is ∙ sym (rolls-Constructed word parts))
    ∙ fold-roll-TypeNotation Bool tag_step (open_types.Constructed word parts)
