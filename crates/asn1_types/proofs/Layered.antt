-- The layers of tags, from the facts that a proof has of them.
use Rattle.std.proofs.Common.{◌≡◌, ◌++◌, ◌∷◌, [], List, Bool, not, subst, sym}
use Rattle.std.specs.Global.{Box, Vec}
use Rattle.asn1_types.specs.declared.model.TagLayer.{TagLayer}
use Rattle.asn1_types.specs.Layers.{AreLayers, no_more, one_more, past_constraints}
use Rattle.asn1_types.specs.Tags.{TagSite, IsTagOf}
use Rattle.asn1_types.specs.Trees.{both, has_tag_before}
use Rattle.asn1_types.proofs.TagsBefore.{tag_at_constructed, tag_at_list, tag_at_plain, tag_at_selected}
use Rattle.asn1_syntax.specs.declared.token.Token.{Token}
use Rattle.asn1_syntax.specs.declared.tree.Component.{Component}
use Rattle.asn1_syntax.specs.declared.tree.ListHead.{ListHead}
use Rattle.asn1_syntax.specs.declared.tree.PlainType.{PlainType}
use Rattle.asn1_syntax.specs.declared.tree.TagNotation.{TagNotation}
use Rattle.asn1_syntax.specs.declared.tree.TypeNotation.{TypeNotation}
use Rattle.asn1_syntax.specs.declared.tree.TypeNotation.TheVariants.{Plain, Tagged, Selected, ListOf, Constructed, Constrained}

-- the layers of a type are those of a type that equals it
pub at_tree : (e : TagSite) (c : Bool) (before after : List TagLayer) (v t : TypeNotation) → v ≡ t → AreLayers e c before t after →
    AreLayers e c before v after
at_tree e c before after v t is are = let P : TypeNotation → Type 0 = λ u. AreLayers e c before u after in subst P (sym is) are

pub plain_ends : (e : TagSite) (c : Bool) (before : List TagLayer) (v : TypeNotation) (plain : PlainType) → v ≡ Plain plain →
    AreLayers e c before v before
plain_ends e c before v plain is = no_more (tag_at_plain v plain is)

pub selected_ends : (e : TagSite) (c : Bool) (before : List TagLayer) (v : TypeNotation) (name : Token) (inner : Box TypeNotation) →
    v ≡ Selected name inner → AreLayers e c before v before
selected_ends e c before v name inner is = no_more (tag_at_selected v name inner is)

pub list_ends : (e : TagSite) (c : Bool) (before : List TagLayer) (v : TypeNotation) (head : ListHead) (inner : Box TypeNotation) →
    v ≡ ListOf head inner → AreLayers e c before v before
list_ends e c before v head inner is = no_more (tag_at_list v head inner is)

pub constructed_ends : (e : TagSite) (c : Bool) (before : List TagLayer) (v : TypeNotation) (word : Token)
    (parts : Vec (Component TypeNotation)) → v ≡ Constructed word parts → AreLayers e c before v before
constructed_ends e c before v word parts is = no_more (tag_at_constructed v word parts is)

-- past constraints, in the type before them
pub constrained_goes : (e : TagSite) (c : Bool) (before after : List TagLayer) (v t : TypeNotation) (inner : Box TypeNotation)
    (constraints : Vec (Vec Token)) → v ≡ Constrained inner constraints → t ≡ inner.value → AreLayers e c before t after →
    AreLayers e c before v after
constrained_goes e c before after v t inner constraints is at_inner are =
    let Q : TypeNotation → Type 0 = λ w. AreLayers e c before w after in
    at_tree e c before after v (Constrained inner constraints) is (past_constraints (subst Q at_inner are))

-- past a tag, in the type under it
pub tagged_goes : (e : TagSite) (c flag : Bool) (before more after : List TagLayer) (v t u : TypeNotation) (tag : TagNotation)
    (inner : Box TypeNotation) (layer : TagLayer) → v ≡ Tagged tag inner → t ≡ inner.value → u ≡ inner.value → more ≡ before ++ layer ∷ [] →
    flag ≡ both c (not (has_tag_before u)) → IsTagOf e tag flag layer → AreLayers e c more t after → AreLayers e c before v after
tagged_goes e c flag before more after v t u tag inner layer is at_inner at_same pushed flagged of are =
    let Q : TypeNotation → Type 0 = λ w. AreLayers e c more w after in
    let R : List TagLayer → Type 0 = λ l. AreLayers e c l inner.value after in
    let S : Bool → Type 0 = λ b. IsTagOf e tag b layer in
    let U : TypeNotation → Type 0 = λ w. IsTagOf e tag (both c (not (has_tag_before w))) layer in
    at_tree e c before after v (Tagged tag inner) is (one_more (subst U at_same (subst S flagged of)) (subst R pushed (subst Q at_inner are)))
