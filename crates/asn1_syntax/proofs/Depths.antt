-- How deep types nest.
use Rattle.std.proofs.Common.{◌≡◌, ◌<◌, ◌≤◌, ◌∙◌, ℕ, zero, suc, max, List, [], ◌∷◌, Bool, Box, Option, Vec, get_or, length, map, ap, ap₂, refl, sym, arith}
use Rattle.std.specs.Global.{Global}
use Rattle.asn1_syntax.specs.declared.token.Token.{Token}
use Rattle.asn1_syntax.specs.declared.tree.Component.{Component}
use Rattle.asn1_syntax.specs.declared.tree.ListHead.{ListHead}
use Rattle.asn1_syntax.specs.declared.tree.Part.{Part}
use Rattle.asn1_syntax.specs.declared.tree.Part.TheVariants.{Named, ComponentsOf, Extension, GroupStart, GroupEnd}
use Rattle.asn1_syntax.specs.declared.tree.Presence.{Presence}
use Rattle.asn1_syntax.specs.declared.tree.TagNotation.{TagNotation}
use Rattle.asn1_syntax.specs.declared.tree.TypeNotation.{TypeNotation}
use Rattle.asn1_syntax.specs.declared.tree.TypeNotation.TheFolds.{fold-TypeNotation, fold-roll-TypeNotation}
use Rattle.asn1_syntax.specs.declared.tree.TypeNotation.TheOpen.{TypeNotation-F}
use Rattle.asn1_syntax.specs.declared.tree.TypeNotation.TheOpen as open_types
use Rattle.asn1_syntax.specs.declared.tree.TypeNotation.TheVariants.{Tagged, Selected, ListOf, Constructed, Constrained, rolls-Tagged, rolls-Selected, rolls-ListOf, rolls-Constructed, rolls-Constrained}

-- the depth of a part, over the depths of types
abbrev pub part_level : Part ℕ → ℕ
part_level (Named name n presence) = n
part_level (ComponentsOf n) = n
part_level (Extension exception) = 0
part_level (GroupStart version) = 0
part_level GroupEnd = 0

-- the largest depth of parts
abbrev pub largest : List (Component ℕ) → ℕ
largest [] = 0
largest (c ∷ cs) = max (part_level c.part) (largest cs)

abbrev pub one_deeper : TypeNotation-F ℕ → ℕ
one_deeper (open_types.Plain p) = 0
one_deeper (open_types.Tagged tag n) = suc n.value
one_deeper (open_types.Selected name n) = suc n.value
one_deeper (open_types.ListOf head n) = suc n.value
one_deeper (open_types.Constructed word components) = suc (largest components.items)
one_deeper (open_types.Constrained n constraints) = suc n.value

abbrev pub depth_of : TypeNotation → ℕ
depth_of = fold-TypeNotation ℕ one_deeper

-- a part, with the depth of its type
abbrev pub part_depths : Part TypeNotation → Part ℕ
part_depths (Named name inner presence) = Named name (depth_of inner) presence
part_depths (ComponentsOf inner) = ComponentsOf (depth_of inner)
part_depths (Extension exception) = Extension exception
part_depths (GroupStart version) = GroupStart version
part_depths GroupEnd = GroupEnd

abbrev pub component_depths : Component TypeNotation → Component ℕ
component_depths c = record { comma = c.comma; part = part_depths c.part }

-- no part is deeper than the largest depth
pub read_within : (cs : List (Component TypeNotation)) (k : ℕ) (d : Component TypeNotation) → k < length cs →
    part_level (part_depths (get_or cs k d).part) ≤ largest (map component_depths cs)
read_within [] k d within = omega (arith, within)
read_within (c ∷ cs) zero d within = omega arith
read_within (c ∷ cs) (suc k) d within = omega (arith, read_within cs k d (omega (arith, within)))

-- the largest depth of parts, where a function gives each of them the depth of its type
module _ (f : Component TypeNotation → Component ℕ)
    (named : (comma : Bool) (name : Token) (inner : TypeNotation) (after : Presence) →
    part_level (f (record { comma = comma; part = Named name inner after })).part ≡ depth_of inner)
    (components_of : (comma : Bool) (inner : TypeNotation) → part_level (f (record { comma = comma; part = ComponentsOf inner })).part ≡ depth_of inner)
    (extension : (comma : Bool) (after : Option (Vec Token Global)) → part_level (f (record { comma = comma; part = Extension after })).part ≡ 0)
    (group_start : (comma : Bool) (number : Option Token) → part_level (f (record { comma = comma; part = GroupStart number })).part ≡ 0)
    (group_end : (comma : Bool) → part_level (f (record { comma = comma; part = GroupEnd })).part ≡ 0) where
  part_same : (comma : Bool) (p : Part TypeNotation) → part_level (f (record { comma = comma; part = p })).part ≡ part_level (part_depths p)
  part_same comma (Named name inner after) = named comma name inner after
  part_same comma (ComponentsOf inner) = components_of comma inner
  part_same comma (Extension after) = extension comma after
  part_same comma (GroupStart number) = group_start comma number
  part_same comma GroupEnd = group_end comma

  pub largest_same : (cs : List (Component TypeNotation)) → largest (map f cs) ≡ largest (map component_depths cs)
  largest_same [] = refl
  largest_same (c ∷ cs) = ap₂ max (part_same c.comma c.part) (largest_same cs)

-- the type in a type is one less deep
pub tagged_depth : (v : TypeNotation) (tag : TagNotation) (inner : Box TypeNotation Global) → v ≡ Tagged tag inner →
    depth_of v ≡ suc (depth_of inner.value)
tagged_depth v tag inner is = ap depth_of (is ∙ sym (rolls-Tagged tag inner))
    ∙ fold-roll-TypeNotation ℕ one_deeper (open_types.Tagged tag inner)

pub selected_depth : (v : TypeNotation) (name : Token) (inner : Box TypeNotation Global) → v ≡ Selected name inner →
    depth_of v ≡ suc (depth_of inner.value)
selected_depth v name inner is = ap depth_of (is ∙ sym (rolls-Selected name inner))
    ∙ fold-roll-TypeNotation ℕ one_deeper (open_types.Selected name inner)

pub list_depth : (v : TypeNotation) (head : ListHead) (inner : Box TypeNotation Global) → v ≡ ListOf head inner →
    depth_of v ≡ suc (depth_of inner.value)
list_depth v head inner is = ap depth_of (is ∙ sym (rolls-ListOf head inner))
    ∙ fold-roll-TypeNotation ℕ one_deeper (open_types.ListOf head inner)

pub constructed_depth : (v : TypeNotation) (word : Token) (parts : Vec (Component TypeNotation) Global) → v ≡ Constructed word parts →
    depth_of v ≡ suc (largest (map component_depths parts.items))
constructed_depth v word parts is = ap depth_of (is ∙ sym (rolls-Constructed word parts))
    ∙ fold-roll-TypeNotation ℕ one_deeper (open_types.Constructed word parts)
    ∙ ap suc (largest_same _ (λ comma name inner after. refl) (λ comma inner. refl) (λ comma after. refl) (λ comma number. refl) (λ comma. refl)
    parts.items)

pub constrained_depth : (v : TypeNotation) (inner : Box TypeNotation Global) (after : Vec (Vec Token Global) Global) →
    v ≡ Constrained inner after → depth_of v ≡ suc (depth_of inner.value)
constrained_depth v inner after is = ap depth_of (is ∙ sym (rolls-Constrained inner after))
    ∙ fold-roll-TypeNotation ℕ one_deeper (open_types.Constrained inner after)
