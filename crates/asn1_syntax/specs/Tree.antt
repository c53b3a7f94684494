-- The texts of the lexical items of a tree, before those of what is after it.
use Rattle.std.specs.Prelude.{◌≡◌, ℕ, Bool, true, false, List, [], ◌∷◌, codes, Option, Some, None}
use Rattle.std.specs.declared.alloc.Global.{Global}
use Rattle.std.specs.Prelude.{Vec}
use Rattle.asn1_syntax.specs.declared.cursor.Cursor.{Cursor}
use Rattle.asn1_syntax.specs.declared.token.Token.{Token}
use Rattle.asn1_syntax.specs.declared.tree.Assignment.{Assignment}
use Rattle.asn1_syntax.specs.declared.tree.Assignment.TheVariants as assignments
use Rattle.asn1_syntax.specs.declared.token.TokenKind.{TokenKind}
use Rattle.asn1_syntax.specs.declared.token.TokenKind.TheVariants.{TypeReference, Identifier}
use Rattle.asn1_syntax.specs.declared.tree.ClassNotation.{ClassNotation}
use Rattle.asn1_syntax.specs.declared.tree.Component.{Component}
use Rattle.asn1_syntax.specs.declared.tree.Import.{Import}
use Rattle.asn1_syntax.specs.declared.tree.ListHead.{ListHead}
use Rattle.asn1_syntax.specs.declared.tree.ListSize.{ListSize}
use Rattle.asn1_syntax.specs.declared.tree.ListSize.TheVariants.{Any, Size, Constraint}
use Rattle.asn1_syntax.specs.declared.tree.Module.{Module}
use Rattle.asn1_syntax.specs.declared.tree.Part.{Part}
use Rattle.asn1_syntax.specs.declared.tree.Part.TheVariants.{Named, ComponentsOf, Extension, GroupStart, GroupEnd}
use Rattle.asn1_syntax.specs.declared.tree.PlainType.{PlainType}
use Rattle.asn1_syntax.specs.declared.tree.Presence.{Presence}
use Rattle.asn1_syntax.specs.declared.tree.Presence.TheVariants.{Required, Optional, Default}
use Rattle.asn1_syntax.specs.declared.tree.TagDefault.{TagDefault}
use Rattle.asn1_syntax.specs.declared.tree.TagDefault.TheVariants.{Omitted, Explicit, Implicit, Automatic}
use Rattle.asn1_syntax.specs.declared.tree.TagNotation.{TagNotation}
use Rattle.asn1_syntax.specs.declared.tree.TypeNotation.{TypeNotation}
use Rattle.asn1_syntax.specs.declared.tree.TypeNotation.TheOpen.{TypeNotation-F, Plain, Tagged, Selected, ListOf, Constructed, Constrained}
use Rattle.asn1_syntax.specs.declared.tree.TypeNotation.TheFolds.{fold-TypeNotation}

-- texts, one after the other
abbrev pub Texts : Type 0
Texts = List (List ℕ)

-- the texts of lexical items
abbrev pub item_texts : List Token → Texts
item_texts [] = []
item_texts (t ∷ ts) = t.text.now ∷ item_texts ts

-- the texts that a cursor has left
abbrev pub left : Cursor → Texts
left c = item_texts c.rest.now

-- the first of texts
abbrev pub BeginsWith : List ℕ → Texts → Type 0
BeginsWith text [] = ⊥
BeginsWith text (first ∷ more) = first ≡ text

-- the texts of lexical items, before others
abbrev pub texts_then : List Token → Texts → Texts
texts_then [] rest = rest
texts_then (t ∷ ts) rest = t.text.now ∷ texts_then ts rest

abbrev pub optional_then : Option Token → Texts → Texts
optional_then None rest = rest
optional_then (Some t) rest = t.text.now ∷ rest

-- lexical items in brackets
abbrev pub braced_then : List Token → Texts → Texts
braced_then ts rest = codes "{" ∷ texts_then ts (codes "}" ∷ rest)

abbrev pub parenthesized_then : List Token → Texts → Texts
parenthesized_then ts rest = codes "(" ∷ texts_then ts (codes ")" ∷ rest)

abbrev pub braces_then : Option (Vec Token Global) → Texts → Texts
braces_then None rest = rest
braces_then (Some ts) rest = braced_then ts.items rest

abbrev pub plain_then : PlainType → Texts → Texts
plain_then p rest = texts_then p.words.items (braces_then p.braces rest)

abbrev pub tag_then : TagNotation → Texts → Texts
tag_then t rest = codes "[" ∷ optional_then t.class (t.number.text.now ∷ codes "]" ∷ optional_then t.mode rest)

abbrev pub size_then : ListSize → Texts → Texts
size_then Any rest = rest
size_then (Size ts) rest = codes "SIZE" ∷ parenthesized_then ts.items rest
size_then (Constraint ts) rest = parenthesized_then ts.items rest

abbrev pub list_head_then : ListHead → Texts → Texts
list_head_then h rest = h.word.text.now ∷ size_then h.size (codes "OF" ∷ optional_then h.element rest)

abbrev pub presence_then : Presence → Texts → Texts
presence_then Required rest = rest
presence_then Optional rest = codes "OPTIONAL" ∷ rest
presence_then (Default value) rest = codes "DEFAULT" ∷ texts_then value.items rest

abbrev pub exception_then : Option (Vec Token Global) → Texts → Texts
exception_then None rest = rest
exception_then (Some ts) rest = codes "!" ∷ texts_then ts.items rest

abbrev pub version_then : Option Token → Texts → Texts
version_then None rest = rest
version_then (Some t) rest = t.text.now ∷ codes ":" ∷ rest

-- a part, over the texts of its type
abbrev pub part_then : Part (Texts → Texts) → Texts → Texts
part_then (Named name inner presence) rest = name.text.now ∷ inner (presence_then presence rest)
part_then (ComponentsOf inner) rest = codes "COMPONENTS" ∷ codes "OF" ∷ inner rest
part_then (Extension exception) rest = codes "..." ∷ exception_then exception rest
part_then (GroupStart version) rest = codes "[[" ∷ version_then version rest
part_then GroupEnd rest = codes "]]" ∷ rest

abbrev pub comma_then : Bool → Texts → Texts
comma_then true rest = codes "," ∷ rest
comma_then false rest = rest

abbrev pub component_then : Component (Texts → Texts) → Texts → Texts
component_then c rest = comma_then c.comma (part_then c.part rest)

abbrev pub components_then : List (Component (Texts → Texts)) → Texts → Texts
components_then [] rest = rest
components_then (c ∷ cs) rest = component_then c (components_then cs rest)

abbrev pub constraints_then : List (Vec Token Global) → Texts → Texts
constraints_then [] rest = rest
constraints_then (c ∷ cs) rest = parenthesized_then c.items (constraints_then cs rest)

-- one level of a type, over the texts of the types in it
abbrev pub type_step : TypeNotation-F (Texts → Texts) → Texts → Texts
type_step (Plain p) rest = plain_then p rest
type_step (Tagged tag inner) rest = tag_then tag (inner.value rest)
type_step (Selected name inner) rest = name.text.now ∷ codes "<" ∷ inner.value rest
type_step (ListOf head inner) rest = list_head_then head (inner.value rest)
type_step (Constructed word components) rest = word.text.now ∷ codes "{" ∷ components_then components.items (codes "}" ∷ rest)
type_step (Constrained inner constraints) rest = inner.value (constraints_then constraints.items rest)

abbrev pub type_then : TypeNotation → Texts → Texts
type_then = fold-TypeNotation (Texts → Texts) type_step

-- a component, with the texts of its type
abbrev pub part_texts : Part TypeNotation → Part (Texts → Texts)
part_texts (Named name inner presence) = Named name (type_then inner) presence
part_texts (ComponentsOf inner) = ComponentsOf (type_then inner)
part_texts (Extension exception) = Extension exception
part_texts (GroupStart version) = GroupStart version
part_texts GroupEnd = GroupEnd

abbrev pub component_texts : Component TypeNotation → Component (Texts → Texts)
component_texts c = record { comma = c.comma; part = part_texts c.part }

abbrev pub tags_then : TagDefault → Texts → Texts
tags_then Omitted rest = rest
tags_then Explicit rest = codes "EXPLICIT" ∷ codes "TAGS" ∷ rest
tags_then Implicit rest = codes "IMPLICIT" ∷ codes "TAGS" ∷ rest
tags_then Automatic rest = codes "AUTOMATIC" ∷ codes "TAGS" ∷ rest

abbrev pub extensible_then : Bool → Texts → Texts
extensible_then true rest = codes "EXTENSIBILITY" ∷ codes "IMPLIED" ∷ rest
extensible_then false rest = rest

abbrev pub exports_then : Option (Vec Token Global) → Texts → Texts
exports_then None rest = rest
exports_then (Some ts) rest = codes "EXPORTS" ∷ texts_then ts.items (codes ";" ∷ rest)

-- a lexical item is a name
abbrev pub is_name : TokenKind → Bool
is_name TypeReference = true
is_name Identifier = true
is_name _ = false

-- names, each after a comma, and braces after names
abbrev pub names_then : List Token → Texts → Texts
names_then [] rest = rest
names_then (t ∷ ts) rest = comma_then (is_name t.kind) (t.text.now ∷ names_then ts rest)

abbrev pub selection_then : Option Token → Texts → Texts
selection_then None rest = rest
selection_then (Some t) rest = codes "WITH" ∷ t.text.now ∷ rest

abbrev pub import_then : Import → Texts → Texts
import_then i rest = i.first.text.now ∷ names_then i.others.items
    (codes "FROM" ∷ i.module.text.now ∷ braces_then i.identifier (optional_then i.value (selection_then i.selection rest)))

abbrev pub import_list_then : List Import → Texts → Texts
import_list_then [] rest = rest
import_list_then (i ∷ more) rest = import_then i (import_list_then more rest)

abbrev pub imports_then : Option (Vec Import Global) → Texts → Texts
imports_then None rest = rest
imports_then (Some is) rest = codes "IMPORTS" ∷ import_list_then is.items (codes ";" ∷ rest)

abbrev pub syntax_then : Option (Vec Token Global) → Texts → Texts
syntax_then None rest = rest
syntax_then (Some ts) rest = codes "WITH" ∷ codes "SYNTAX" ∷ braced_then ts.items rest

abbrev pub class_then : ClassNotation → Texts → Texts
class_then c rest = codes "CLASS" ∷ braced_then c.fields.items (syntax_then c.syntax rest)

abbrev pub assignment_then : Assignment → Texts → Texts
assignment_then (assignments.Type name notation) rest = name.text.now ∷ codes "::=" ∷ type_then notation rest
assignment_then (assignments.Value name notation value) rest = name.text.now ∷ type_then notation (codes "::=" ∷ texts_then value.items rest)
assignment_then (assignments.ParameterizedType name parameters notation) rest =
    name.text.now ∷ braced_then parameters.items (codes "::=" ∷ type_then notation rest)
assignment_then (assignments.ParameterizedValue name parameters notation value) rest =
    name.text.now ∷ braced_then parameters.items (type_then notation (codes "::=" ∷ texts_then value.items rest))
assignment_then (assignments.Class name parameters class) rest = name.text.now ∷ braces_then parameters (codes "::=" ∷ class_then class rest)

abbrev pub assignments_then : List Assignment → Texts → Texts
assignments_then [] rest = rest
assignments_then (a ∷ more) rest = assignment_then a (assignments_then more rest)

abbrev pub module_then : Module → Texts → Texts
module_then m rest =
    m.name.text.now ∷ braces_then m.identifier (optional_then m.iri (codes "DEFINITIONS" ∷ tags_then m.tags (extensible_then m.extensible
    (codes "::=" ∷ codes "BEGIN" ∷ exports_then m.exports (imports_then m.imports (assignments_then m.assignments.items (codes "END" ∷ rest)))))))

abbrev pub modules_then : List Module → Texts → Texts
modules_then [] rest = rest
modules_then (m ∷ ms) rest = module_then m (modules_then ms rest)
