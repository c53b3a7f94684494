use Rattle.std.proofs.Common.{◌≡◌, ◌∙◌, ◌+◌, [], List, Option, ap, refl, sym, subst, take, arith}
use Rattle.std.specs.Option.{IfSome}
use Rattle.std.specs.Result.{IfOk}
use Rattle.asn1_types.specs.declared.model.Notation.{Notation}
use Rattle.asn1_types.specs.declared.model.Part.{Part}
use Rattle.asn1_types.specs.declared.scope.Meaning.{Meaning}
use Rattle.asn1_types.specs.Context.{Context, context_of}
use Rattle.asn1_types.specs.Definitions.{constructed, enumerated}
use Rattle.asn1_types.specs.Names.{IsAssigned, Refers}
use Rattle.asn1_types.specs.Notations.{AreParts, IsBody, IsNotation, IsOwn, no_parts, of_crate, of_definition, own}
use Rattle.asn1_types.proofs.Growing.{continues_same, continues_then, continues_unchanged}
use Rattle.asn1_types.proofs.Steps.{alternative_in, as_body, as_constrained, as_in_itself, as_in_place, as_list, as_named, as_part, as_plain, as_selected, as_tagged, assigned_at, continues_inside, in_same, parts_next, refers_in, written_in}
use Rattle.asn1_types.proofs.types.+types.Goals as goal
use Rattle.asn1_syntax.specs.declared.tree.Component.{Component}
use Rattle.asn1_syntax.specs.declared.tree.TypeNotation.{TypeNotation}

pub notation-returns-in-Plain-clause-notation : goal.notation-returns-in-Plain-clause-notation
notation-returns-in-Plain-clause-notation t c =
    as_plain (context_of c.plain_notation.new.r) c.args.at.«module» c.args.at.notation.now c.in-Plain.plain c.plain_notation.result c.in-Plain.is
    c.plain_notation.ensures.notation

pub notation-returns-in_ok-inner-in-Tagged-clause-notation : goal.notation-returns-in_ok-inner-in-Tagged-clause-notation
notation-returns-in_ok-inner-in-Tagged-clause-notation t c =
    let same : c.deref.result.now ≡ c.in-Tagged.inner.value = cc (c.deref.ensures) in
    as_tagged (context_of c.notation.new.r) c.args.at.«module» c.args.at.notation.now c.in-Tagged.tag c.in-Tagged.inner
    c.in_ok-inner-in-Tagged.inner c.tagged.result c.in-Tagged.is
    (subst (λ (u : TypeNotation). IsNotation (context_of c.notation.new.r) c.args.at.«module» u c.in_ok-inner-in-Tagged.inner) same
    c.in_ok-inner-in-Tagged.ensures.notation) c.tagged.ensures

pub notation-returns-in_ok-chosen-in-Selected-clause-notation : goal.notation-returns-in_ok-chosen-in-Selected-clause-notation
notation-returns-in_ok-chosen-in-Selected-clause-notation t c =
    let same : c.deref-in-Selected.result.now ≡ c.in-Selected.inner.value = cc (c.deref-in-Selected.ensures) in
    as_selected (context_of c.notation-in-Selected.new.r) c.args.at.«module» c.args.at.notation.now c.in-Selected.name c.in-Selected.inner
    c.in_ok-chosen-in-Selected.chosen.«module» c.in_ok-chosen-in-Selected.chosen.notation.now c.notation-in-Selected.result c.in-Selected.is
    (alternative_in c.args.at.«module» c.inside.result.«module» c.in_ok-chosen-in-Selected.chosen.«module» c.in-Selected.inner.value
    c.inside.result.notation.now c.in_ok-chosen-in-Selected.chosen.notation.now c.in-Selected.name c.notation-in-Selected.ensures.continues.grows
    c.inside.ensures.«module» (c.inside.ensures.notation ∙ same) c.in_ok-chosen-in-Selected.ensures) c.notation-in-Selected.ensures.notation

pub notation-returns-in_ok-element-in-ListOf-clause-notation : goal.notation-returns-in_ok-element-in-ListOf-clause-notation
notation-returns-in_ok-element-in-ListOf-clause-notation t c =
    let same : c.deref-in-ListOf.result.now ≡ c.in-ListOf.inner.value = cc (c.deref-in-ListOf.ensures) in
    as_list (context_of c.list_of.new.r) c.args.at.«module» c.args.at.notation.now c.in-ListOf.head c.in-ListOf.inner
    c.in_ok-element-in-ListOf.element c.list_of.result c.in-ListOf.is
    (in_same (λ (k : Context). IsNotation k c.args.at.«module» c.in-ListOf.inner.value c.in_ok-element-in-ListOf.element) c.list_of.ensures.unchanged
    (subst (λ (u : TypeNotation). IsNotation (context_of c.notation-in-ListOf.new.r) c.args.at.«module» u c.in_ok-element-in-ListOf.element) same
    c.in_ok-element-in-ListOf.ensures.notation)) c.list_of.ensures.list

pub notation-returns-in_ok-unbounded-in-Constrained-clause-notation : goal.notation-returns-in_ok-unbounded-in-Constrained-clause-notation
notation-returns-in_ok-unbounded-in-Constrained-clause-notation t c =
    let same : c.deref-in-Constrained.result.now ≡ c.in-Constrained.inner.value = cc (c.deref-in-Constrained.ensures) in
    as_constrained (context_of c.constrained.new.r) c.args.at.«module» c.args.at.notation.now c.in-Constrained.inner c.in-Constrained.constraints
    c.in_ok-unbounded-in-Constrained.unbounded c.constrained.result c.in-Constrained.is
    (in_same (λ (k : Context). IsNotation k c.args.at.«module» c.in-Constrained.inner.value c.in_ok-unbounded-in-Constrained.unbounded)
    c.constrained.ensures.unchanged
    (subst (λ (u : TypeNotation). IsNotation (context_of c.notation-in-Constrained.new.r) c.args.at.«module» u
    c.in_ok-unbounded-in-Constrained.unbounded) same c.in_ok-unbounded-in-Constrained.ensures.notation)) c.constrained.ensures.constrained

pub plain_notation-returns-in-Some-clause-notation : goal.plain_notation-returns-in-Some-clause-notation
plain_notation-returns-in-Some-clause-notation t c =
    own (subst (λ (found : Option Notation). IfSome found (IsOwn (context_of c.own_notation.new.r) c.args.plain.now)) c.in-Some.is c.in_ok-own.ensures.own)

pub plain_notation-returns-in-Known-clause-notation : goal.plain_notation-returns-in-Known-clause-notation
plain_notation-returns-in-Known-clause-notation t c =
    of_crate (subst (λ (x : Meaning). Refers c.own_notation.new.r.scope.modules.now c.own_notation.new.r.scope.known.now c.args.at.«module»
    c.args.plain.now.words.items x) c.in-Known.is (c.in_ok-index.ensures {u = tt}))

pub plain_notation-reference-requires : goal.plain_notation-reference-requires
plain_notation-reference-requires t c = (
  omega (arith, c.decreases),
  subst (λ (x : Meaning). Refers c.own_notation.new.r.scope.modules.now c.own_notation.new.r.scope.known.now
      c.args.at.«module» c.args.plain.now.words.items x) c.in-Assigned.is (c.in_ok-index.ensures {u = tt}),
)

pub reference-returns-in-Defined-clause-notation : goal.reference-returns-in-Defined-clause-notation
reference-returns-in-Defined-clause-notation t c =
    of_definition (refers_in c.assign.ensures.grows c.requires.refers) (c.is_defined_at.ensures c.if-is_defined_at.true)

pub reference-returns-in-Alias-clause-notation : goal.reference-returns-in-Alias-clause-notation
reference-returns-in-Alias-clause-notation t c =
    as_named (context_of c.aliased.new.r) c.args.user.«module» c.args.name.now c.args.place c.in_ok-assigned.assigned.«module» c.aliased.result
    (continues_then c.assign.ensures c.aliased.ensures.continues).grows c.requires.refers c.in_ok-assigned.ensures.assigned c.in_ok-assigned.ensures.«module»
    c.aliased.ensures.notation

pub aliased-returns-clause-continues : goal.aliased-returns-clause-continues
aliased-returns-clause-continues t c =
    continues_then (continues_unchanged c.enter_alias-before.ensures)
    (continues_then c.notation-outcome.ensures.continues (continues_unchanged c.leave_alias.ensures))

pub aliased-returns-clause-notation : goal.aliased-returns-clause-notation
aliased-returns-clause-notation t c =
    in_same (λ (k : Context). IfOk c.notation-outcome.result (IsNotation k c.args.assigned.«module» c.args.assigned.notation.now)) c.leave_alias.ensures
    c.notation-outcome.ensures.notation

pub reference-returns-in_ok-inner-in-Open-clause-notation : goal.reference-returns-in_ok-inner-in-Open-clause-notation
reference-returns-in_ok-inner-in-Open-clause-notation t c =
    let same = continues_unchanged c.recursive.ensures.unchanged in
    as_in_itself {j = context_of c.assign.new.r} (context_of c.recursive.new.r) c.args.user.«module» c.args.name.now c.args.place c.recursive.result
    (continues_then c.assign.ensures same).grows same.grows c.requires.refers c.in_ok-assigned.ensures.assigned c.in_ok-assigned.ensures.«module»
    c.in_ok-inner-in-Open.ensures c.recursive.ensures.notation

pub part-returns-clause-part : goal.part-returns-clause-part
part-returns-clause-part t c =
    as_part c.args.source c.args.number c.finished.result
    (in_same (λ (k : Context). IsNotation k c.args.source.«module» c.args.source.notation.now c.in_ok-notation.notation) c.finished.ensures.unchanged
    c.in_ok-notation.ensures.notation) c.finished.ensures.finished

pub body-returns-clause-body : goal.body-returns-clause-body
body-returns-clause-body t c =
    as_body c.args.word c.args.components.now c.body_of.result
    (written_in c.args.«module» c.args.components.now c.in_ok-written.written.section c.in_ok-written.written.parts.items
    c.in_ok-parts.ensures.continues.grows c.in_ok-written.ensures) c.in_ok-parts.ensures.parts c.body_of.ensures

pub define-returns-clause-notation : goal.define-returns-clause-notation
define-returns-clause-notation t c =
    let u = c.take_looser-looser.ensures in
    let m = c.args.at.«module» in
    let word = c.in-Constructed.word in
    let there : IsBody (context_of c.take_looser-looser.new.r) m word c.in-Constructed.components.items c.in_ok-body.body =
    in_same (λ (k : Context). IsBody k m word c.in-Constructed.components.items c.in_ok-body.body) u
    (subst (λ (ps : List (Component TypeNotation)). IsBody (context_of c.body.new.r) m word ps c.in_ok-body.body) c.as_slice.ensures.value
    c.in_ok-body.ensures.body) in
    as_in_place (context_of c.add_definition.new.r) c.place_of.result c.take_looser-looser.new.r.work.assignment m word c.in-Constructed.components
    c.args.at.notation.now c.add_definition.result c.in-Constructed.is c.add_definition.ensures.added c.new-tags.ensures.items there

pub define-returns-clause-continues : goal.define-returns-clause-continues
define-returns-clause-continues t c =
    let u = c.take_looser-looser.ensures in
    let m = c.args.at.«module» in
    let word = c.in-Constructed.word in
    let there : IsBody (context_of c.take_looser-looser.new.r) m word c.in-Constructed.components.items c.in_ok-body.body =
    in_same (λ (k : Context). IsBody k m word c.in-Constructed.components.items c.in_ok-body.body) u
    (subst (λ (ps : List (Component TypeNotation)). IsBody (context_of c.body.new.r) m word ps c.in_ok-body.body) c.as_slice.ensures.value
    c.in_ok-body.ensures.body) in
    continues_then (continues_unchanged c.take_looser-outer.ensures) (continues_then c.in_ok-body.ensures.continues
    (continues_then (continues_unchanged u) (continues_inside {b = c.take_looser-looser.new.r} {e = c.add_definition.new.r} c.place_of.result
    {tags = c.new-tags.result.items} {body = c.in_ok-body.body} m word c.in-Constructed.components.items
    c.add_definition.result c.add_definition.ensures.added c.add_definition.ensures.failed c.add_definition.ensures.assignment
    c.new-tags.ensures.items there)))

pub parts-loop-index-init : goal.parts-loop-index-init
parts-loop-index-init t c =
    let none : c.new-parts.result.items ≡ [] = c.new-parts.ensures.items in
    record {
      continues = continues_same c.args.r.now;
      are = subst (λ (ps : List Part). AreParts (context_of c.args.r.now) c.in_ok-numbers.numbers.items [] ps) (sym none) no_parts;
    }

pub parts-loop-index-preserved : goal.parts-loop-index-preserved
parts-loop-index-preserved t c =
    let sources = c.as_slice-sources.result.now in
    record {
      continues = continues_then c.loop-index.invariant.continues c.in_ok-part.ensures.continues;
      are = subst (λ (ps : List Part). AreParts (context_of c.part.new.r) c.in_ok-numbers.numbers.items (take (c.loop-index.index + 1) sources) ps)
          (sym c.in_ok-push.ensures.items)
          (parts_next c.in_ok-numbers.numbers.items c.as_slice.result.now sources c.loop-index.index c.index-sources-index.result
          c.number_of_part-number.result c.in_ok-part.ensures.continues.grows c.loop-index.invariant.are c.loop-index-test.true c.index-sources-index.is
          c.as_slice.ensures.value c.number_of_part-number.ensures c.in_ok-part.ensures.part);
    }

pub assign-definition-outcome-requires : goal.assign-definition-outcome-requires
assign-definition-outcome-requires t c =
    let is : IsAssigned c.args.r.now.scope.modules.now c.args.place.«module» c.args.place.assignment c.in-Some-type_assigned.notation.now = record {
      there = c.in-Some.assignment.now;
      is = c.in-Some.ensures;
      assigns = c.in-Some-type_assigned.ensures;
    } in
    let same = c.begin.ensures.context ∙ c.set_state.ensures.context in
    (omega (arith, c.decreases), (assigned_at is (ap (λ (k : Context). k.modules) same) refl c.in_ok-before.ensures.begun, c.at.ensures))

pub definition-defined-requires-clause-body : goal.definition-defined-requires-clause-body
definition-defined-requires-clause-body t c =
    constructed c.in-Constructed.components c.untagged-inner.ensures c.in-Constructed.is
    (subst (λ (ps : List (Component TypeNotation)). IsBody (context_of c.body.new.r) c.args.at.«module» c.in-Constructed.word ps c.in_ok-body.body)
    c.as_slice.ensures.value c.in_ok-body.ensures.body)

pub definition-defined-requires-then-is_enumerated : goal.definition-defined-requires-then-is_enumerated
definition-defined-requires-then-is_enumerated t c = record {
  assigned = c.requires.assigned;
  place = c.requires.place;
  body = enumerated refl;
}
