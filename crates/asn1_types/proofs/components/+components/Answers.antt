use Rattle.std.proofs.Common.{[], List, ap, sym, subst}
use Rattle.asn1_types.specs.declared.components.Section.TheVariants as sections
use Rattle.asn1_types.specs.declared.components.WrittenPart.{WrittenPart}
use Rattle.asn1_types.specs.Written.{AreWritten, group_end, group_start, nothing}
use Rattle.asn1_types.proofs.Writing.{as_another, as_marker, as_own, as_pushed, further}
use Rattle.asn1_types.proofs.components.+components.Goals as goal

pub push_components-returns-clause-roots : goal.push_components-returns-clause-roots
push_components-returns-clause-roots t c =
    as_pushed c.args.scope.modules.now c.args.scope.known.now c.args.at.«module» c.in_ok-found.found.«module» c.args.at.notation.now
    c.in_ok-found.found.notation.now c.in-Constructed.word c.in-Constructed.components c.in_ok-inner.inner.section c.as_slice.result.now
    c.in_ok-inner.inner.parts.items c.as_slice-2.result.now c.args.written.now.parts.items c.push_roots.new.written.parts.items c.is.result
    c.push_roots.result c.in_ok-found.ensures c.in-Constructed.is c.is.ensures c.if-is.false c.as_slice.ensures.value c.in_ok-inner.ensures
    c.as_slice-2.ensures.value c.push_roots.ensures.roots

pub written_parts-loop-component-preserved : goal.written_parts-loop-component-preserved
written_parts-loop-component-preserved t c =
    further c.args.scope.modules.now c.args.scope.known.now c.args.«module» c.args.components.now c.loop-component.component-index
    c.component-item.result c.loop-component.written.section c.push_component.new.written.section c.loop-component.written.parts.items
    c.push_component.new.written.parts.items c.loop-component-test.true c.component-item.is c.loop-component.invariant c.in_ok-push_component.ensures

pub push_component-returns-in-Named : goal.push_component-returns-in-Named
push_component-returns-in-Named t c =
    as_own c.args.scope.modules.now c.args.scope.known.now c.args.«module» c.args.component.now c.args.written.now.section c.push_part.new.written.section
    c.args.written.now.parts.items c.push_part.new.written.parts.items c.in-Named.name c.in-Named.notation c.in-Named.presence c.push_part.result
    c.in-Named.is c.push_part.ensures.section c.push_part.ensures.part

pub push_component-returns-in-ComponentsOf : goal.push_component-returns-in-ComponentsOf
push_component-returns-in-ComponentsOf t c =
    as_another c.args.scope.modules.now c.args.scope.known.now c.args.«module» c.args.component.now c.args.written.now.section
    c.push_components.new.written.section c.args.written.now.parts.items c.push_components.new.written.parts.items c.in-ComponentsOf.notation
    c.push_components.result c.in-ComponentsOf.is c.push_components.ensures.section c.push_components.ensures.roots

pub push_component-returns-in-Extension : goal.push_component-returns-in-Extension
push_component-returns-in-Extension t c =
    as_marker c.args.scope.modules.now c.args.scope.known.now c.args.«module» c.args.component.now c.args.written.now.section c.mark.new.written.section
    c.args.written.now.parts.items c.mark.new.written.parts.items c.in-Extension.field-0 c.in-Extension.is c.mark.ensures.section
    (ap (λ v. v.items) c.mark.ensures.parts)

pub push_component-returns-in-GroupStart : goal.push_component-returns-in-GroupStart
push_component-returns-in-GroupStart t c = group_start c.in-GroupStart.is

pub push_component-returns-in-GroupEnd : goal.push_component-returns-in-GroupEnd
push_component-returns-in-GroupEnd t c = group_end c.in-GroupEnd.is

pub written_parts-loop-component-init : goal.written_parts-loop-component-init
written_parts-loop-component-init t c =
    subst (λ (ps : List WrittenPart). AreWritten c.args.scope.modules.now c.args.scope.known.now c.args.«module» [] sections.Root ps)
    (sym c.new.ensures.items) nothing
