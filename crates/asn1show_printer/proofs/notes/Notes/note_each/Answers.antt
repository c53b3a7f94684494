use Rattle.std.proofs.Common.{rules, refl, drop}
use Rattle.std.proofs.lemmas.List.{at_drop_all}
use Rattle.asn1show_printer.proofs.NoteSteps.{note_more, note_end}
use Rattle.asn1show_printer.proofs.notes.Notes.note_each.Goals as goal

pub loop-one-init : goal.loop-one-init
loop-one-init c = λ m. refl

pub loop-one-preserved : goal.loop-one-preserved
loop-one-preserved c = λ m.
    note_more c.args.self.now.conformance c.loop-one.self.conformance c.note.new.self.conformance c.args.said.now c.loop-one.one-index _ (search rules) refl c.note.ensures _ m
    (c.loop-one.invariant m)

pub returns-clause-conformance : goal.returns-clause-conformance
returns-clause-conformance c = λ m.
    note_end c.loop-one.self.conformance (drop c.loop-one.one-index c.args.said.now) _ m (at_drop_all (λ z. z) c.args.said.now c.loop-one.one-index c.loop-one-test.false)
    (c.loop-one.invariant m)
