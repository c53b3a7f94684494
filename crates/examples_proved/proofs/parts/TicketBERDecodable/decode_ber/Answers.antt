use Rattle.std.proofs.Common.{◌∷◌, [], rules, refl, true, false, nat_eq}
use Rattle.yasna.specs.Words.{null_tag, boolean_tag, set_tag, context}
use Rattle.yasna.proofs.Closures.{parts_by, part_by_tags, option_by_tags, default_by_tags, end_by_tags, decodes_by, decodes_by_tags, plain_by, parts_repeat_error}
use Rattle.examples_proved.specs.Tickets.{ticket_parts, is_first, detects_first, version_with_tags, note_with_tags, serial_with_tags, kind_with_tags, marks_with_tags}
use Rattle.examples_proved.proofs.parts.TicketBERDecodable.decode_ber.Goals as goal

pub returns-clause-decodes : goal.returns-clause-decodes
returns-clause-decodes c failed =
    parts_by ticket_parts
    (λ w. record { version = w.0; note = w.1.0; serial = w.1.1.0; kind = w.1.1.1.0; marks = w.1.1.1.1.0 })
    (λ w. refl)
    (default_by_tags is_first nat_eq 1 detects_first (λ v. refl) version_with_tags (decodes_by_tags {may_allocate = false}) refl (λ version.
    option_by_tags note_with_tags (decodes_by_tags {may_allocate = true}) refl (λ note.
    part_by_tags serial_with_tags (decodes_by {may_allocate = false}) (λ serial.
    part_by_tags kind_with_tags (plain_by (decodes_by_tags {ts = null_tag ∷ boolean_tag ∷ context 2 ∷ []} {may_allocate = false})) (λ kind.
    part_by_tags marks_with_tags (plain_by (decodes_by_tags {ts = set_tag ∷ []} {may_allocate = true})) (λ marks. end_by_tags))))))
    (failed, c.requires) c.read_sequence.ensures (λ p q x h. search rules)

pub returns-clause-failed : goal.returns-clause-failed
returns-clause-failed c = parts_repeat_error c.read_sequence.ensures
