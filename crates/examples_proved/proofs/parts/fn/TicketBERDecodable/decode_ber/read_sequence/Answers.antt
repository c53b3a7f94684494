use Rattle.std.proofs.Common.{◌∷◌, [], rules, false, true, nat_eq, Ok}
use Rattle.yasna.specs.Words.{DecodesByTags, context, part_of}
use Rattle.examples_proved.specs.Tickets.{EncodesVersion, AnyVersion, EncodesNote, AnyNote}
use Rattle.yasna.proofs.Closures.{reads_default_by}
use Rattle.examples_proved.proofs.Reading.{reads_optional_by}
use Rattle.examples_proved.proofs.parts.fn.TicketBERDecodable.decode_ber.read_sequence.Goals as goal

pub returns-in_err-note : goal.returns-in_err-note
returns-in_err-note c = (
  Ok c.in_ok-version.version,
  part_of c.read_default.new.self,
  reads_default_by _ _ (DecodesByTags (context 0 ∷ []) false EncodesVersion AnyVersion) nat_eq 1 (part_of c.args.seq.now) (Ok c.in_ok-version.version)
      (part_of c.read_default.new.self) c.in_ok-version.ensures (λ p q x h. search rules),
  (
    c.read_optional.result,
    part_of c.read_optional.new.self,
    reads_optional_by _ _ (DecodesByTags (context 1 ∷ []) true EncodesNote AnyNote) (part_of c.read_default.new.self) c.read_optional.result
        (part_of c.read_optional.new.self) c.read_optional.ensures (λ p q x e h. search rules),
    search rules,
  ),
)

pub returns : goal.returns
returns c = (
  Ok c.in_ok-version.version,
  part_of c.read_default.new.self,
  reads_default_by _ _ (DecodesByTags (context 0 ∷ []) false EncodesVersion AnyVersion) nat_eq 1 (part_of c.args.seq.now) (Ok c.in_ok-version.version)
      (part_of c.read_default.new.self) c.in_ok-version.ensures (λ p q x h. search rules),
  (
    Ok c.in_ok-note.note,
    part_of c.read_optional.new.self,
    reads_optional_by _ _ (DecodesByTags (context 1 ∷ []) true EncodesNote AnyNote) (part_of c.read_default.new.self) (Ok c.in_ok-note.note)
        (part_of c.read_optional.new.self) c.in_ok-note.ensures (λ p q x e h. search rules),
    c.read_rest.ensures,
  ),
)
