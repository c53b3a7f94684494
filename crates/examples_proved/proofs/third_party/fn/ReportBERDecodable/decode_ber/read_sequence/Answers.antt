use Rattle.std.proofs.Common.{Ok, Err, rules, true, false}
use Rattle.std.specs.Int.{w64}
use Rattle.yasna.specs.Words.{Any, EncodesString, EncodesText, EncodesVec, EncodesOctets, EncodesSigned}
use Rattle.examples_proved.proofs.Reading.{decodes_at, still_fresh}
use Rattle.examples_proved.proofs.third_party.fn.ReportBERDecodable.decode_ber.read_sequence.Goals as goal

pub returns-in_err-name : goal.returns-in_err-name
returns-in_err-name c =
    let first =
    decodes_at true EncodesString (Any EncodesText) (Err c.in_err-name.field-0.0) c.decode_ber.new.reader (c.in_err-name.ensures {u = tt}).decodes
    c.next.ensures.value c.requires.0 in
    (Err c.in_err-name.field-0.0, c.decode_ber.new.reader, first, search rules)

pub returns-in_err-raw : goal.returns-in_err-raw
returns-in_err-raw c =
    let first =
    decodes_at true EncodesString (Any EncodesText) (Ok c.in_ok-name.name) c.decode_ber.new.reader (c.in_ok-name.ensures {u = tt}).decodes
    c.next.ensures.value c.requires.0 in
    let second =
    decodes_at true EncodesVec (Any EncodesOctets) (Err c.in_err-raw.field-0.0) c.decode_ber-2.new.reader (c.in_err-raw.ensures {u = tt}).decodes
    c.next-2.ensures.value (still_fresh first c.requires.0) in
    (Ok c.in_ok-name.name, c.decode_ber.new.reader, first, (Err c.in_err-raw.field-0.0, c.decode_ber-2.new.reader, second, search rules))

pub returns-in_err-number : goal.returns-in_err-number
returns-in_err-number c =
    let first =
    decodes_at true EncodesString (Any EncodesText) (Ok c.in_ok-name.name) c.decode_ber.new.reader (c.in_ok-name.ensures {u = tt}).decodes
    c.next.ensures.value c.requires.0 in
    let second =
    decodes_at true EncodesVec (Any EncodesOctets) (Ok c.in_ok-raw.raw) c.decode_ber-2.new.reader (c.in_ok-raw.ensures {u = tt}).decodes
    c.next-2.ensures.value (still_fresh first c.requires.0) in
    let third =
    decodes_at false (EncodesSigned w64) (Any (EncodesSigned w64)) (Err c.in_err-number.field-0.0)
    c.decode_ber-3.new.reader (c.in_err-number.ensures {u = tt}).decodes
    c.next-3.ensures.value (still_fresh second (still_fresh first c.requires.0)) in (
      Ok c.in_ok-name.name,
      c.decode_ber.new.reader,
      first,
      (Ok c.in_ok-raw.raw, c.decode_ber-2.new.reader, second, (Err c.in_err-number.field-0.0, c.decode_ber-3.new.reader, third, search rules)),
    )

pub returns : goal.returns
returns c =
    let first =
    decodes_at true EncodesString (Any EncodesText) (Ok c.in_ok-name.name) c.decode_ber.new.reader (c.in_ok-name.ensures {u = tt}).decodes
    c.next.ensures.value c.requires.0 in
    let second =
    decodes_at true EncodesVec (Any EncodesOctets) (Ok c.in_ok-raw.raw) c.decode_ber-2.new.reader (c.in_ok-raw.ensures {u = tt}).decodes
    c.next-2.ensures.value (still_fresh first c.requires.0) in
    let third =
    decodes_at false (EncodesSigned w64) (Any (EncodesSigned w64)) (Ok c.in_ok-number.number)
    c.decode_ber-3.new.reader (c.in_ok-number.ensures {u = tt}).decodes
    c.next-3.ensures.value (still_fresh second (still_fresh first c.requires.0)) in (
      Ok c.in_ok-name.name,
      c.decode_ber.new.reader,
      first,
      (Ok c.in_ok-raw.raw, c.decode_ber-2.new.reader, second, (Ok c.in_ok-number.number, c.decode_ber-3.new.reader, third, search rules)),
    )
