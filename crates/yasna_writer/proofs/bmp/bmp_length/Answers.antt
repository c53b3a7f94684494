use Rattle.std.proofs.Common.{length, ap, sym, ◌∙◌, arith}
use Rattle.std.proofs.lemmas.List.Sums.{sum_by-take-drop}
use Rattle.std.proofs.lemmas.Str.{encodes-chars}
use Rattle.std.specs.List.{sum_by}
use Rattle.std.specs.Str.{chars}
use Rattle.yasna_writer.specs.Bmp.{octets_begun}
use Rattle.yasna_writer.proofs.Bmps.{text_counted, octets_bound}
use Rattle.yasna_writer.proofs.bmp.bmp_length.Goals as goal

pub loop-rest-init : goal.loop-rest-init
loop-rest-init c =
    let text = c.args.string.now in
    let same = c.as_bytes-rest.ensures.value ∙ sym (encodes-chars text c.utf8.string) in
    omega (arith, ap (sum_by octets_begun) same, text_counted (chars text))

pub overflow_add-length : goal.overflow_add-length
overflow_add-length c =
    let text = c.args.string.now in
    let rest = c.loop-rest.rest.now in
    omega (
      arith,
      c.loop-rest.invariant,
      sum_by-take-drop octets_begun rest 32,
      ap (sum_by octets_begun) c.split_at.ensures.front,
      c.begun_in.ensures,
      octets_bound (chars text),
      ap length (encodes-chars text c.utf8.string),
    )

pub loop-rest-preserved : goal.loop-rest-preserved
loop-rest-preserved c =
    omega (
      arith,
      c.loop-rest.invariant,
      sum_by-take-drop octets_begun c.loop-rest.rest.now 32,
      ap (sum_by octets_begun) c.split_at.ensures.front,
      ap (sum_by octets_begun) c.split_at.ensures.back,
      c.begun_in.ensures,
    )

pub overflow_add-result : goal.overflow_add-result
overflow_add-result c =
    let text = c.args.string.now in
    omega (arith, c.loop-rest.invariant, c.begun_in-2.ensures, octets_bound (chars text), ap length (encodes-chars text c.utf8.string))
