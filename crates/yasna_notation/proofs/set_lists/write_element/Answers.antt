use Rattle.std.proofs.Common.{None, subst}
use Rattle.yasna_base.specs.Identifier.{tag_or}
use Rattle.yasna_base.specs.Null.{null_tag, null_encoding}
use Rattle.yasna_writer.specs.View.{Writes, Wrote}
use Rattle.yasna_notation.proofs.SetParts.{after_null}
use Rattle.yasna_notation.proofs.set_lists.write_element.Goals as goal

pub returns-in_ok-write_null-in-Err : goal.returns-in_ok-write_null-in-Err
returns-in_ok-write_null-in-Err g c =
    let old = c.args.writer.now in
    let mid = c.write.new.writer in
    let new = c.write_null.new.self in
    let encoding = g.N.Notation.means.encoding_under in
    let b = encoding None old.mode c.args.item.now in
    let d = encoding old.tag old.mode c.args.item.now in
    let t = tag_or mid.tag null_tag in
    after_null b d t mid.mode old mid new c.in-Err.error c.in_ok-write_null-in-Err.field-0
    (subst (λ r. Writes d old mid r) c.in-Err.is c.write.ensures)
    (subst (λ r. Wrote (null_encoding t mid.mode tt) mid new r) c.in_ok-write_null-in-Err.was c.write_null.ensures)
