use Rattle.std.proofs.Common.{◌≡◌, ◌++◌, length, ap, sym, ◌∙◌, refl, arith, length-append}
use Rattle.std.specs.List.{flat_map}
use Rattle.yasna_base.specs.Digits.{base128}
use Rattle.yasna_base.specs.Oid.{subidentifiers}
use Rattle.yasna_writer.specs.Prepend.{Prepended}
use Rattle.yasna_writer.proofs.Prepends.{both_prepended, prepends_both, header_of_contents}
use Rattle.yasna_writer.proofs.prepend_buffer.PrependBuffer.prepend_oid.Goals as goal

pub returns : goal.returns
returns c =
    let old = c.args.self.now in
    let left = c.prepend_number.new.self in
    let first = base128 c.subidentifiers-first.result.0 in
    let further = flat_map base128 c.subidentifiers-first.result.1.now in
    let contents = first ++ further in
    let all = both_prepended first further contents old c.prepend_numbers.new.self left (c.in_ok-prepend_numbers.ensures {u = tt})
    (c.in_ok-prepend_number.ensures {u = tt}) refl in
    let components : c.deref.result.now ≡ c.args.oid.now = let e = c.deref.ensures.value in let f = c.components.ensures in cc in
    let own = ap (λ ns. flat_map base128 ns) (sym c.subidentifiers-first.ensures ∙ ap subidentifiers components) in
    prepends_both _ contents _ old left c.prepend_header.new.self c.prepend_header.result all c.prepend_header.ensures
    (header_of_contents old.mode c.args.tag _ contents _ (omega (arith, ap (λ (p : Prepended). length p.bytes) all, length-append contents old.bytes)) own)
