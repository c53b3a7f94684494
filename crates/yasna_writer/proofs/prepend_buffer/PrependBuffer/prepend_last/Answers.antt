use Rattle.std.proofs.Common.{◌≡◌, ◌≤◌, ◌-◌, ◌+◌, drop, length, refl, ap, ◌∙◌, subst, arith, rules}
use Rattle.std.proofs.lemmas.List.{with_items_is}
use Rattle.yasna_writer.specs.Prepend.{with_prefix}
use Rattle.yasna_writer.specs.Put.{PutBefore}
use Rattle.yasna_writer.proofs.Prepends.{put_later}
use Rattle.yasna_writer.proofs.prepend_buffer.PrependBuffer.prepend_last.Goals as goal

pub returns : goal.returns
returns c =
    let d = c.self.inside in
    let block = d.block in
    let out = c.put_bytes-place.new.out in
    let less = 8 - c.args.some in
    let eight : length c.args.bytes ≡ 8 = search rules in
    let few : less ≤ length c.args.bytes = omega arith in
    let place = c.put_bytes-place.result in
    let there = put_later c.args.bytes less 8 d.start d.start place block.items block.items out few
    (record { room = omega arith; within = omega arith; same = refl })
    (subst (λ b. PutBefore c.args.bytes d.start b out place) c.as_mut_slice.ensures.value c.put_bytes-place.ensures.put) in
    let whole = with_items_is block out (omega (arith, c.put_bytes-place.ensures.len, c.as_mut_slice.ensures.len)) in
    ap (λ x. record { bytes = drop (place + less) x; mode = d.mode }) whole
    ∙ ap (λ x. record { bytes = x; mode = d.mode }) there
    ∙ ap (with_prefix (drop less c.args.bytes)) c.self.view_is
