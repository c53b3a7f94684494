use Rattle.std.proofs.Common.{◌≡◌, ◌-◌, ◌++◌, length, take, drop, length-drop, rules, ap, ◌∙◌, arith}
use Rattle.yasna_base.specs.Length.{shortest_length}
use Rattle.asn1der_convert.proofs.Appends.{header_put}
use Rattle.asn1der_convert.proofs.writing.enclose_contents.Goals as goal

pub returns : goal.returns
returns c =
    let out = c.args.out.now.items in
    let i = c.args.identifier.now in
    let bytes = c.as_mut_slice-bytes.result.now in
    let all = c.push_length.new.out.items in
    let n : c.len.result ≡ length all = search rules in
    let end : c.len-end.result ≡ length out = search rules in
    let l = shortest_length (c.len-end.result - c.args.start) in
    let joined : bytes ≡ (out ++ i) ++ l =
    c.as_mut_slice-bytes.ensures.value ∙ (c.in_ok-push_length.ensures {u = tt}) ∙ ap (λ z. z ++ l) ((c.in_ok-extend_from_slice.ensures {u = tt}).items) in
    let same = ap length c.as_mut_slice-bytes.ensures.value in
    let size : c.len-end.result - c.args.start ≡ length (drop c.args.start out) = omega (arith, end, length-drop c.args.start out) in
    header_put out i l bytes c.rotate_right.new.self all c.args.start (c.len.result - c.len-end.result) c.push_length.new.out.len joined c.requires
    (omega (arith, n, end, same)) c.as_mut_slice-bytes.ensures.len c.rotate_right.ensures.after ∙
    ap (λ z. take c.args.start out ++ (i ++ (shortest_length z ++ drop c.args.start out))) size
