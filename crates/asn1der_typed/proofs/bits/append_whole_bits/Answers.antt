use Rattle.std.proofs.Common.{◌≡◌, ◌-◌, ◌*◌, length, subst, arith}
use Rattle.asn1der_convert.specs.WholeBits.{UnusedAndBytes, AreWholeBits}
use Rattle.asn1der_typed.specs.Appending.{HasDerCount}
use Rattle.asn1der_typed.proofs.BitStrings.{whole_appended}
use Rattle.asn1der_typed.proofs.bits.append_whole_bits.Goals as goal

pub returns : goal.returns
returns c =
    let b : UnusedAndBytes = record { unused = c.in-Some.unused; bytes = c.in-Some.octets.now } in
    let contents = c.args.contents.now in
    let read : AreWholeBits b contents = c.in-Some.ensures {u = tt} in
    let count : c.saturating_sub-count.result ≡ 8 * length b.bytes - b.unused =
    omega (arith, c.saturating_mul.ensures, c.saturating_sub-count.ensures, c.from.ensures, read.in_range) in
    whole_appended c.args.value b contents c.args.identifier_bytes.now c.args.out.now.items c.append_first_bits.new.out.items c.der_count.result read
    (subst (λ n. HasDerCount c.args.value b.bytes n c.der_count.result) count c.der_count.ensures) (c.in_ok-append_first_bits.ensures {u = tt})
