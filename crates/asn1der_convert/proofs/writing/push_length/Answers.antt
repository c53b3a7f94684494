use Rattle.std.proofs.Common.{ap, ◌∙◌, arith}
use Rattle.yasna_base.specs.BigInteger.{trim_leading}
use Rattle.asn1der_convert.proofs.Appends.{long_length}
use Rattle.asn1der_convert.proofs.writing.push_length.Goals as goal

pub returns : goal.returns
returns c =
    let digits = c.without_zeros-digits.ensures ∙ ap (trim_leading 0) c.to_be_bytes-bytes.ensures in
    long_length c.args.length _ _ _ _ (omega arith) (omega arith) digits ((c.in_ok-push-2.ensures {u = tt}).items) ((c.in_ok-extend_from_slice.ensures {u = tt}).items)
