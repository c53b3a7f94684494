use Rattle.std.proofs.Common.{◌↔◌, IsTrue, subst, sym}
use Rattle.yasna_base.proofs.Digits.{slice_bytes}
use Rattle.asn1_contents.specs.Contents.{ArePlain}
use Rattle.asn1_contents.specs.declared.contents_type.ContentsType.{ContentsType}
use Rattle.asn1_contents.proofs.Contents.{both, number_is}
use Rattle.asn1_contents.proofs.plain.are_plain.Goals as goal

pub returns-in-Number : goal.returns-in-Number
returns-in-Number c =
    subst (λ (k : ContentsType). IsTrue c.is_number.result ↔ ArePlain k c.args.contents.now) (sym c.in-Number.is)
    (both c.is_number.ensures (number_is c.args.contents.now (slice_bytes c.args.contents.now c.type_inv.contents)))
