use Rattle.std.proofs.Common.{ℕ, List, ◌++◌, ap, ap₂, ◌∙◌, subst, arith, length-append}
use Rattle.yasna_base.specs.declared.tag.PCBit.TheVariants.{Primitive}
use Rattle.yasna_base.specs.BigInteger.{trim_leading}
use Rattle.yasna_base.specs.Canonical.{canonical_element}
use Rattle.yasna_base.proofs.Digits.{all_bytes}
use Rattle.yasna_writer.specs.Integer.{sign_octet}
use Rattle.yasna_writer.specs.Prepend.{KnownLength}
use Rattle.yasna_writer.proofs.Integers.{signed_bytes}
use Rattle.yasna_writer.proofs.encoded_len.signed_len.Goals as goal

pub returns : goal.returns
returns c =
    let positive = c.args.positive in
    let rest = c.trim_leading-rest.ensures ∙ ap (λ s. trim_leading s c.args.bytes.now) c.sign_byte.ensures in
    let prefix = c.sign_octet.ensures ∙ ap (sign_octet positive) rest in
    let whole = ap₂ (λ x y. x ++ y) prefix rest ∙ signed_bytes positive c.args.bytes.now (all_bytes c.args.bytes.now (λ i. (c.type_inv.bytes i).fits)) in
    let x = c.sign_octet.result.now in
    let y = c.trim_leading-rest.result.now in
    λ m. subst (λ (b : List ℕ). KnownLength (canonical_element m c.args.tag Primitive b) c.primitive_len.result) whole
    (c.primitive_len.ensures m (x ++ y) (omega (arith, length-append x y)))
