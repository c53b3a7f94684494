use Rattle.std.proofs.Common.{ℕ, List, ◌++◌, ap, ap₂, ◌∙◌, subst}
use Rattle.yasna_base.specs.declared.tag.PCBit.TheVariants.{Primitive}
use Rattle.yasna_base.specs.BigInteger.{trim_leading}
use Rattle.yasna_base.specs.Canonical.{canonical_element}
use Rattle.yasna_base.proofs.Digits.{all_bytes}
use Rattle.yasna_writer.specs.Integer.{sign_octet}
use Rattle.yasna_writer.specs.Prepend.{Prepends}
use Rattle.yasna_writer.proofs.Integers.{signed_bytes}
use Rattle.yasna_writer.proofs.prepend_buffer.PrependBuffer.prepend_signed_bytes.Goals as goal

pub returns : goal.returns
returns c =
    let old = c.args.self.now in
    let positive = c.args.positive in
    let rest = c.trim_leading-rest.ensures ∙ ap (λ s. trim_leading s c.args.bytes.now) c.sign_byte.ensures in
    let prefix = c.sign_octet.ensures ∙ ap (sign_octet positive) rest in
    let whole = ap₂ (λ x y. x ++ y) prefix rest ∙ signed_bytes positive c.args.bytes.now (all_bytes c.args.bytes.now (λ i. (c.type_inv.bytes i).fits)) in
    subst (λ (b : List ℕ). Prepends (canonical_element old.mode c.args.tag Primitive b) old c.prepend_pieces.new.self c.prepend_pieces.result) whole
    c.prepend_pieces.ensures
