use Rattle.std.proofs.Common.{◌≡◌, rules, subst}
use Rattle.yasna_base.specs.declared.tag.PCBit.TheVariants.{Constructed}
use Rattle.yasna_base.specs.declared.tag.Tag.{Tag}
use Rattle.yasna_base.specs.Canonical.{canonical_element, enclosed_encoding}
use Rattle.yasna_base.specs.Identifier.{tag_or}
use Rattle.yasna_base.specs.Sequence.{sequence_tag}
use Rattle.yasna_writer.specs.Prepend.{Prepends}
use Rattle.yasna_writer.proofs.Prepends.{element_prepended}
use Rattle.yasna_notation_types.proofs.tagged_fields.prepend_explicit_fields.Goals as goal

pub returns : goal.returns
returns g c =
    let old = c.args.out.now in
    let v = g.P.PartsBy.held c.args.fields in
    let inner = enclosed_encoding g.P.Parts.encoding sequence_tag in
    let begun = c.in_ok-after.ensures {u = tt} in
    let tag : c.unwrap_or.result ≡ tag_or c.args.under g.T.TagName.tag = search rules in
    subst (λ (t : Tag). Prepends (canonical_element old.mode t Constructed (inner old.mode v)) old c.enclose.new.self c.enclose.result) tag
    (element_prepended c.unwrap_or.result (λ m. inner m v) old c.begin_contents.new.self c.prepend_fields.new.out c.enclose.new.self
    c.in_ok-after.after c.enclose.result begun.0 begun.1 (c.in_ok-prepend_fields.ensures {u = tt}) c.enclose.ensures)
