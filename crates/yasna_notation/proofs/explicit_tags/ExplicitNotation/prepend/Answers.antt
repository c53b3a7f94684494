use Rattle.std.proofs.Common.{◌≡◌, None, rules, subst}
use Rattle.yasna_base.specs.declared.tag.PCBit.TheVariants.{Constructed}
use Rattle.yasna_base.specs.declared.tag.Tag.{Tag}
use Rattle.yasna_base.specs.Canonical.{canonical_element}
use Rattle.yasna_base.specs.Identifier.{tag_or}
use Rattle.yasna_writer.specs.Prepend.{Prepends}
use Rattle.yasna_writer.proofs.Prepends.{element_prepended}
use Rattle.yasna_notation.proofs.explicit_tags.ExplicitNotation.prepend.Goals as goal

pub returns : goal.returns
returns g c =
    let old = c.args.out.now in
    let v = c.args.value.now in
    let encoding = g.N.Notation.means.encoding_under None in
    let begun = c.in_ok-after.ensures {u = tt} in
    let tag : c.unwrap_or.result ≡ tag_or c.args.under g.T.TagName.tag = search rules in
    subst (λ (t : Tag). Prepends (canonical_element old.mode t Constructed (encoding old.mode v)) old c.enclose.new.self c.enclose.result) tag
    (element_prepended c.unwrap_or.result (λ m. encoding m v) old c.begin_contents.new.self c.prepend.new.out c.enclose.new.self
    c.in_ok-after.after c.enclose.result begun.0 begun.1 (c.in_ok-prepend.ensures {u = tt}) c.enclose.ensures)
