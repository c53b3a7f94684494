use Rattle.std.proofs.Common.{◌≡◌, ◌++◌, sym, ap, ap₂, ◌∙◌, append_assoc}
use Rattle.std.specs.List.{flat_map}
use Rattle.yasna_base.specs.declared.tag.PCBit.TheVariants.{Primitive}
use Rattle.yasna_base.specs.Canonical.{canonical_element, definite_element}
use Rattle.yasna_base.specs.Digits.{base128}
use Rattle.yasna_base.specs.Identifier.{identifier, tag_or}
use Rattle.yasna_base.specs.Length.{shortest_length}
use Rattle.yasna_base.specs.Oid.{subidentifiers, oid_tag}
use Rattle.yasna_writer.proofs.Primitives.{wrote_by, appended_both}
use Rattle.yasna_writer.proofs.state.Writer.write_oid.Goals as goal

pub returns : goal.returns
unfolding canonical_element definite_element
returns c =
    let old = c.args.self.now in
    let mid = c.take_tag-tag.new.self in
    let t = tag_or old.tag oid_tag in
    let own : c.take_tag-tag.result ≡ t = search c.take_tag-tag.ensures.tag in
    let octets = base128 c.subidentifiers-first.result.0 ++ flat_map base128 c.subidentifiers-first.result.1.now in
    let components : c.deref.result.now ≡ c.args.oid.now = let e = c.deref.ensures.value in let f = c.components.ensures in cc in
    let contents = ap (λ ns. flat_map base128 ns) (sym c.subidentifiers-first.ensures ∙ ap subidentifiers components) in
    let piece =
    append_assoc (identifier c.take_tag-tag.result Primitive) (shortest_length c.contents_length-length.result) octets
    ∙ ap₂ (λ u n. identifier u Primitive ++ (shortest_length n ++ octets)) own c.contents_length-length.ensures
    ∙ ap (λ b. canonical_element old.mode t Primitive b) contents in
    let new = c.append_subidentifiers.new.self in
    let result = c.append_subidentifiers.result in
    wrote_by _ _ old mid new result (sym c.failed.ensures ∙ c.in_default.is) c.take_tag-tag.ensures.taken piece
    (appended_both mid c.append_header.new.self new result _ _ (c.in_ok-append_header.ensures {u = tt}) c.append_subidentifiers.ensures)
