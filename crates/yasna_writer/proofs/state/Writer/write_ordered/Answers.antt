use Rattle.std.proofs.Common.{◌++◌, ap, ◌∙◌}
use Rattle.std.specs.List.{concat, flat_map}
use Rattle.yasna_base.specs.declared.tag.PCBit.TheVariants.{Constructed}
use Rattle.yasna_base.specs.Canonical.{canonical_element}
use Rattle.yasna_base.proofs.Options.{option_weaker}
use Rattle.yasna_writer.specs.declared.ordered_part.OrderedPart.{OrderedPart}
use Rattle.yasna_writer.specs.View.{holding}
use Rattle.yasna_writer.proofs.Sets.{flat_concat}
use Rattle.yasna_writer.proofs.state.Writer.write_ordered.Goals as goal

pub returns-in-Ok : goal.returns-in-Ok
returns-in-Ok c =
    let old = c.args.self.now in
    let bytes = λ (p : OrderedPart). p.bytes.now in
    option_weaker c.write_parts.new.self.failed _ _ _ _
    (λ e.
    e ∙ ap (λ b. holding old (old.bytes ++ canonical_element old.mode c.args.tag Constructed b))
    (ap (flat_map bytes) c.deref.ensures.value ∙ flat_concat bytes c.in-Ok.ordered.items ∙ ap concat (c.in-Ok.ensures {u = tt}))) (λ k e. e) c.write_parts.ensures
