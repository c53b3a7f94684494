use Rattle.std.proofs.Common.{sym, subst, arith}
use Rattle.yasna_base.specs.declared.mode.BERMode.{BERMode}
use Rattle.yasna_base.specs.declared.tag.PCBit.TheVariants.{Constructed}
use Rattle.yasna_base.specs.Canonical.{canonical_element, indefinite_element}
use Rattle.yasna_writer.specs.Prepend.{KnownLength}
use Rattle.yasna_writer.proofs.KnownLengths.{known_sum, indefinite_length}
use Rattle.yasna_writer.proofs.encoded_len.constructed_len.Goals as goal

pub returns-in-Cer : goal.returns-in-Cer
unfolding canonical_element
returns-in-Cer c =
    let t = c.args.tag in
    λ d e. subst (λ (m : BERMode). KnownLength (canonical_element m t Constructed d) c.checked_add.result) (sym c.in-Cer.is)
    (known_sum _ (indefinite_element t d) _ c.checked_add.result c.checked_add.ensures
    (omega (arith, c.identifier_length.ensures.octets, indefinite_length t d, e)))

pub returns-in-Ber : goal.returns-in-Ber
unfolding canonical_element
returns-in-Ber c =
    λ d e. subst (λ (m : BERMode). KnownLength (canonical_element m c.args.tag Constructed d) c.definite_len.result) (sym c.in-Ber.is)
    (c.definite_len.ensures Constructed d e)

pub returns-in-Der : goal.returns-in-Der
unfolding canonical_element
returns-in-Der c =
    λ d e. subst (λ (m : BERMode). KnownLength (canonical_element m c.args.tag Constructed d) c.definite_len-in-Der.result) (sym c.in-Der.is)
    (c.definite_len-in-Der.ensures Constructed d e)
