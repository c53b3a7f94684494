use Rattle.std.proofs.Common.{ℕ, List, sym, subst}
use Rattle.yasna_base.specs.declared.tag.PCBit.{PCBit}
use Rattle.yasna_base.specs.Raw.{raw_encoding}
use Rattle.yasna_writer.specs.Prepend.{KnownLength}
use Rattle.yasna_writer.proofs.KnownLengths.{raw_primitive}
use Rattle.yasna_writer.proofs.encoded_len.raw_len.Goals as goal

pub returns-in-Primitive : goal.returns-in-Primitive
returns-in-Primitive c =
    let t = c.args.tag in
    let m = c.args.mode in
    λ d e. subst (λ (p : PCBit). KnownLength (raw_encoding t m (record { tag = t; bit = p; payload = d })) c.primitive_len.result) (sym c.in-Primitive.is)
    (subst (λ (b : List ℕ). KnownLength b c.primitive_len.result) (raw_primitive m t t d) (c.primitive_len.ensures m d e))

pub returns-in-Constructed : goal.returns-in-Constructed
returns-in-Constructed c =
    let t = c.args.tag in
    let m = c.args.mode in
    λ d e. subst (λ (p : PCBit). KnownLength (raw_encoding t m (record { tag = t; bit = p; payload = d })) c.constructed_raw_len.result)
    (sym c.in-Constructed.is) (c.constructed_raw_len.ensures d e)
