use Rattle.std.proofs.Common.{ℕ, List, [], ◌∷◌, subst}
use Rattle.yasna_writer.specs.State.{Appended}
use Rattle.yasna_writer.proofs.Primitives.{appended_both}
use Rattle.yasna_writer.proofs.SegmentSteps.{full_bits}
use Rattle.yasna_writer.proofs.state.Writer.append_full_bits.Goals as goal

pub returns : goal.returns
returns c =
    let w = c.args.self.now in
    let b = c.args.bytes.now in
    subst (λ (x : List ℕ). Appended x w c.append-2.new.self c.append-2.result) (full_bits b c.requires)
    (appended_both w c.append.new.self c.append-2.new.self c.append-2.result (3 ∷ 130 ∷ 3 ∷ 232 ∷ 0 ∷ []) b (c.in_ok-append.ensures {u = tt})
    c.append-2.ensures)
