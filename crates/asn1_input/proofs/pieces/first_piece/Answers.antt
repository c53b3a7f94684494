use Rattle.std.proofs.Common.{◌≡◌, ◌<◌, ◌++◌, List, ℕ, length, refl, subst}
use Rattle.yasna_base.specs.Grammar.{max_depth}
use Rattle.yasna_base.specs.Raw.{IsRaw}
use Rattle.yasna_base.specs.declared.mode.BERMode.TheVariants.{Ber}
use Rattle.yasna_bytes.specs.Prefix.{HasPrefix}
use Rattle.yasna_bytes.specs.Walk.{TakesRaw, element_of}
use Rattle.asn1_input.specs.Pieces.{element, no_element}
use Rattle.asn1_input.proofs.PieceByPiece.{taken_shorter}
use Rattle.asn1_input.proofs.pieces.first_piece.Goals as goal

pub returns-in-Ok-clause-piece : goal.returns-in-Ok-clause-piece
returns-in-Ok-clause-piece c =
    let p = c.start.result in
    let x = c.in-Ok.element in
    let h : TakesRaw p.mode p.levels p.left.now x c.in-Ok.rest.now = c.in-Ok.ensures {u = tt} in
    let raw = subst (λ m. IsRaw m max_depth (element_of x) x.bytes.now) c.start.ensures.mode
    (subst (λ n. IsRaw p.mode n (element_of x) x.bytes.now) c.start.ensures.levels h.raw) in
    element (element_of x) raw (subst (λ s. s ≡ x.bytes.now ++ c.in-Ok.rest.now) c.start.ensures.left h.joined)

pub returns-in-Ok-clause-shorter : goal.returns-in-Ok-clause-shorter
returns-in-Ok-clause-shorter c some =
    let p = c.start.result in
    let h = taken_shorter p.mode p.levels p.left.now c.in-Ok.element c.in-Ok.rest.now (c.in-Ok.ensures {u = tt}) in
    subst (λ (s : List ℕ). length c.in-Ok.rest.now < length s) c.start.ensures.left h

pub returns-in-Err-clause-piece : goal.returns-in-Err-clause-piece
returns-in-Err-clause-piece c =
    let p = c.start.result in
    let none = subst (λ s. HasPrefix (IsRaw Ber max_depth) s → ⊥) c.start.ensures.left
    (subst (λ m. HasPrefix (IsRaw m max_depth) p.left.now → ⊥) c.start.ensures.mode
    (subst (λ n. HasPrefix (IsRaw p.mode n) p.left.now → ⊥) c.start.ensures.levels (c.in-Err.ensures {u = tt}).none)) in
    no_element none refl refl
