use Rattle.std.proofs.Common.{rules, true, subst}
use Rattle.yasna.specs.Words.{IsNested, AnyNested, Decodes}
use Rattle.yasna.proofs.Closures.{decodes_by, list_by, seen}
use Rattle.yasna.proofs.Laws.{nested_coding}
use Rattle.examples_proved.specs.Branches.{branches_of}
use Rattle.examples_proved.proofs.Trees.{tree_of, tree_read}
use Rattle.examples_proved.proofs.tree.+TreeBERDecodable-decode_ber+fn-TreeBERDecodable-decode_ber-collect_sequence_of.Goals as goal

pub returns-in-Ok-clause-decodes : goal.returns-in-Ok-clause-decodes
returns-in-Ok-clause-decodes t c failed =
    let s = c.args.reader.now in
    let s' = c.collect_sequence_of.new.self in
    let h = list_by (nested_coding branches_of) (decodes_by {may_allocate = true}) (failed, c.requires) c.collect_sequence_of.ensures (λ f f' p q x h. search rules) in
    subst (λ z. Decodes true (IsNested branches_of) AnyNested s (seen tree_of z) s') c.in-Ok.is
    (tree_read s c.collect_sequence_of.result s' h)

pub returns-in-Err-clause-decodes : goal.returns-in-Err-clause-decodes
returns-in-Err-clause-decodes t c failed =
    let s = c.args.reader.now in
    let s' = c.collect_sequence_of.new.self in
    let h = list_by (nested_coding branches_of) (decodes_by {may_allocate = true}) (failed, c.requires) c.collect_sequence_of.ensures (λ f f' p q x h. search rules) in
    subst (λ z. Decodes true (IsNested branches_of) AnyNested s (seen tree_of z) s') c.in-Err.is
    (tree_read s c.collect_sequence_of.result s' h)
