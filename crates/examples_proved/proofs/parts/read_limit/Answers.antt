use Rattle.std.proofs.Common.{rules}
use Rattle.std.specs.Int.{w64}
use Rattle.yasna.specs.Words.{Primitively, IsSigned, NoLevel, NeverAllocates, integer_tag, context}
use Rattle.yasna.proofs.Laws.{context_not_end}
use Rattle.yasna.proofs.Closures.{implicit_by, seen_under, leaf_by_tag}
use Rattle.examples_proved.proofs.Tickets.{implicitly_under}
use Rattle.examples_proved.proofs.parts.read_limit.Goals as goal

pub returns : goal.returns
returns c =
    implicit_by _ (seen_under (Primitively (IsSigned w64)) (λ v. v) NoLevel NeverAllocates integer_tag (context 2))
    (leaf_by_tag (Primitively (IsSigned w64)) (context 2) (context_not_end 2)) c.requires
    (implicitly_under _ c.args.reader.now c.read_tagged_implicit.result c.read_tagged_implicit.new.self c.read_tagged_implicit.ensures c.context.ensures)
    (λ p q x h. search rules)
