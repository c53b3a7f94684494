use Rattle.std.proofs.Common.{rules, arith}
use Rattle.yasna.specs.Words.{Primitively, IsUnsigned}
use Rattle.yasna.proofs.Laws.{context_not_end, unsigned_coding}
use Rattle.yasna.proofs.Closures.{tagged_by, leaf_by}
use Rattle.examples_proved.proofs.Tickets.{under_tag}
use Rattle.examples_proved.proofs.parts.read_version.Goals as goal

pub returns : goal.returns
returns c =
    tagged_by (context_not_end 0) (unsigned_coding 64) (leaf_by (Primitively (IsUnsigned 64)) 2 (λ e. omega arith)) c.requires
    (under_tag c.read_tagged.ensures c.context.ensures) (λ p q x h. search rules)
