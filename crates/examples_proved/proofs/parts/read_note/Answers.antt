use Rattle.std.proofs.Common.{rules}
use Rattle.yasna.specs.Words.{IsOctets, IsDeepOctets, MayAllocate, octets_tag, context}
use Rattle.yasna.proofs.Laws.{context_not_end}
use Rattle.yasna.proofs.Closures.{implicit_by, seen_under, string_by_tag}
use Rattle.examples_proved.proofs.Tickets.{implicitly_under}
use Rattle.examples_proved.proofs.parts.read_note.Goals as goal

pub returns : goal.returns
returns c =
    implicit_by _ (seen_under IsOctets (λ v. v.items) IsDeepOctets MayAllocate octets_tag (context 1))
    (string_by_tag IsOctets (λ v. v.items) (context 1) (context_not_end 1)) c.requires
    (implicitly_under _ c.args.reader.now c.read_tagged_implicit.result c.read_tagged_implicit.new.self c.read_tagged_implicit.ensures c.context.ensures)
    (λ p q x h. search rules)
