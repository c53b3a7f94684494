use Rattle.std.proofs.Common.{rules, false}
use Rattle.yasna.proofs.Closures.{decodes_by, list_by}
use Rattle.examples_proved.proofs.Items.{item_coding}
use Rattle.examples_proved.proofs.choice.fn.parsed_items.parse_der.Goals as goal

pub returns : goal.returns
returns c = list_by item_coding (decodes_by {may_allocate = false}) c.requires c.collect_sequence_of.ensures (λ f f' p q x h. search rules)
