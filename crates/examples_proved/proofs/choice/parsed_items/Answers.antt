use Rattle.std.proofs.Common.{rules, true, arith}
use Rattle.yasna.specs.Words.{Der, sequence_tag}
use Rattle.yasna.proofs.Laws.{along, list, not_end}
use Rattle.yasna.proofs.Closures.{decodes_by, parse_by, exactly_as, reads_some, same_items}
use Rattle.examples_proved.specs.Items.{EncodesItems, AnyItems}
use Rattle.examples_proved.proofs.Items.{item_coding}
use Rattle.examples_proved.proofs.choice.parsed_items.Goals as goal

pub returns : goal.returns
returns c =
    let s = c.args.buf.now in
    let r = c.parse_der.result in
    let laws = list sequence_tag (not_end 16 (λ e. omega arith)) item_coding in
    let h = parse_by (along (λ v. v.items) laws) (decodes_by {may_allocate = true}) c.parse_der.ensures (λ p q x h. search rules) in
    record {
      items = reads_some true (λ m n v b. EncodesItems m n v.items b) AnyItems Der s r h;
      exactly = λ vs k. same_items r vs (exactly_as true (λ v. v.items) laws Der s r h vs k);
    }
