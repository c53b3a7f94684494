use Rattle.std.proofs.Common.{rules, true, arith}
use Rattle.std.specs.Int.{w64}
use Rattle.yasna.specs.Words.{Der, sequence_tag}
use Rattle.yasna.proofs.Laws.{along, list, not_end, signed_coding}
use Rattle.yasna.proofs.Closures.{decodes_by, parse_by, exactly_as, reads_some, same_items}
use Rattle.examples_proved.specs.Numbers.{EncodesNumbers, AnyNumbers}
use Rattle.examples_proved.proofs.known.parsed_numbers.Goals as goal

pub returns : goal.returns
returns c =
    let s = c.args.buf.now in
    let r = c.parse_der.result in
    let laws = list sequence_tag (not_end 16 (λ e. omega arith)) (signed_coding w64) in
    let h = parse_by (along (λ v. v.items) laws) (decodes_by {may_allocate = true}) c.parse_der.ensures (λ p q x h. search rules) in
    record {
      numbers = reads_some true (λ m n v b. EncodesNumbers m n v.items b) AnyNumbers Der s r h;
      exactly = λ vs k. same_items r vs (exactly_as true (λ v. v.items) laws Der s r h vs k);
    }
