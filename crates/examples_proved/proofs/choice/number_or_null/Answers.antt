use Rattle.std.proofs.Common.{◌≡◌, rules, false, subst}
use Rattle.std.specs.Prelude.{Some, Ok, Err}
use Rattle.yasna.specs.Words.{BeginsWithTag, Decodes, null_tag}
use Rattle.yasna.proofs.Closures.{looked, found_none, seen}
use Rattle.examples_proved.specs.Items.{EncodesItem, AnyItem}
use Rattle.examples_proved.proofs.Items.{item_coding, no_number, null_read, number_read}
use Rattle.examples_proved.proofs.choice.number_or_null.Goals as goal

pub returns-in-Err-read_null : goal.returns-in-Err-read_null
returns-in-Err-read_null c =
    let s = c.args.item.now in
    let same : c.in-Ok.tag ≡ null_tag = search rules in
    let found = subst (λ t. BeginsWithTag t s.left) same (looked s c.lookahead_tag.result (Ok c.in-Ok.tag) c.lookahead_tag.ensures c.requires.0 c.in-Ok.is) in
    subst (λ z. Decodes false EncodesItem AnyItem s (seen no_number z) c.read_null.new.self) c.in-Err-read_null.is
    (null_read s c.requires found c.read_null.result c.read_null.new.self c.read_null.ensures)

pub returns-in-Err-read_i64 : goal.returns-in-Err-read_i64
returns-in-Err-read_i64 c =
    let s = c.args.item.now in
    let other : c.in-Ok.tag ≡ null_tag → ⊥ = search rules in
    let found = looked s c.lookahead_tag.result (Ok c.in-Ok.tag) c.lookahead_tag.ensures c.requires.0 c.in-Ok.is in
    subst (λ z. Decodes false EncodesItem AnyItem s (seen Some z) c.read_i64.new.self) c.in-Err-read_i64.is
    (number_read c.in-Ok.tag s c.requires found other c.read_i64.result c.read_i64.new.self c.read_i64.ensures)

pub returns-in-Err : goal.returns-in-Err
returns-in-Err c =
    let s = c.args.item.now in
    found_none false item_coding s c.requires c.in-Err.error
    (looked s c.lookahead_tag.result (Err c.in-Err.error) c.lookahead_tag.ensures c.requires.0 c.in-Err.is)

pub returns-in-Ok-read_null : goal.returns-in-Ok-read_null
returns-in-Ok-read_null c = search rules
