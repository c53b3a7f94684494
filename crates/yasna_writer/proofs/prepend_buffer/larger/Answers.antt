use Rattle.std.proofs.Common.{◌≡◌, ◌≤◌, ◌-◌, ◌++◌, length, take, drop, ap, ◌∙◌, arith, rules}
use Rattle.std.proofs.lemmas.List.{drop_at, take_rest}
use Rattle.yasna_writer.proofs.prepend_buffer.larger.Goals as goal

pub returns : goal.returns
returns c =
    let enough : c.in-Some.least ≤ c.max-size.result = omega arith in
    let place = c.max-size.result - (c.len.result - c.args.start) in
    let more : c.args.more ≤ place = omega arith in
    let zeros = c.resize.new.self.items in
    let old = c.deref.result.now in
    let there : length zeros ≡ place = search rules in
    let all : c.extend_from_slice.new.self.items ≡ zeros ++ take (length old - c.args.start) (drop c.args.start old) = search rules in
    record {
      room = more;
      within = search rules;
      same = ap (drop place) all ∙ drop_at zeros _ place there ∙ take_rest old c.args.start ∙ ap (drop c.args.start) c.deref.ensures.value;
    }
