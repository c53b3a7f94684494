use Rattle.std.proofs.Common.{◌≡◌, ◌-◌, ◌++◌, length, take, drop, ap, ◌∙◌, append_assoc, rules}
use Rattle.std.proofs.lemmas.List.{drop_at, take_rest}
use Rattle.yasna_writer.proofs.prepend_buffer.prepend_in_larger.Goals as goal

pub returns : goal.returns
returns c =
    let place = c.max-size.result - c.in-Some.least in
    let zeros = c.resize.new.self.items in
    let many = c.args.bytes.now in
    let old = c.deref.result.now in
    let back = take (length old - c.args.start) (drop c.args.start old) in
    let there : length zeros ≡ place = search rules in
    let half : c.extend_from_slice.new.self.items ≡ zeros ++ many = search rules in
    let all : c.extend_from_slice-2.new.self.items ≡ c.extend_from_slice.new.self.items ++ back = search rules in
    let whole : c.extend_from_slice-2.new.self.items ≡ zeros ++ (many ++ back) = all ∙ ap (λ x. x ++ back) half ∙ append_assoc zeros many back in (
      search rules,
      ap (drop place) whole ∙ drop_at zeros (many ++ back) place there
          ∙ ap (λ x. many ++ x) (take_rest old c.args.start ∙ ap (drop c.args.start) c.deref.ensures.value),
    )
