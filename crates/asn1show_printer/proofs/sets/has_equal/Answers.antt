use Rattle.std.proofs.Common.{rules, ◌≡◌, ◌↔◌, ◌<◌, length, arith}
use Rattle.std.specs.Prelude.{IsTrue, nat_lt}
use Rattle.std.proofs.lemmas.Bool.Decides.{nat_tests}
use Rattle.asn1show_printer.proofs.Tags.{fewer_where_tags}
use Rattle.yasna_base.specs.contracts.tag.TagOrd.TheImpl.{ghosts as of_order}
use Rattle.yasna_base.specs.contracts.tag.TagPartialEq.TheImpl.{ghosts as of_equality}
use Rattle.asn1show_printer.proofs.sets.has_equal.Goals as goal

pub returns : goal.returns
returns c =
    let all : length c.sort.new.self.items ≡ length c.args.tags.items = search rules in
    let few : c.len.result ≡ length c.dedup.new.self.items = search rules in
    let many : c.len-count.result ≡ length c.args.tags.items = search rules in
    let fewer : IsTrue (nat_lt c.len.result c.len-count.result) ↔ (length c.dedup.new.self.items < length c.args.tags.items) =
    (λ t. grind (arith, nat_tests), λ l. grind (arith, nat_tests)) in
    fewer_where_tags {R = of_order.cmp} {E = of_equality.eq} (λ t u. search rules) (λ t u. (λ e. search rules, λ e. search rules)) c.args.tags.items c.sort.new.self.items
    c.dedup.new.self.items (c.in_ok-sort.ensures {u = tt}).permutation all (c.in_ok-sort.ensures {u = tt}).sorted c.dedup.ensures.filtered _ fewer
