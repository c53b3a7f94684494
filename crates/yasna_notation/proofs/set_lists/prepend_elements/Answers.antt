use Rattle.std.proofs.Common.{◌≡◌, ◌+◌, ◌-◌, ◌++◌, ◌∷◌, [], None, length, ap, sym, subst, ◌∙◌, rules}
use Rattle.std.proofs.lemmas.List.{append-nil, nil_from_length}
use Rattle.yasna_base.specs.SequenceOf.{elements_encoding}
use Rattle.yasna_writer.specs.Prepend.{with_prefix}
use Rattle.yasna_writer.specs.PartOrder.{part_lens}
use Rattle.yasna_writer.proofs.PartOrders.{part_noted}
use Rattle.yasna_writer.proofs.Prepends.{item_prepended, all_before_last}
use Rattle.yasna_notation.proofs.set_lists.prepend_elements.Goals as goal

pub loop-last-preserved : goal.loop-last-preserved
loop-last-preserved g c =
    let encoding = g.N.Notation.means.encoding_under None in
    let rest = c.loop-last.rest.now in
    let others = c.in-Some.others.now in
    let split = c.in-Some.ensures.cases.0 in
    let old = c.loop-last.out in
    let new = c.prepend.new.out in
    let lens = c.loop-last.lens.items in
    let prepended = c.in_ok-prepend.ensures {u = tt} in
    let pushed : c.push.new.self.items ≡ lens ++ (length new.bytes - length old.bytes) ∷ [] = search rules in
    record {
      can = (all_before_last g.N.Notation.means.can rest others c.in-Some.last.now split c.loop-last.invariant.can).0;
      all = item_prepended encoding rest others c.in-Some.last.now old new _ split prepended c.loop-last.invariant.all;
      noted = ap (λ ns. ns ++ part_lens encoding new.mode others) pushed
          ∙ part_noted encoding rest others c.in-Some.last.now old new lens _ split prepended c.loop-last.invariant.noted;
    }

pub returns : goal.returns
returns g c =
    let encoding = g.N.Notation.means.encoding_under None in
    let old = c.args.out.now in
    let out = c.loop-last.out in
    let lens = c.loop-last.lens.items in
    let none : c.loop-last.rest.now ≡ [] = nil_from_length c.loop-last.rest.now (search rules) in (
      subst (λ vs. with_prefix (elements_encoding encoding out.mode vs) out ≡ with_prefix (elements_encoding encoding old.mode c.args.items.now) old) none
          c.loop-last.invariant.all,
      sym (append-nil lens)
          ∙ subst (λ vs. lens ++ part_lens encoding out.mode vs ≡ part_lens encoding old.mode c.args.items.now) none c.loop-last.invariant.noted,
    )
