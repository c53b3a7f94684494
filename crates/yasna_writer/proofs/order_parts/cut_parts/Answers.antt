use Rattle.std.proofs.Common.{◌≡◌, ◌++◌, ◌∷◌, [], take, drop, sym, ap, ◌∙◌, subst, rules}
use Rattle.std.proofs.lemmas.List.{map-append, nil_from_length}
use Rattle.yasna_writer.specs.declared.ordered_part.OrderedPart.{OrderedPart}
use Rattle.yasna_writer.specs.Parts.{ordered_bytes}
use Rattle.yasna_writer.proofs.PartOrders.{CutSoFar, cut_more, within_left, all_cut}
use Rattle.yasna_writer.proofs.order_parts.cut_parts.Goals as goal

pub loop-len-init : goal.loop-len-init
loop-len-init c =
    let none : c.in_ok-parts.parts.items ≡ [] = search rules in
    λ parts rest h. (parts, ap (λ z. ordered_bytes z ++ parts) (sym none), h)

pub split_at-requires : goal.split_at-requires
split_at-requires c =
    within_left c.args.lens.now c.args.bytes.now (ordered_bytes c.loop-len.parts.items) c.loop-len.others.now c.loop-len.rest.now c.in-Some.before.now c.in-Some.len.now
    c.in-Some.ensures.cases.0 c.loop-len.invariant c.requires

pub loop-len-preserved : goal.loop-len-preserved
loop-len-preserved c =
    let lens = c.args.lens.now in
    let bytes = c.args.bytes.now in
    let done = ordered_bytes c.loop-len.parts.items in
    let left = c.loop-len.rest.now in
    let before = c.in-Some.before.now in
    let len = c.in-Some.len.now in
    let part : c.new.result.bytes.now ≡ take len left = search rules in
    let after : c.split_at.result.1.now ≡ drop len left = search rules in
    let pushed : c.push.new.self.items ≡ c.loop-len.parts.items ++ c.new.result ∷ [] = search rules in
    let all = ap ordered_bytes pushed ∙ map-append (λ (p : OrderedPart). p.bytes.now) c.loop-len.parts.items (c.new.result ∷ []) ∙ ap (λ b. done ++ b ∷ []) part in
    subst (λ z. CutSoFar lens bytes z before c.split_at.result.1.now) (sym all)
    (subst (λ z. CutSoFar lens bytes (done ++ take len left ∷ []) before z) (sym after)
    (cut_more lens bytes done c.loop-len.others.now left before len c.in-Some.ensures.cases.0 c.loop-len.invariant))

pub returns : goal.returns
returns c =
    λ parts rest h.
    all_cut c.args.lens.now c.args.bytes.now (ordered_bytes c.loop-len.parts.items) c.loop-len.others.now c.loop-len.rest.now
    (nil_from_length c.loop-len.others.now (search rules)) c.loop-len.invariant parts rest h
