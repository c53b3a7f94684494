use Rattle.std.proofs.Common.{◌≡◌, [], ◌∷◌, ◌++◌, rules, refl, sym, subst, ◌∙◌}
use Rattle.yasna_reader.specs.declared.set.SetElement.{SetElement}
use Rattle.yasna_reader.specs.SetList.{Listed, NotListed}
use Rattle.yasna_reader.proofs.SetListing.{none_listed, out_of_memory_for_list, listed_more, listed_smaller, not_listed, listed_all}
use Rattle.yasna_reader.proofs.set.list_elements.Goals as goal

pub loop-element-init : goal.loop-element-init
loop-element-init c = (
  subst (λ l. Listed c.args.cursor.levels c.args.cursor.mode l c.args.cursor.left.now c.args.cursor.left.now) (sym c.new-list.ensures.items)
      (none_listed c.args.cursor.levels c.args.cursor.mode c.args.cursor.left.now),
  refl,
  refl,
)

pub loop-element-smaller : goal.loop-element-smaller
loop-element-smaller c =
    listed_smaller c.loop-element.here.levels c.loop-element.here.mode c.loop-element.here.left.now c.further-here.result.left.now c.in-Ok.element
    c.in-Ok.rest.now (c.in-Ok.ensures {u = tt}) c.further-here.ensures.left

pub loop-element-preserved : goal.loop-element-preserved
loop-element-preserved c =
    let i = c.loop-element.invariant in
    let listed : SetElement = record { tag = c.in-Ok.element.tag; bytes = c.in-Ok.element.bytes; end = c.saturating_sub.result } in
    let pushed : c.push.new.self.items ≡ c.loop-element.list.items ++ (listed ∷ []) = search rules in (
      subst (λ l. Listed c.args.cursor.levels c.args.cursor.mode l c.args.cursor.left.now c.further-here.result.left.now) (sym pushed)
          (listed_more c.args.cursor.levels c.loop-element.here.levels c.args.cursor.mode c.loop-element.here.mode c.loop-element.list.items
          c.args.cursor.left.now c.loop-element.here.left.now c.further-here.result.left.now listed c.in-Ok.element c.in-Ok.rest.now i.0 i.1 i.2
          (c.in-Ok.ensures {u = tt}) refl refl c.further-here.ensures.left),
      c.further-here.ensures.mode ∙ i.1,
      c.further-here.ensures.levels ∙ i.2,
    )

pub returns-then-is_err : goal.returns-then-is_err
returns-then-is_err c =
    let i = c.loop-element.invariant in
    subst (NotListed c.args.cursor.levels c.args.cursor.mode c.args.cursor.left.now) (sym c.rejected_at.ensures)
    (out_of_memory_for_list c.args.cursor.levels c.loop-element.here.levels c.args.cursor.mode c.loop-element.here.mode c.loop-element.list.items
    c.args.cursor.left.now c.loop-element.here.left.now c.in-Ok.element c.in-Ok.rest.now i.0 i.1 i.2 (c.in-Ok.ensures {u = tt}))

pub returns-then-rejection : goal.returns-then-rejection
returns-then-rejection c =
    let i = c.loop-element.invariant in
    subst (NotListed c.args.cursor.levels c.args.cursor.mode c.args.cursor.left.now) (sym c.rejected_at-then-rejection.ensures)
    (not_listed c.args.cursor.levels c.loop-element.here.levels c.args.cursor.mode c.loop-element.here.mode c.loop-element.list.items
    c.args.cursor.left.now c.loop-element.here.left.now c.in-Err.rejection i.0 i.1 i.2 (c.in-Err.ensures {u = tt}) c.if-rejection.true)

pub returns-in-Err : goal.returns-in-Err
returns-in-Err c =
    let i = c.loop-element.invariant in
    listed_all c.args.cursor.levels c.loop-element.here.levels c.args.cursor.mode c.loop-element.here.mode c.loop-element.list.items
    c.args.cursor.left.now c.loop-element.here.left.now c.in-Err.rejection i.0 (c.in-Err.ensures {u = tt}) c.if-rejection.false
