use Rattle.std.proofs.Common.{◌≡◌, ◌-◌, ◌++◌, length, length-drop, take, drop, ap, sym, refl, ◌∙◌, arith, rules}
use Rattle.std.proofs.lemmas.Result.{MatchResult-weaker}
use Rattle.std.proofs.lemmas.List.{take_rest}
use Rattle.yasna_writer.proofs.Primitives.{appended_last, appended_few}
use Rattle.yasna_writer.proofs.state.Writer.append_last.Goals as goal

pub returns-in-2 : goal.returns-in-2
returns-in-2 c =
    let eight : length c.args.bytes ≡ 8 = search rules in
    appended_few _ _ c.append.result _ c.args.tag _ _ 2 c.args.bytes eight (omega arith) c.in-2.is c.if-tag-ge31.false c.leading-first.ensures
    c.append.ensures

pub returns-in-3 : goal.returns-in-3
returns-in-3 c =
    let eight : length c.args.bytes ≡ 8 = search rules in
    appended_few _ _ c.append-in-3.result _ c.args.tag _ _ 3 c.args.bytes eight (omega arith) c.in-3.is c.if-tag-ge31.false c.leading-first.ensures
    c.append-in-3.ensures

pub returns-in-4 : goal.returns-in-4
returns-in-4 c =
    let eight : length c.args.bytes ≡ 8 = search rules in
    appended_few _ _ c.append-in-4.result _ c.args.tag _ _ 4 c.args.bytes eight (omega arith) c.in-4.is c.if-tag-ge31.false c.leading-first.ensures
    c.append-in-4.ensures

pub returns-in_default : goal.returns-in_default
returns-in_default c =
    let w = c.args.self.now in
    let b = c.args.bytes in
    let n = 8 - c.args.count in
    let eight : length b ≡ 8 = search rules in
    let some = length-drop n b in
    let r = c.headed.result in
    let all = ap (λ k. take (k - n) (drop n r)) (sym c.headed.ensures.all) ∙ take_rest r n ∙ c.headed.ensures.last in
    appended_last _ _ c.append-in_default.result _ c.args.tag _ n (8 - n) b (drop n b) c.if-tag-ge31.false c.leading-first.ensures (omega arith)
    (omega arith) refl
    (MatchResult-weaker c.append-in_default.result c.append-in_default.ensures (λ _ f. f ∙ ap (λ x. record w { bytes = w.bytes ++ x }) all) (λ e f. f))
