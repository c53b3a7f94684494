use Rattle.std.proofs.Common.{◌≡◌, ◌∙◌, ◌++◌, ◌∷◌, [], Some, refl, sym, subst, ap, rules}
use Rattle.std.specs.Prelude.{option_map}
use Rattle.asn1_input.specs.Reader.{open_lines, cuts, ends, within, IsCutOff, IsDecoded}
use Rattle.asn1_input.specs.declared.block.TextLine.{TextLine}
use Rattle.asn1_input.proofs.Opening.{by_none, by_some, map_some}
use Rattle.asn1_input.proofs.pem.PemReader.push.Goals as goal

pub returns-then-ends_block : goal.returns-then-ends_block
returns-then-ends_block c =
    let lines = c.in-Some.block.lines.items in
    let taken : open_lines c.args.self.now ≡ Some lines =
    sym c.pass-offset.ensures.lines ∙ ap (option_map (λ b. b.lines.items)) (sym c.take.ensures.value ∙ c.in-Some.is) in
    ends lines c.end.result.bytes taken (c.ends_block.ensures.0 (search rules)) refl
    (subst (λ z. IsDecoded lines z c.end.result.bytes) c.pass-offset.ensures.begins c.end.ensures)
    (ap (option_map (λ b. b.lines.items)) c.take.ensures.after) refl

pub returns-then-is_some : goal.returns-then-is_some
returns-then-is_some c =
    let lines = c.in-Some.block.lines.items in
    let taken : open_lines c.args.self.now ≡ Some lines =
    sym c.pass-offset.ensures.lines ∙ ap (option_map (λ b. b.lines.items)) (sym c.take.ensures.value ∙ c.in-Some.is) in
    cuts lines c.cut.result.bytes taken (λ e. let w = c.ends_block.ensures.1 e in absurd (cc))
    (by_some c.begin-next.result c.is_some.result c.is_some.ensures c.if-is_some.true c.begin-next.ensures.begins) refl
    (subst (λ z. IsCutOff z c.cut.result.bytes) c.pass-offset.ensures.begins c.cut.ensures)
    (map_some (λ b. b.lines.items) [] c.begin-next.result c.is_some.result c.is_some.ensures c.if-is_some.true c.begin-next.ensures.lines)
    c.pass-offset.ensures.any

pub returns : goal.returns
returns c =
    let lines = c.in-Some.block.lines.items in
    let last : TextLine = record { offset = c.pass-offset.result; text = c.args.line } in
    let taken : open_lines c.args.self.now ≡ Some lines =
    sym c.pass-offset.ensures.lines ∙ ap (option_map (λ b. b.lines.items)) (sym c.take.ensures.value ∙ c.in-Some.is) in
    let pushed : c.push.new.self.items ≡ lines ++ (last ∷ []) = search rules in
    within lines last taken (
      (λ e. let w = c.ends_block.ensures.1 e in absurd (cc)),
      by_none c.begin-next.result c.is_some.result c.is_some.ensures c.if-is_some.false c.begin-next.ensures.none,
    ) refl refl c.pass-offset.ensures.begins (ap Some pushed) c.pass-offset.ensures.any
