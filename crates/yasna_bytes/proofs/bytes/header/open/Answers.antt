use Rattle.std.proofs.Common.{rules, ◌≡◌, ◌<◌, ◌++◌, ◌^◌, length, refl, subst}
use Rattle.yasna_base.specs.declared.tag.Tag.{Tag}
use Rattle.yasna_base.specs.Identifier.{identifier, begins}
use Rattle.yasna_bytes.specs.Rejection.{nothing, another}
use Rattle.yasna_bytes.specs.Header.{AnyBit, HasHeader}
use Rattle.yasna_base.proofs.Lists.{empty_is}
use Rattle.yasna_bytes.proofs.Rejection.{elsewhere_rejects}
use Rattle.yasna_bytes.proofs.Header.{header_begins, after_opens}
use Rattle.yasna_bytes.proofs.bytes.header.open.Goals as goal

pub returns-then-is_empty : goal.returns-then-is_empty
returns-then-is_empty c =
    let s = c.args.cursor.left.now in
    let l : length s ≡ 0 = search rules in
    rw c.reject.ensures (elsewhere_rejects (HasHeader AnyBit c.args.cursor.mode c.args.cursor.levels c.args.tag s) c.args.cursor.levels c.args.tag s _
    header_begins (nothing (empty_is s l)) tt refl)

pub returns-then-not-is_tag : goal.returns-then-not-is_tag
returns-then-not-is_tag c =
    let s = c.args.cursor.left.now in
    let found = c.in-Ok.identifier in
    let e : s ≡ identifier found.0 found.1 ++ found.2.now = search rules in
    let b : found.0.tag_number < 2 ^ 64 = search rules in
    rw c.reject-then-not-is_tag.ensures (elsewhere_rejects (HasHeader AnyBit c.args.cursor.mode c.args.cursor.levels c.args.tag s) c.args.cursor.levels
    c.args.tag s _ header_begins (another found.0 b (λ f. let z = (c.if-not-is_tag.ensures {u = tt}).1 f in cc) (begins found.1 found.2.now e)) tt refl)

pub returns : goal.returns
returns c =
    let s = c.args.cursor.left.now in
    let found = c.in-Ok.identifier in
    let e : s ≡ identifier found.0 found.1 ++ found.2.now = search rules in
    let f : found.0 ≡ c.args.tag = search rules in
    let g : s ≡ identifier c.args.tag found.1 ++ found.2.now = subst (λ (t : Tag). s ≡ identifier t found.1 ++ found.2.now) f e in
    after_opens c.args.cursor.mode c.args.cursor.levels c.args.tag s found.1 found.2.now (search rules) g c.open_after_identifier.result c.open_after_identifier.ensures
