use Rattle.std.proofs.Common.{rules, subst, Ok, Err, ◌&&◌}
use Rattle.std.proofs.lemmas.Bool.{and_parts}
use Rattle.yasna_reader.specs.State.{part_of}
use Rattle.yasna_notation.specs.Notation.{ReadsAs}
use Rattle.yasna_notation.specs.Parts.{ReadsContents, is_known}
use Rattle.yasna_notation.proofs.Contents.{option_first, optional_called, first_read, first_failed}
use Rattle.yasna_notation.proofs.parts.Tuple2OptionalParts.read_parts.Goals as goal

pub returns : goal.returns
returns g c =
    let n = g.A.Notation.means in
    let w = g.W.Parts in
    let s = part_of c.args.seq.now in
    let m = part_of c.read_optional.new.self in
    let first = option_first {retagged = n.retagged} {may_allocate = n.may_allocate} {B = n.under} {S = n.any_under}
    (λ b. (g.met.A.Notation.lawful b).own) g.met.W.Parts.laws
    c.requires.unambiguous in
    let read = optional_called _ _ (ReadsAs n.tags_known n.tags n.retagged n.may_allocate n.under n.any_under) s c.read_optional.result m
    c.read_optional.ensures (λ p q x h. search rules) in
    let left = part_of c.read_parts.new.seq in
    first_read w.may_allocate w.parts first s c.requires.fresh c.read_optional.result m read c.in-Ok.first c.in-Ok.is
    (Ok c.in-Ok-read_parts.others) left
    (subst (λ z. ReadsContents w.may_allocate w.parts w.any_parts m z left) c.in-Ok-read_parts.is c.read_parts.ensures)

pub returns-in-Err-read_parts : goal.returns-in-Err-read_parts
returns-in-Err-read_parts g c =
    let n = g.A.Notation.means in
    let w = g.W.Parts in
    let s = part_of c.args.seq.now in
    let m = part_of c.read_optional.new.self in
    let first = option_first {retagged = n.retagged} {may_allocate = n.may_allocate} {B = n.under} {S = n.any_under}
    (λ b. (g.met.A.Notation.lawful b).own) g.met.W.Parts.laws
    c.requires.unambiguous in
    let read = optional_called _ _ (ReadsAs n.tags_known n.tags n.retagged n.may_allocate n.under n.any_under) s c.read_optional.result m
    c.read_optional.ensures (λ p q x h. search rules) in
    let left = part_of c.read_parts.new.seq in
    first_read w.may_allocate w.parts first s c.requires.fresh c.read_optional.result m read c.in-Ok.first c.in-Ok.is
    (Err c.in-Err-read_parts.error) left
    (subst (λ z. ReadsContents w.may_allocate w.parts w.any_parts m z left) c.in-Err-read_parts.is c.read_parts.ensures)

pub returns-in-Err : goal.returns-in-Err
returns-in-Err g c =
    let n = g.A.Notation.means in
    let w = g.W.Parts in
    let s = part_of c.args.seq.now in
    let m = part_of c.read_optional.new.self in
    let first = option_first {retagged = n.retagged} {may_allocate = n.may_allocate} {B = n.under} {S = n.any_under}
    (λ b. (g.met.A.Notation.lawful b).own) g.met.W.Parts.laws
    c.requires.unambiguous in
    let read = optional_called _ _ (ReadsAs n.tags_known n.tags n.retagged n.may_allocate n.under n.any_under) s c.read_optional.result m
    c.read_optional.ensures (λ p q x h. search rules) in
    first_failed w.may_allocate w.parts first s c.requires.fresh c.read_optional.result m read c.in-Err.error c.in-Err.is

pub read_parts-requires-clause-unambiguous : goal.read_parts-requires-clause-unambiguous
read_parts-requires-clause-unambiguous g c =
    let a = g.A.Notation.unambiguous in
    let b = g.W.Parts.unambiguous in
    (and_parts a b (is_known g.A.Notation.means.tags_known g.W.Parts.tags_known _ (a && b) c.requires.unambiguous).all_unambiguous).1
