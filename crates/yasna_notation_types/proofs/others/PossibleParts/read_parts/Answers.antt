use Rattle.std.proofs.Common.{rules, subst, Ok, Err}
use Rattle.yasna_reader.specs.State.{part_of}
use Rattle.yasna_notation.specs.Notation.{ReadsAs}
use Rattle.yasna_notation.specs.Parts.{ReadsContents}
use Rattle.yasna_notation_types.specs.Others.{possible_known}
use Rattle.yasna_notation.proofs.Contents.{optional_called, first_read, first_failed}
use Rattle.yasna_notation_types.proofs.Possibles.{possible_first}
use Rattle.yasna_notation_types.proofs.others.PossibleParts.read_parts.Goals as goal

pub returns : goal.returns
returns g c =
    let n = g.A.Notation.means in
    let w = g.W.Parts in
    let s = part_of c.args.seq.now in
    let m = part_of c.read_optional.new.self in
    let first = possible_first {retagged = n.retagged} {may_allocate = n.may_allocate} {B = n.under} {S = n.any_under} g.W.Beginning.may
    (λ b. (g.met.A.Notation.lawful b).own) g.met.W.Beginning.within c.requires.unambiguous in
    let read = optional_called _ _ (ReadsAs n.tags_known n.tags n.retagged n.may_allocate n.under n.any_under) s c.read_optional.result m
    c.read_optional.ensures (λ p q x h. search rules) in
    let left = part_of c.read_parts.new.seq in
    first_read w.may_allocate w.parts first s c.requires.fresh c.read_optional.result m read c.in-Ok.first c.in-Ok.is
    (Ok c.in-Ok-read_parts.others) left
    (subst (λ z. ReadsContents w.may_allocate w.parts w.any_parts m z left) c.in-Ok-read_parts.is c.read_parts.ensures)

pub returns-in-Err-read_parts : goal.returns-in-Err-read_parts
returns-in-Err-read_parts g c =
    let n = g.A.Notation.means in
    let w = g.W.Parts in
    let s = part_of c.args.seq.now in
    let m = part_of c.read_optional.new.self in
    let first = possible_first {retagged = n.retagged} {may_allocate = n.may_allocate} {B = n.under} {S = n.any_under} g.W.Beginning.may
    (λ b. (g.met.A.Notation.lawful b).own) g.met.W.Beginning.within c.requires.unambiguous in
    let read = optional_called _ _ (ReadsAs n.tags_known n.tags n.retagged n.may_allocate n.under n.any_under) s c.read_optional.result m
    c.read_optional.ensures (λ p q x h. search rules) in
    let left = part_of c.read_parts.new.seq in
    first_read w.may_allocate w.parts first s c.requires.fresh c.read_optional.result m read c.in-Ok.first c.in-Ok.is
    (Err c.in-Err-read_parts.error) left
    (subst (λ z. ReadsContents w.may_allocate w.parts w.any_parts m z left) c.in-Err-read_parts.is c.read_parts.ensures)

pub returns-in-Err : goal.returns-in-Err
returns-in-Err g c =
    let n = g.A.Notation.means in
    let w = g.W.Parts in
    let s = part_of c.args.seq.now in
    let m = part_of c.read_optional.new.self in
    let first = possible_first {retagged = n.retagged} {may_allocate = n.may_allocate} {B = n.under} {S = n.any_under} g.W.Beginning.may
    (λ b. (g.met.A.Notation.lawful b).own) g.met.W.Beginning.within c.requires.unambiguous in
    let read = optional_called _ _ (ReadsAs n.tags_known n.tags n.retagged n.may_allocate n.under n.any_under) s c.read_optional.result m
    c.read_optional.ensures (λ p q x h. search rules) in
    first_failed w.may_allocate w.parts first s c.requires.fresh c.read_optional.result m read c.in-Err.error c.in-Err.is

pub read_parts-requires-clause-unambiguous : goal.read_parts-requires-clause-unambiguous
read_parts-requires-clause-unambiguous g c =
    (possible_known g.A.Notation.means.tags_known _ g.A.Notation.unambiguous g.W.Parts.unambiguous c.requires.unambiguous).others_unambiguous
