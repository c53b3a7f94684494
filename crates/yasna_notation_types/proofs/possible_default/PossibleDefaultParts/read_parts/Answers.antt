use Rattle.std.proofs.Common.{rules, subst, Ok, Err}
use Rattle.yasna_reader.specs.Optional.{ReadsDefault}
use Rattle.yasna_reader.specs.State.{part_of}
use Rattle.yasna_notation.specs.Notation.{ReadsAs}
use Rattle.yasna_notation.specs.Parts.{ReadsContents}
use Rattle.yasna_notation.proofs.Contents.{default_called, first_read, first_failed}
use Rattle.yasna_notation_types.specs.Others.{possible_known}
use Rattle.yasna_notation_types.proofs.Possibles.{possible_default_first}
use Rattle.yasna_notation_types.proofs.possible_default.PossibleDefaultParts.read_parts.Goals as goal

pub returns : goal.returns
returns g c =
    let n = g.A.Notation.means in
    let d = g.D.DefaultValue in
    let w = g.W.Parts in
    let s = part_of c.args.seq.now in
    let m = part_of c.read_default.new.self in
    let N = ReadsAs n.tags_known n.tags n.retagged n.may_allocate n.under n.any_under in
    let first = possible_default_first {retagged = n.retagged} {may_allocate = n.may_allocate} {B = n.under} {S = n.any_under} g.W.Beginning.may d.is g.A.Value.PartialEq.eq d.default
    g.met.D.DefaultValue.detects g.met.D.DefaultValue.tests (λ b. (g.met.A.Notation.lawful b).own) g.met.W.Beginning.within c.requires.unambiguous in
    let read = subst (λ v. ReadsDefault N _ v s c.read_default.result m) c.default.ensures
    (default_called _ _ N _ c.default.result s c.read_default.result m c.read_default.ensures (λ p q x h. search rules)) in
    let left = part_of c.read_parts.new.seq in
    first_read w.may_allocate w.parts first s c.requires.fresh c.read_default.result m read c.in-Ok.first c.in-Ok.is
    (Ok c.in-Ok-read_parts.others) left
    (subst (λ z. ReadsContents w.may_allocate w.parts w.any_parts m z left) c.in-Ok-read_parts.is c.read_parts.ensures)

pub returns-in-Err-read_parts : goal.returns-in-Err-read_parts
returns-in-Err-read_parts g c =
    let n = g.A.Notation.means in
    let d = g.D.DefaultValue in
    let w = g.W.Parts in
    let s = part_of c.args.seq.now in
    let m = part_of c.read_default.new.self in
    let N = ReadsAs n.tags_known n.tags n.retagged n.may_allocate n.under n.any_under in
    let first = possible_default_first {retagged = n.retagged} {may_allocate = n.may_allocate} {B = n.under} {S = n.any_under} g.W.Beginning.may d.is g.A.Value.PartialEq.eq d.default
    g.met.D.DefaultValue.detects g.met.D.DefaultValue.tests (λ b. (g.met.A.Notation.lawful b).own) g.met.W.Beginning.within c.requires.unambiguous in
    let read = subst (λ v. ReadsDefault N _ v s c.read_default.result m) c.default.ensures
    (default_called _ _ N _ c.default.result s c.read_default.result m c.read_default.ensures (λ p q x h. search rules)) in
    let left = part_of c.read_parts.new.seq in
    first_read w.may_allocate w.parts first s c.requires.fresh c.read_default.result m read c.in-Ok.first c.in-Ok.is
    (Err c.in-Err-read_parts.error) left
    (subst (λ z. ReadsContents w.may_allocate w.parts w.any_parts m z left) c.in-Err-read_parts.is c.read_parts.ensures)

pub returns-in-Err : goal.returns-in-Err
returns-in-Err g c =
    let n = g.A.Notation.means in
    let d = g.D.DefaultValue in
    let w = g.W.Parts in
    let s = part_of c.args.seq.now in
    let m = part_of c.read_default.new.self in
    let N = ReadsAs n.tags_known n.tags n.retagged n.may_allocate n.under n.any_under in
    let first = possible_default_first {retagged = n.retagged} {may_allocate = n.may_allocate} {B = n.under} {S = n.any_under} g.W.Beginning.may d.is g.A.Value.PartialEq.eq d.default
    g.met.D.DefaultValue.detects g.met.D.DefaultValue.tests (λ b. (g.met.A.Notation.lawful b).own) g.met.W.Beginning.within c.requires.unambiguous in
    let read = subst (λ v. ReadsDefault N _ v s c.read_default.result m) c.default.ensures
    (default_called _ _ N _ c.default.result s c.read_default.result m c.read_default.ensures (λ p q x h. search rules)) in
    first_failed w.may_allocate w.parts first s c.requires.fresh c.read_default.result m read c.in-Err.error c.in-Err.is

pub read_parts-requires-clause-unambiguous : goal.read_parts-requires-clause-unambiguous
read_parts-requires-clause-unambiguous g c =
    (possible_known g.A.Notation.means.tags_known _ g.A.Notation.unambiguous g.W.Parts.unambiguous c.requires.unambiguous).others_unambiguous
