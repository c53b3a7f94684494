use Rattle.std.proofs.Common.{subst, Ok, Err, ◌&&◌}
use Rattle.std.proofs.lemmas.Bool.{and_parts}
use Rattle.yasna_reader.specs.State.{part_of}
use Rattle.yasna_notation.specs.Parts.{ReadsContents, is_known}
use Rattle.yasna_notation.proofs.Contents.{first_read, first_failed}
use Rattle.yasna_notation_constraints.proofs.ReadingDefaults.{or_default_first}
use Rattle.yasna_notation_constraints.proofs.or_default.OrDefaultParts.read_parts.Goals as goal

pub returns : goal.returns
returns g c =
    let n = g.A.Notation.means in
    let w = g.W.Parts in
    let s = part_of c.args.seq.now in
    let m = part_of c.read_if_there.new.seq in
    let first = or_default_first {retagged = n.retagged} {may_allocate = n.may_allocate} {B = n.under} n.any_under g.D.TestedDefault.is
    (λ b. (g.met.A.Notation.lawful b).own) g.met.W.Parts.laws c.requires.unambiguous in
    let left = part_of c.read_parts.new.seq in
    first_read w.may_allocate w.parts first s c.requires.fresh c.read_if_there.result m c.read_if_there.ensures c.in-Ok.first c.in-Ok.is
    (Ok c.in-Ok-read_parts.others) left
    (subst (λ z. ReadsContents w.may_allocate w.parts w.any_parts m z left) c.in-Ok-read_parts.is c.read_parts.ensures)

pub returns-in-Err-read_parts : goal.returns-in-Err-read_parts
returns-in-Err-read_parts g c =
    let n = g.A.Notation.means in
    let w = g.W.Parts in
    let s = part_of c.args.seq.now in
    let m = part_of c.read_if_there.new.seq in
    let first = or_default_first {retagged = n.retagged} {may_allocate = n.may_allocate} {B = n.under} n.any_under g.D.TestedDefault.is
    (λ b. (g.met.A.Notation.lawful b).own) g.met.W.Parts.laws c.requires.unambiguous in
    let left = part_of c.read_parts.new.seq in
    first_read w.may_allocate w.parts first s c.requires.fresh c.read_if_there.result m c.read_if_there.ensures c.in-Ok.first c.in-Ok.is
    (Err c.in-Err-read_parts.error) left
    (subst (λ z. ReadsContents w.may_allocate w.parts w.any_parts m z left) c.in-Err-read_parts.is c.read_parts.ensures)

pub returns-in-Err : goal.returns-in-Err
returns-in-Err g c =
    let n = g.A.Notation.means in
    let w = g.W.Parts in
    let s = part_of c.args.seq.now in
    let m = part_of c.read_if_there.new.seq in
    let first = or_default_first {retagged = n.retagged} {may_allocate = n.may_allocate} {B = n.under} n.any_under g.D.TestedDefault.is
    (λ b. (g.met.A.Notation.lawful b).own) g.met.W.Parts.laws c.requires.unambiguous in
    first_failed w.may_allocate w.parts first s c.requires.fresh c.read_if_there.result m c.read_if_there.ensures c.in-Err.error c.in-Err.is

pub read_parts-requires-clause-unambiguous : goal.read_parts-requires-clause-unambiguous
read_parts-requires-clause-unambiguous g c =
    let a = g.A.Notation.unambiguous in
    let b = g.W.Parts.unambiguous in
    (and_parts a b (is_known g.A.Notation.means.tags_known g.W.Parts.tags_known _ (a && b) c.requires.unambiguous).all_unambiguous).1

pub read_if_there-requires : goal.read_if_there-requires
read_if_there-requires g c =
    let a = g.A.Notation.unambiguous in
    let b = g.W.Parts.unambiguous in
    (and_parts a b (is_known g.A.Notation.means.tags_known g.W.Parts.tags_known _ (a && b) c.requires.unambiguous).all_unambiguous).0
