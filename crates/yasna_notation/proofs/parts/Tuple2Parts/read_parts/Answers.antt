use Rattle.std.proofs.Common.{subst, Ok, Err}
use Rattle.std.proofs.lemmas.Bool.{and_parts}
use Rattle.yasna_reader.specs.State.{part_of}
use Rattle.yasna_notation.specs.Notation.{ReadsAs}
use Rattle.yasna_notation.specs.Parts.{ReadsContents}
use Rattle.yasna_notation.proofs.Contents.{required_by, first_read, first_failed}
use Rattle.yasna_notation.proofs.parts.Tuple2Parts.read_parts.Goals as goal

pub returns : goal.returns
returns g c =
    let n = g.A.Notation.means in
    let w = g.W.Parts in
    let s = part_of c.args.seq.now in
    let m = c.read.new.reader in
    let first = required_by {tags_known = n.tags_known} {ts = n.tags} {retagged = n.retagged} {may_allocate = n.may_allocate} {B = n.under} {S = n.any_under}
    {Q = w.any_parts} (g.met.A.Notation.lawful (and_parts g.A.Notation.unambiguous w.unambiguous c.requires.unambiguous).0).own.coding in
    let left = part_of c.read_parts.new.seq in
    first_read w.may_allocate w.parts first s c.requires.fresh c.read.result m
    (subst (λ z. ReadsAs n.tags_known n.tags n.retagged n.may_allocate n.under n.any_under z c.read.result m) c.next.ensures.value c.read.ensures)
    c.in-Ok.first c.in-Ok.is (Ok c.in-Ok-read_parts.others) left
    (subst (λ z. ReadsContents w.may_allocate w.parts w.any_parts m z left) c.in-Ok-read_parts.is c.read_parts.ensures)

pub returns-in-Err-read_parts : goal.returns-in-Err-read_parts
returns-in-Err-read_parts g c =
    let n = g.A.Notation.means in
    let w = g.W.Parts in
    let s = part_of c.args.seq.now in
    let m = c.read.new.reader in
    let first = required_by {tags_known = n.tags_known} {ts = n.tags} {retagged = n.retagged} {may_allocate = n.may_allocate} {B = n.under} {S = n.any_under}
    {Q = w.any_parts} (g.met.A.Notation.lawful (and_parts g.A.Notation.unambiguous w.unambiguous c.requires.unambiguous).0).own.coding in
    let left = part_of c.read_parts.new.seq in
    first_read w.may_allocate w.parts first s c.requires.fresh c.read.result m
    (subst (λ z. ReadsAs n.tags_known n.tags n.retagged n.may_allocate n.under n.any_under z c.read.result m) c.next.ensures.value c.read.ensures)
    c.in-Ok.first c.in-Ok.is (Err c.in-Err-read_parts.error) left
    (subst (λ z. ReadsContents w.may_allocate w.parts w.any_parts m z left) c.in-Err-read_parts.is c.read_parts.ensures)

pub returns-in-Err : goal.returns-in-Err
returns-in-Err g c =
    let n = g.A.Notation.means in
    let w = g.W.Parts in
    let s = part_of c.args.seq.now in
    let m = c.read.new.reader in
    let first = required_by {tags_known = n.tags_known} {ts = n.tags} {retagged = n.retagged} {may_allocate = n.may_allocate} {B = n.under} {S = n.any_under}
    {Q = w.any_parts} (g.met.A.Notation.lawful (and_parts g.A.Notation.unambiguous w.unambiguous c.requires.unambiguous).0).own.coding in
    first_failed w.may_allocate w.parts first s c.requires.fresh c.read.result m
    (subst (λ z. ReadsAs n.tags_known n.tags n.retagged n.may_allocate n.under n.any_under z c.read.result m) c.next.ensures.value c.read.ensures)
    c.in-Err.error c.in-Err.is

pub read-requires : goal.read-requires
read-requires g c = (and_parts g.A.Notation.unambiguous g.W.Parts.unambiguous c.requires.unambiguous).0

pub read_parts-requires-clause-unambiguous : goal.read_parts-requires-clause-unambiguous
read_parts-requires-clause-unambiguous g c = (and_parts g.A.Notation.unambiguous g.W.Parts.unambiguous c.requires.unambiguous).1
