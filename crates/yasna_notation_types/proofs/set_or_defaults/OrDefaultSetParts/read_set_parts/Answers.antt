use Rattle.std.proofs.Common.{◌≡◌, Ok, Err, true, false, refl, rules, subst}
use Rattle.yasna_base.specs.Beginnings.{share_none}
use Rattle.yasna_notation_constraints.specs.OrDefault.{accepted_by}
use Rattle.yasna_notation_constraints.specs.TestedDefaults.{some_passes}
use Rattle.yasna_notation_types.specs.SetParts.{tags_precede, set_known, known_by_tags}
use Rattle.yasna_notation_types.specs.SetReading.{ReadsSetParts}
use Rattle.yasna_notation_types.proofs.SetReading.{one_passes, or_default_wrong, or_default_rejected, or_default_read}
use Rattle.yasna_notation_types.proofs.set_or_defaults.OrDefaultSetParts.read_set_parts.Goals as goal

pub returns-in-Err : goal.returns-in-Err
returns-in-Err g c =
    let n = g.A.Notation.means in
    let us = g.W.SetParts.set_tags in
    let known = set_known (tags_precede n.tags us) (share_none n.tags us) g.A.Notation.unambiguous g.W.SetParts.set_unambiguous c.requires in
    let x = known_by_tags g.met.A.SetPart.is_known (g.met.A.Notation.lawful known.first_unambiguous).own in
    let y = g.met.W.SetParts.set_laws known.others_unambiguous in
    let is = g.D.TestedDefault.is in
    let passes = one_passes is g.met.D.TestedDefault.one x.coding.meaning.equal in
    let set = c.args.set.now in
    let r = c.read_chosen.result in
    let c1 = c.read_chosen.new.set in
    let h = c.read_chosen.ensures in
    or_default_wrong is passes x.coding (x.begins refl) x.single y known.after known.none_shared set c1 r h c.in-Err.error c.in-Err.is

pub returns-then-not-accepts : goal.returns-then-not-accepts
returns-then-not-accepts g c =
    let n = g.A.Notation.means in
    let us = g.W.SetParts.set_tags in
    let known = set_known (tags_precede n.tags us) (share_none n.tags us) g.A.Notation.unambiguous g.W.SetParts.set_unambiguous c.requires in
    let x = known_by_tags g.met.A.SetPart.is_known (g.met.A.Notation.lawful known.first_unambiguous).own in
    let y = g.met.W.SetParts.set_laws known.others_unambiguous in
    let is = g.D.TestedDefault.is in
    let passes = one_passes is g.met.D.TestedDefault.one x.coding.meaning.equal in
    let set = c.args.set.now in
    let r = c.read_chosen.result in
    let c1 = c.read_chosen.new.set in
    let h = c.read_chosen.ensures in
    let taken : accepted_by (some_passes is) c1.reader.mode c.in-Ok.found ≡ false = search rules in
    or_default_rejected is passes x.coding (x.begins refl) x.single y known.after known.none_shared set c1 r h c.in-Ok.found c.in-Ok.is taken c.new.result

pub returns-in-Err-read_set_parts : goal.returns-in-Err-read_set_parts
returns-in-Err-read_set_parts g c =
    let n = g.A.Notation.means in
    let us = g.W.SetParts.set_tags in
    let known = set_known (tags_precede n.tags us) (share_none n.tags us) g.A.Notation.unambiguous g.W.SetParts.set_unambiguous c.requires in
    let x = known_by_tags g.met.A.SetPart.is_known (g.met.A.Notation.lawful known.first_unambiguous).own in
    let y = g.met.W.SetParts.set_laws known.others_unambiguous in
    let is = g.D.TestedDefault.is in
    let passes = one_passes is g.met.D.TestedDefault.one x.coding.meaning.equal in
    let set = c.args.set.now in
    let r = c.read_chosen.result in
    let c1 = c.read_chosen.new.set in
    let h = c.read_chosen.ensures in
    let taken : accepted_by (some_passes is) c1.reader.mode c.in-Ok.found ≡ true = search rules in
    let w = g.W.SetParts.picks in
    let c2 = c.read_set_parts.new.set in
    or_default_read is passes x.coding (x.begins refl) x.single y known.after known.none_shared set c1 r h c.in-Ok.found c.in-Ok.is taken (Err c.in-Err-read_set_parts.error) c2
    (subst (λ z. ReadsSetParts w c1 z c2) c.in-Err-read_set_parts.is c.read_set_parts.ensures)

pub returns : goal.returns
returns g c =
    let n = g.A.Notation.means in
    let us = g.W.SetParts.set_tags in
    let known = set_known (tags_precede n.tags us) (share_none n.tags us) g.A.Notation.unambiguous g.W.SetParts.set_unambiguous c.requires in
    let x = known_by_tags g.met.A.SetPart.is_known (g.met.A.Notation.lawful known.first_unambiguous).own in
    let y = g.met.W.SetParts.set_laws known.others_unambiguous in
    let is = g.D.TestedDefault.is in
    let passes = one_passes is g.met.D.TestedDefault.one x.coding.meaning.equal in
    let set = c.args.set.now in
    let r = c.read_chosen.result in
    let c1 = c.read_chosen.new.set in
    let h = c.read_chosen.ensures in
    let taken : accepted_by (some_passes is) c1.reader.mode c.in-Ok.found ≡ true = search rules in
    let w = g.W.SetParts.picks in
    let c2 = c.read_set_parts.new.set in
    or_default_read is passes x.coding (x.begins refl) x.single y known.after known.none_shared set c1 r h c.in-Ok.found c.in-Ok.is taken (Ok c.in-Ok-read_set_parts.others) c2
    (subst (λ z. ReadsSetParts w c1 z c2) c.in-Ok-read_set_parts.is c.read_set_parts.ensures)
