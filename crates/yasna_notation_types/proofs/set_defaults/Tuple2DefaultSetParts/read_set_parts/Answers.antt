use Rattle.std.proofs.Common.{◌∙◌, Ok, Err, ap, refl, sym, subst}
use Rattle.yasna_base.specs.Beginnings.{share_none}
use Rattle.yasna_notation_types.specs.SetParts.{tags_precede, set_known, known_by_tags}
use Rattle.yasna_notation_types.specs.SetReading.{ReadsSetParts, value_or_default}
use Rattle.yasna_notation_types.proofs.SetReading.{detected, default_wrong, default_rejected, default_read}
use Rattle.yasna_notation_types.proofs.set_defaults.Tuple2DefaultSetParts.read_set_parts.Goals as goal

pub returns-in-Err : goal.returns-in-Err
returns-in-Err g c =
    let n = g.A.Notation.means in
    let us = g.W.SetParts.set_tags in
    let known = set_known (tags_precede n.tags us) (share_none n.tags us) g.A.Notation.unambiguous g.W.SetParts.set_unambiguous c.requires in
    let x = known_by_tags g.met.A.SetPart.is_known (g.met.A.Notation.lawful known.first_unambiguous).own in
    let y = g.met.W.SetParts.set_laws known.others_unambiguous in
    let d = g.D.DefaultValue in
    let passes = detected d.is d.default g.met.D.DefaultValue.detects x.coding.meaning.equal in
    let set = c.args.set.now in
    let r = c.read_chosen.result in
    let c1 = c.read_chosen.new.set in
    let h = c.read_chosen.ensures in
    default_wrong d.is passes x.coding (x.begins refl) x.single y known.after known.none_shared set c1 r h c.in-Err.error c.in-Err.is

pub returns-in-None : goal.returns-in-None
returns-in-None g c =
    let n = g.A.Notation.means in
    let us = g.W.SetParts.set_tags in
    let known = set_known (tags_precede n.tags us) (share_none n.tags us) g.A.Notation.unambiguous g.W.SetParts.set_unambiguous c.requires in
    let x = known_by_tags g.met.A.SetPart.is_known (g.met.A.Notation.lawful known.first_unambiguous).own in
    let y = g.met.W.SetParts.set_laws known.others_unambiguous in
    let d = g.D.DefaultValue in
    let passes = detected d.is d.default g.met.D.DefaultValue.detects x.coding.meaning.equal in
    let set = c.args.set.now in
    let r = c.read_chosen.result in
    let c1 = c.read_chosen.new.set in
    let h = c.read_chosen.ensures in
    let value = ap (λ m. value_or_default d.is d.default m c.in-Ok.found) (sym c.mode.ensures) ∙ sym c.value_or_default.ensures ∙ c.in-None.is in
    default_rejected d.is passes x.coding (x.begins refl) x.single y known.after known.none_shared set c1 r h d.default c.in-Ok.found c.in-Ok.is value c.new.result

pub returns-in-Err-read_set_parts : goal.returns-in-Err-read_set_parts
returns-in-Err-read_set_parts g c =
    let n = g.A.Notation.means in
    let us = g.W.SetParts.set_tags in
    let known = set_known (tags_precede n.tags us) (share_none n.tags us) g.A.Notation.unambiguous g.W.SetParts.set_unambiguous c.requires in
    let x = known_by_tags g.met.A.SetPart.is_known (g.met.A.Notation.lawful known.first_unambiguous).own in
    let y = g.met.W.SetParts.set_laws known.others_unambiguous in
    let d = g.D.DefaultValue in
    let passes = detected d.is d.default g.met.D.DefaultValue.detects x.coding.meaning.equal in
    let set = c.args.set.now in
    let r = c.read_chosen.result in
    let c1 = c.read_chosen.new.set in
    let h = c.read_chosen.ensures in
    let value = ap (λ m. value_or_default d.is d.default m c.in-Ok.found) (sym c.mode.ensures) ∙ sym c.value_or_default.ensures ∙ c.in-Some.is in
    let w = g.W.SetParts.picks in
    let is_default = (g.met.D.DefaultValue.detects d.default).1 (x.coding.meaning.equal.reflexive d.default) in
    let c2 = c.read_set_parts.new.set in
    default_read d.is passes x.coding (x.begins refl) x.single y known.after known.none_shared set c1 r h d.default is_default c.in-Ok.found c.in-Some.first c.in-Ok.is value (Err c.in-Err-read_set_parts.error) c2
    (subst (λ z. ReadsSetParts w c1 z c2) c.in-Err-read_set_parts.is c.read_set_parts.ensures)

pub returns : goal.returns
returns g c =
    let n = g.A.Notation.means in
    let us = g.W.SetParts.set_tags in
    let known = set_known (tags_precede n.tags us) (share_none n.tags us) g.A.Notation.unambiguous g.W.SetParts.set_unambiguous c.requires in
    let x = known_by_tags g.met.A.SetPart.is_known (g.met.A.Notation.lawful known.first_unambiguous).own in
    let y = g.met.W.SetParts.set_laws known.others_unambiguous in
    let d = g.D.DefaultValue in
    let passes = detected d.is d.default g.met.D.DefaultValue.detects x.coding.meaning.equal in
    let set = c.args.set.now in
    let r = c.read_chosen.result in
    let c1 = c.read_chosen.new.set in
    let h = c.read_chosen.ensures in
    let value = ap (λ m. value_or_default d.is d.default m c.in-Ok.found) (sym c.mode.ensures) ∙ sym c.value_or_default.ensures ∙ c.in-Some.is in
    let w = g.W.SetParts.picks in
    let is_default = (g.met.D.DefaultValue.detects d.default).1 (x.coding.meaning.equal.reflexive d.default) in
    let c2 = c.read_set_parts.new.set in
    default_read d.is passes x.coding (x.begins refl) x.single y known.after known.none_shared set c1 r h d.default is_default c.in-Ok.found c.in-Some.first c.in-Ok.is value (Ok c.in-Ok-read_set_parts.others) c2
    (subst (λ z. ReadsSetParts w c1 z c2) c.in-Ok-read_set_parts.is c.read_set_parts.ensures)
