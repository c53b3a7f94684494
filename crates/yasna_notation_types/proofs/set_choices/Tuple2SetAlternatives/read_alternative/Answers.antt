use Rattle.std.proofs.Common.{◌++◌, None, refl, sym, subst}
use Rattle.yasna_base.specs.Beginnings.{share_none}
use Rattle.yasna_base.specs.Choice.{AnyEither}
use Rattle.yasna_notation_types.specs.SetParts.{set_known}
use Rattle.yasna_notation_types.specs.SetReading.{ReadsSetPart}
use Rattle.yasna_notation_types.proofs.SetReading.{ChoiceOf, first_read, first_wrong, other_read}
use Rattle.yasna_notation_types.proofs.set_choices.Tuple2SetAlternatives.read_alternative.Goals as goal

pub returns-in-Err : goal.returns-in-Err
returns-in-Err g c =
    let n = g.A.Notation.means in
    let w = g.W.Alternatives in
    let known = set_known n.tags_known (share_none n.tags w.tags) g.A.Notation.unambiguous w.unambiguous c.requires in
    let first = (g.met.A.Notation.lawful known.first_unambiguous).own.begins known.after in
    let others = (g.met.W.Alternatives.laws known.others_unambiguous).begins refl in
    let set = c.args.set.now in
    let r = c.read_chosen.result in
    let c1 = c.read_chosen.new.set in
    first_wrong (n.under None) w.encodes first others known.none_shared set r c1 c.read_chosen.ensures c.in-Err.error c.in-Err.is

pub returns-in-Some : goal.returns-in-Some
returns-in-Some g c =
    let n = g.A.Notation.means in
    let w = g.W.Alternatives in
    let known = set_known n.tags_known (share_none n.tags w.tags) g.A.Notation.unambiguous w.unambiguous c.requires in
    let first = (g.met.A.Notation.lawful known.first_unambiguous).own.begins known.after in
    let others = (g.met.W.Alternatives.laws known.others_unambiguous).begins refl in
    let set = c.args.set.now in
    let r = c.read_chosen.result in
    let c1 = c.read_chosen.new.set in
    first_read (n.under None) w.encodes first others known.none_shared set r c1 c.read_chosen.ensures c.in-Ok.found c.in-Some.first c.in-Ok.is c.in-Some.is

pub returns-in-None : goal.returns-in-None
returns-in-None g c =
    let n = g.A.Notation.means in
    let w = g.W.Alternatives in
    let known = set_known n.tags_known (share_none n.tags w.tags) g.A.Notation.unambiguous w.unambiguous c.requires in
    let first = (g.met.A.Notation.lawful known.first_unambiguous).own.begins known.after in
    let others = (g.met.W.Alternatives.laws known.others_unambiguous).begins refl in
    let set = c.args.set.now in
    let r = c.read_chosen.result in
    let c1 = c.read_chosen.new.set in
    let c2 = c.read_alternative.new.set in
    subst (λ q. ReadsSetPart (n.tags ++ w.tags) (ChoiceOf (n.under None) w.encodes) (AnyEither (n.any_under None) w.elements) set q c2) (sym c.as_second.ensures)
    (other_read (n.under None) w.encodes first others known.none_shared set r c1 c.read_chosen.ensures c.in-Ok.found c.in-Ok.is c.in-None.is c.read_alternative.result c2 c.read_alternative.ensures)
