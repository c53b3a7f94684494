use Rattle.std.proofs.Common.{[], true, false, Vec, Err, rules, sym, subst}
use Rattle.std.specs.Global.{Global}
use Rattle.yasna_base.specs.declared.models.tagged_der_value.TaggedDerValue.{TaggedDerValue}
use Rattle.yasna_base.specs.declared.error.ASN1Error.{ASN1Error}
use Rattle.yasna_base.specs.declared.error.ASN1ErrorKind.TheVariants.{Invalid}
use Rattle.yasna_base.specs.Coding.{Any}
use Rattle.yasna_base.specs.Error.{error_of}
use Rattle.yasna_base.specs.Raw.{IsRaw}
use Rattle.yasna_base.specs.SequenceOf.{ElementsOf, AnyElements}
use Rattle.yasna_reader.specs.State.{Reading, IsFresh, part_of}
use Rattle.yasna_notation.specs.Parts.{ReadsContents}
use Rattle.yasna_notation_types.specs.OpenChoice.{EncodesRawElement, any_lawful}
use Rattle.yasna_notation_types.specs.Others.{OthersOf, AnyOthers}
use Rattle.yasna_notation_types.proofs.Possibles.{others_rejected, others_read}
use Rattle.yasna_notation_types.proofs.Tails.{rest_read}
use Rattle.yasna_notation_types.proofs.others.OthersParts.read_parts.Goals as goal

pub returns-then-next_is : goal.returns-then-next_is
returns-then-next_is g c =
    let ts = g.X.Notation.means.tags in
    let s : Reading = part_of c.args.seq.now in
    let R : ASN1Error → Reading → Type 0 = λ e z. ReadsContents {A = Vec TaggedDerValue Global} true (OthersOf ts (λ m n v d. ElementsOf EncodesRawElement m n v.items d))
    (AnyOthers ts (AnyElements (Any IsRaw))) s (Err e) z in
    let none = others_rejected any_lawful.own.coding ts s c.next_is.result c.next_is.ensures.looks c.if-next_is.true c.requires.unambiguous c.requires.fresh
    (error_of Invalid) (λ q. absurd (cc)) in
    subst (R c.new.result) (sym c.next_is.ensures.stays) (subst (λ e. R e s) (sym c.new.ensures) none)

pub returns : goal.returns
returns g c =
    let ts = g.X.Notation.means.tags in
    let s : Reading = part_of c.args.seq.now in
    let m : Reading = part_of c.next_is.new.seq in
    let r = c.collect_rest.result in
    let left : Reading = part_of c.collect_rest.new.self in
    let read = rest_read {tags_known = false} {ts = []} {retagged = false} {may_allocate = true} {B = λ u. EncodesRawElement} {S = λ u. Any IsRaw} _ _ m r left
    any_lawful.own.coding (subst IsFresh (sym c.next_is.ensures.stays) c.requires.fresh) c.collect_rest.ensures (λ f f' p q x h. search rules) in
    others_read any_lawful.own.coding ts s c.next_is.result c.next_is.ensures.looks c.if-next_is.false c.requires.fresh r left
    (subst (λ (z : Reading). ReadsContents {A = Vec TaggedDerValue Global} true (λ m n v d. ElementsOf EncodesRawElement m n v.items d)
    (AnyElements (Any IsRaw)) z r left) c.next_is.ensures.stays read)
