use Rattle.std.proofs.Common.{subst, sym, ap, ◌∙◌}
use Rattle.yasna_base.specs.Header.{OpensAt}
use Rattle.yasna_base.specs.declared.mode.BERMode.{BERMode}
use Rattle.yasna_base.specs.declared.mode.BERMode.TheVariants.{Ber}
use Rattle.yasna_base.specs.declared.tag.PCBit.TheVariants.{Primitive}
use Rattle.yasna_bytes.specs.Opening.{Opening, end_found}
use Rattle.asn1_contents.specs.Contents.{HasContents}
use Rattle.asn1_contents.specs.ContentsType.{type_with}
use Rattle.asn1_contents.specs.declared.contents_type.ContentsType.{ContentsType}
use Rattle.asn1der_convert.proofs.Appends.{primitive_appended}
use Rattle.asn1der_convert.proofs.Rejections.{no_primitive_contents}
use Rattle.asn1der_convert.proofs.conversion.convert_primitive.Goals as goal

pub returns-in-Ok : goal.returns-in-Ok
returns-in-Ok c =
    let same = ap (λ (o : Opening). o.contents) c.opened.view_is in
    primitive_appended c.args.cursor.levels c.args.cursor.mode c.args.tag c.contents_type.result c.args.identifier_bytes.now c.args.cursor.left.now
    c.in-Definite.after.now c.args.opened.now.contents c.opened.inside.contents.now c.args.out.now.items c.append_primitive.new.out.items c.requires.level
    c.requires.other c.requires.bytes c.contents_type.ensures
    (subst (λ e. OpensAt c.args.cursor.mode c.args.tag Primitive c.args.cursor.left.now c.args.opened.now.contents e)
    (ap (λ (o : Opening). o.end) (sym c.opened.view_is) ∙ ap end_found c.in-Definite.is)
    c.requires.opens)
    c.requires.mode same c.in-Ok.ensures.bytes

pub returns-in-Err : goal.returns-in-Err
returns-in-Err c = λ known.
    let same = ap (λ (o : Opening). o.contents) c.opened.view_is in
    no_primitive_contents c.args.cursor.levels c.args.cursor.mode c.args.tag c.args.cursor.left.now c.args.opened.now.contents c.in-Definite.after.now
    c.requires.other.other
    (subst (λ e. OpensAt c.args.cursor.mode c.args.tag Primitive c.args.cursor.left.now c.args.opened.now.contents e)
    (ap (λ (o : Opening). o.end) (sym c.opened.view_is) ∙ ap end_found c.in-Definite.is)
    c.requires.opens)
    (λ d x. c.in-Err.ensures.rejection known d
    (subst (λ (k : ContentsType). HasContents k Ber d c.opened.inside.contents.now) (sym c.contents_type.ensures)
    (subst (λ z. HasContents (type_with c.args.tag) Ber d z) (sym same)
    (subst (λ (m : BERMode). HasContents (type_with c.args.tag) m d c.args.opened.now.contents) c.requires.mode x))))
