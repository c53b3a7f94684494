use Rattle.std.proofs.Common.{refl, sym, subst}
use Rattle.yasna_base.specs.declared.mode.BERMode.{BERMode}
use Rattle.yasna_base.specs.declared.mode.BERMode.TheVariants.{Ber}
use Rattle.asn1_contents.specs.Contents.{HasContents}
use Rattle.asn1_contents.specs.ContentsType.{type_with}
use Rattle.asn1_contents.specs.declared.contents_type.ContentsType.{ContentsType}
use Rattle.asn1der_convert.proofs.Appends.{string_appended}
use Rattle.asn1der_convert.proofs.Rejections.{no_string, no_string_contents}
use Rattle.asn1der_convert.proofs.conversion.convert_segments.Goals as goal

pub returns-in-Ok-append_string : goal.returns-in-Ok-append_string
returns-in-Ok-append_string c =
    string_appended c.args.cursor.levels c.args.cursor.mode c.args.tag c.contents_type.result c.args.cursor.left.now c.in-Ok.taken.1.now c.in-Ok.taken.0.items
    c.in-Ok.taken.0.items c.args.out.now.items c.append_string.new.out.items c.requires.string c.contents_type.ensures (c.in-Ok.ensures {u = tt}) c.requires.mode refl c.in-Ok-append_string.ensures.bytes

pub returns-in-Err-append_string : goal.returns-in-Err-append_string
returns-in-Err-append_string c = λ known.
    let octets = c.in-Ok.taken.0.items in
    no_string_contents c.args.cursor.levels c.args.cursor.mode c.args.tag c.args.cursor.left.now octets c.in-Ok.taken.1.now c.requires.string
    c.requires.begins (c.in-Ok.ensures {u = tt})
    (λ d x. c.in-Err-append_string.ensures.rejection known d
    (subst (λ (k : ContentsType). HasContents k Ber d octets) (sym c.contents_type.ensures)
    (subst (λ (m : BERMode). HasContents (type_with c.args.tag) m d octets) c.requires.mode x)))

pub returns-in-Err : goal.returns-in-Err
returns-in-Err c = λ known.
    no_string c.args.cursor.levels c.args.cursor.mode c.args.tag c.args.cursor.left.now c.requires.string c.requires.begins
    ((c.in-Err.ensures {u = tt}).none (λ k. known (c.string_error.ensures.1 k)))
