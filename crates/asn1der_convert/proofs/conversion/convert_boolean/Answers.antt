use Rattle.asn1der_convert.proofs.Appends.{boolean_appended}
use Rattle.asn1der_convert.proofs.Rejections.{no_boolean}
use Rattle.asn1der_convert.proofs.conversion.convert_boolean.Goals as goal

pub returns : goal.returns
returns c =
    boolean_appended c.args.cursor.levels c.args.cursor.mode c.args.cursor.left.now c.in-Ok.taken.1.now c.args.out.now.items c.append_element.new.out.items
    c.in-Ok.taken.0 c.truth_byte.result (c.in-Ok.ensures {u = tt}) c.truth_byte.ensures (c.in_ok-append_element.ensures {u = tt})

pub returns-in-Err : goal.returns-in-Err
returns-in-Err c = λ known.
    no_boolean c.args.cursor.levels c.args.cursor.mode c.args.cursor.left.now c.requires
    ((c.in-Err.ensures {u = tt}).none (λ k. known (c.at.ensures.memory.1 k)))
