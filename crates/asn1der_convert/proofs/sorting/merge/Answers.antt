use Rattle.std.proofs.Common.{◌-◌, length, refl}
use Rattle.std.proofs.lemmas.Result.{on_ok_weaker}
use Rattle.asn1der_convert.proofs.Turning.{turned_weaves}
use Rattle.asn1der_convert.proofs.sorting.merge.Goals as goal

pub returns-clause-woven : goal.returns-clause-woven
returns-clause-woven c =
    let e = c.args.elements.now in
    on_ok_weaker c.copy_and_weave-2.result
    (λ w. turned_weaves c.args.key e c.rotate_left.new.self c.copy_and_weave-2.new.elements c.args.size (length e - c.args.size) c.requires c.rotate_left.ensures.after refl w)
    c.copy_and_weave-2.ensures.woven
