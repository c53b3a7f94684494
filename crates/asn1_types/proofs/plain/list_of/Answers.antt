use Rattle.std.proofs.Common.{◌≡◌, rules}
use Rattle.asn1_types.proofs.Steps.{as_list_of}
use Rattle.asn1_types.proofs.plain.list_of.Goals as goal

pub returns-clause-list : goal.returns-clause-list
returns-clause-list c =
    let value : c.in_ok-boxed.boxed.value ≡ c.args.element = search rules in
    as_list_of c.args.word c.args.element c.in_ok-boxed.boxed _ c.is.result c.list_by.result c.sized.result value c.list_by.ensures c.is.ensures
    c.sized.ensures.sized
