use Rattle.std.proofs.Common.{[], ◌∷◌, arith}
use Rattle.asn1_types.proofs.Numerals.{as_digits, as_named, as_value}
use Rattle.asn1_types.proofs.values.number_of.Goals as goal

pub returns-then-eq : goal.returns-then-eq
returns-then-eq c =
    as_digits c.args.scope.modules.now c.args.scope.known.now c.args.«module» (c.args.token ∷ []) c.args.token c.literal.result (omega arith)
    (omega arith) c.literal.ensures

pub returns : goal.returns
returns c =
    as_value c.args.scope.modules.now c.args.scope.known.now c.args.«module» c.integer_value.result c.integer_value.ensures
    (as_named c.args.scope.modules.now c.args.scope.known.now c.args.«module» (c.args.token ∷ []) c.args.token (omega arith) (omega arith)
    c.in_ok-named.ensures)
