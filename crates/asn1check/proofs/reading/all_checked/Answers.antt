use Rattle.std.proofs.Common.{◌≡◌, length, arith, rules, subst, sym, Ok, Err}
use Rattle.std.proofs.lemmas.List.{nil_from_length}
use Rattle.asn1_input.proofs.PieceByPiece.{other_here}
use Rattle.asn1check.specs.Messages.{AllChecked, Checked, EncodesSome}
use Rattle.asn1check.proofs.Checking.{all_of_whole, begins, begins_spoils, continues, not_some, spoils, spoilt}
use Rattle.asn1check.proofs.reading.all_checked.Goals as goal

pub returns-in_err-checked : goal.returns-in_err-checked
returns-in_err-checked g c =
    let B = g.T.BERDecodable.encodes in
    let bytes = c.args.bytes.now in
    let first = c.first_piece.result.0.now in
    let rest = c.first_piece.result.1.now in
    let e = c.in_err-checked.field-0.0 in
    let said : Checked B c.args.mode first (Err e) = search rules in
    let is : c.from_residual.result ≡ Err e = search rules in
    subst (AllChecked B c.args.mode bytes) (sym is)
    (λ real. (0, other_here (EncodesSome B c.args.mode) bytes first rest c.first_piece.ensures.piece (not_some B c.args.mode first (said real))))

pub loop-left-init : goal.loop-left-init
loop-left-init g c =
    let B = g.T.BERDecodable.encodes in
    let P = EncodesSome B c.args.mode in
    let bytes = c.args.bytes.now in
    let first = c.first_piece.result.0.now in
    let rest = c.first_piece.result.1.now in
    let is = c.first_piece.ensures.piece in
    let p : Checked B c.args.mode first (Ok c.in_ok-checked.field-0) = search rules in
    let shorter = c.first_piece.ensures.shorter in (
      begins P bytes first rest is p,
      begins_spoils P bytes first rest is p,
      omega arith,
      λ some. omega (arith, shorter some),
    )

pub returns-in_err-checked-2 : goal.returns-in_err-checked-2
returns-in_err-checked-2 g c =
    let B = g.T.BERDecodable.encodes in
    let bytes = c.args.bytes.now in
    let left = c.loop-left.left.now in
    let piece = c.first_piece-in-loop-left.result.0.now in
    let rest = c.first_piece-in-loop-left.result.1.now in
    let e = c.in_err-checked-2.field-0.0 in
    let said : Checked B c.args.mode piece (Err e) = search rules in
    let is : c.from_residual-in_err-checked-2.result ≡ Err e = search rules in
    subst (AllChecked B c.args.mode bytes) (sym is)
    (λ real. spoilt (EncodesSome B c.args.mode) bytes left piece rest c.first_piece-in-loop-left.ensures.piece c.loop-left.invariant.1
    (not_some B c.args.mode piece (said real)))

pub loop-left-preserved : goal.loop-left-preserved
loop-left-preserved g c =
    let B = g.T.BERDecodable.encodes in
    let P = EncodesSome B c.args.mode in
    let bytes = c.args.bytes.now in
    let left = c.loop-left.left.now in
    let piece = c.first_piece-in-loop-left.result.0.now in
    let rest = c.first_piece-in-loop-left.result.1.now in
    let is = c.first_piece-in-loop-left.ensures.piece in
    let p : Checked B c.args.mode piece (Ok c.in_ok-checked-2.field-0) = search rules in
    let shorter = c.first_piece-in-loop-left.ensures.shorter in
    let i = c.loop-left.invariant in (
      continues P bytes left piece rest is c.loop-left.count i.0 p,
      spoils P bytes left piece rest is i.1 p,
      omega arith,
      λ some. let less = shorter some in omega (arith, less, some, i.3 (omega (arith, less, some))),
    )

pub returns : goal.returns
returns g c =
    let P = EncodesSome g.T.BERDecodable.encodes c.args.mode in
    let left = c.loop-left.left.now in
    let none : length left ≡ 0 = search rules in
    let i = c.loop-left.invariant in
    (i.2, all_of_whole P c.args.bytes.now left c.loop-left.count i.0 (nil_from_length left none))
