use Rattle.asn1_input.proofs.Malformed.{by_body, by_no_body}
use Rattle.asn1_input.proofs.block.decode_block.Goals as goal

pub returns-in-Ok : goal.returns-in-Ok
returns-in-Ok c =
    by_body c.args.lines.now c.args.end c.in-Ok.body.now c.in-Ok.ensures.ok c.decode_base64.result c.decode_base64.ensures.ok c.decode_base64.ensures.malformed

pub returns-in-Err : goal.returns-in-Err
returns-in-Err c = by_no_body c.args.lines.now c.args.end c.in-Err.error c.in-Err.ensures.malformed
