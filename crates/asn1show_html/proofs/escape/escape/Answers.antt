use Rattle.std.proofs.Common.{subst, sym}
use Rattle.asn1show_html.specs.Escape.{IsReadAs}
use Rattle.asn1show_html.proofs.Escaped.{if_ok, read_back}
use Rattle.asn1show_html.proofs.escape.escape.Goals as goal

pub returns : goal.returns
returns c =
    let text = c.args.text.now in
    if_ok c.escaped.result (λ html e. subst (λ z. IsReadAs z text) (sym e) (read_back text)) c.escaped.ensures
