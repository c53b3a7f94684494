use Rattle.std.proofs.Common.{◌∙◌, ap, map, reverse}
use Rattle.asn1_syntax.proofs.Texts.{one_more_prepended}
use Rattle.asn1_syntax.proofs.prepended.Prepended.text.Goals as goal

pub returns : goal.returns
returns c =
    ap (λ ts. map (λ t. t.now) (reverse ts)) c.in_ok-push.ensures.items
    ∙ one_more_prepended c.args.self.now.reversed.items c.args.text
