use Rattle.std.proofs.Common.{sym, subst}
use Rattle.asn1_syntax.specs.declared.token.TokenKind.TheVariants.{TypeReference}
use Rattle.asn1_syntax.specs.Items.{BeginsItem}
use Rattle.asn1_syntax.proofs.Items.{upper_item}
use Rattle.asn1_syntax.proofs.item.upper_item.Goals as goal

pub returns : goal.returns
returns c = subst (BeginsItem TypeReference c.args.text.now) (sym c.after_word.ensures) (upper_item _ c.requires)
