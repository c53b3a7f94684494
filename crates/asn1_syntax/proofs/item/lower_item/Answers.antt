use Rattle.std.proofs.Common.{sym, subst}
use Rattle.asn1_syntax.specs.declared.token.TokenKind.TheVariants.{Identifier}
use Rattle.asn1_syntax.specs.Items.{BeginsItem}
use Rattle.asn1_syntax.proofs.Items.{lower_item}
use Rattle.asn1_syntax.proofs.item.lower_item.Goals as goal

pub returns : goal.returns
returns c = subst (BeginsItem Identifier c.args.text.now) (sym c.after_word.ensures) (lower_item _ c.requires)
