use Rattle.std.proofs.Common.{sym, subst}
use Rattle.asn1_syntax.specs.declared.token.TokenKind.TheVariants.{Number}
use Rattle.asn1_syntax.specs.Items.{BeginsItem}
use Rattle.asn1_syntax.proofs.Items.{number_item}
use Rattle.asn1_syntax.proofs.item.number_item.Goals as goal

pub returns : goal.returns
returns c = subst (BeginsItem Number c.args.text.now) (sym c.after_digits.ensures) (number_item _ c.requires)
