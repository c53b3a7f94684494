use Rattle.std.proofs.Common.{sym, ◌∙◌, ap}
use Rattle.asn1_syntax.specs.Items.{after_end}
use Rattle.asn1_syntax.proofs.Items.{bstring_item, hstring_item}
use Rattle.asn1_syntax.proofs.item.quoted_item.Goals as goal

pub returns-in-Some : goal.returns-in-Some
returns-in-Some c = bstring_item _ _ (sym (c.in-Some.ensures ∙ ap (after_end 66) c.after_binary.ensures))

pub returns-in-Some-after_end : goal.returns-in-Some-after_end
returns-in-Some-after_end c = hstring_item _ _ (sym (c.in-Some-after_end.ensures ∙ ap (after_end 72) c.after_hexadecimal.ensures))
