use Rattle.std.proofs.Common.{sym, ◌∙◌, ap}
use Rattle.asn1_syntax.specs.Tree.{import_list_then, left}
use Rattle.asn1_syntax.proofs.Texts.{one_more_import}
use Rattle.asn1_syntax.proofs.module.import_list.Goals as goal

pub loop-preserved : goal.loop-preserved
loop-preserved c =
    c.loop.invariant
    ∙ ap (import_list_then c.loop.imports.items) c.in_ok-import.ensures
    ∙ sym (one_more_import c.loop.imports.items c.in_ok-import.import (left c.import.new.cursor))
    ∙ ap (λ l. import_list_then l (left c.import.new.cursor)) (sym c.in_ok-push.ensures.items)
