use Rattle.yasna_base.specs.Text.{InPrintable}
use Rattle.yasna_base.proofs.Texts.{class_text, printable_below}
use Rattle.yasna_base.proofs.text.is_printable_text.Goals as goal

pub returns : goal.returns
returns c =
    let bytes = c.as_bytes in
    class_text InPrintable printable_below c.is_printable.result bytes.result.now c.args.text.now c.utf8.text bytes.ensures.value c.is_printable.ensures
