use Rattle.yasna_base.specs.Text.{InNumeric}
use Rattle.yasna_base.proofs.Texts.{class_text, numeric_below}
use Rattle.yasna_base.proofs.text.is_numeric_text.Goals as goal

pub returns : goal.returns
returns c =
    let bytes = c.as_bytes in
    class_text InNumeric numeric_below c.is_numeric.result bytes.result.now c.args.text.now c.utf8.text bytes.ensures.value c.is_numeric.ensures
