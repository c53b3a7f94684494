use Rattle.yasna_base.specs.Text.{InIa5}
use Rattle.yasna_base.proofs.Texts.{class_text, ia5_below}
use Rattle.yasna_notation_constraints.proofs.strings.is_ia5_text.Goals as goal

pub returns : goal.returns
returns c =
    let bytes = c.as_bytes in
    class_text InIa5 ia5_below c.is_ia5.result bytes.result.now c.args.text.now c.utf8.text bytes.ensures.value c.is_ia5.ensures
