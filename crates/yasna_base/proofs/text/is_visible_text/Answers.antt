use Rattle.yasna_base.specs.Text.{InVisible}
use Rattle.yasna_base.proofs.Texts.{class_text, visible_below}
use Rattle.yasna_base.proofs.text.is_visible_text.Goals as goal

pub returns : goal.returns
returns c =
    let bytes = c.as_bytes in
    class_text InVisible visible_below c.is_visible.result bytes.result.now c.args.text.now c.utf8.text bytes.ensures.value c.is_visible.ensures
