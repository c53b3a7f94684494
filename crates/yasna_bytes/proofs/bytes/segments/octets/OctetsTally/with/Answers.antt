use Rattle.std.proofs.Common.{[], ◌∷◌, ◌++◌, ap, sym, ◌∙◌, append-nil}
use Rattle.std.proofs.lemmas.List.Folds.{concat-append}
use Rattle.std.specs.List.{concat}
use Rattle.yasna_bytes.proofs.bytes.segments.octets.OctetsTally.with.Goals as goal

pub returns : goal.returns
returns c = λ m vs b d h _. ap (λ z. z ++ d) h ∙ ap (λ z. concat vs ++ z) (sym (append-nil d)) ∙ sym (concat-append vs (d ∷ []))
