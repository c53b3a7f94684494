-- What a writing has at the end of an element with parts.
use Rattle.std.proofs.Common.{◌≡◌, ℕ, List, ◌++◌, length, take, drop, None, ap, ap₂, subst, ◌∙◌}
use Rattle.std.proofs.Math.Seq.{take-append_seam, drop-append_seam}
use Rattle.yasna_base.specs.declared.mode.BERMode.{BERMode}
use Rattle.yasna_base.specs.declared.tag.Tag.{Tag}
use Rattle.yasna_base.specs.declared.tag.PCBit.TheVariants.{Constructed}
use Rattle.yasna_base.specs.Canonical.{canonical_element}
use Rattle.std.specs.Prelude.{Option}
use Rattle.yasna_base.specs.declared.error.ASN1Error.{ASN1Error}
use Rattle.yasna_writer.specs.declared.buffer.OpenElement.{OpenElement}
use Rattle.yasna_writer.specs.View.{Written, handed, holding}
use Rattle.yasna_writer.specs.Buffer.{with_element}
use Rattle.yasna_writer.specs.State.{FailedAtEnd, BeginsAt, EndsElement}

-- the bytes around a seam are put around an element of what is after it
element_at_seam :
    (m : BERMode) (t u : Tag) (n : ℕ) (prefix c whole : List ℕ) → n ≡ length prefix → t ≡ u → whole ≡ prefix ++ c
    → with_element m t n whole ≡ prefix ++ canonical_element m u Constructed c
element_at_seam m t u n prefix c whole l s e =
    let head = ap₂ take l e ∙ take-append_seam prefix c in
    let rest = ap₂ drop l e ∙ drop-append_seam prefix c in
    ap₂ (λ x y. x ++ canonical_element m t Constructed y) head rest ∙ ap (λ v. prefix ++ canonical_element m v Constructed c) s

-- a writing without a failure whose tag was taken is the one that a closure is handed
pub handed_untagged : (old new : Written) → old.failed ≡ None → new ≡ record old { tag = None } → new ≡ handed old
handed_untagged old new none same = same ∙ ap (λ (k : Option ASN1Error). record old { tag = None; failed = k }) none

module _ (t : Tag) (old between left new : Written) (b : OpenElement) (begun : BeginsAt t (handed old) between b) (ends : EndsElement b left new) where
  -- what is sticky, by the count of bytes that were in front
  pub ended_failed : FailedAtEnd (length old.bytes) left new.failed
  ended_failed = subst (λ (n : ℕ). FailedAtEnd n left new.failed) begun.start ends.failed

  -- the element after the bytes before
  pub ended_writes : new.failed ≡ None → (c : List ℕ) → left.bytes ≡ old.bytes ++ c → new ≡ holding old (old.bytes ++ canonical_element old.mode t Constructed c)
  ended_writes none c e =
      ends.bytes none
      ∙ ap (λ x. holding (record old { mode = b.mode }) x) (element_at_seam b.mode b.tag t b.start old.bytes c left.bytes begun.start begun.tagged e)
      ∙ ap (λ (m : BERMode). holding (record old { mode = m }) (old.bytes ++ canonical_element m t Constructed c)) begun.mode
