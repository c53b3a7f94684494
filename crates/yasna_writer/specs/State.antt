-- How an element with parts begins and ends in a writing.
use Rattle.std.specs.Prelude.{◌≡◌, ℕ, ◌≤◌, ◌<◌, ◌⊎◌, List, ◌++◌, length, Option, Some, None, Result, MatchResult}
use Rattle.yasna_base.specs.declared.error.ASN1Error.{ASN1Error}
use Rattle.yasna_base.specs.declared.error.ASN1ErrorKind.TheVariants.{OutOfMemory, Invalid}
use Rattle.yasna_base.specs.declared.tag.Tag.{Tag}
use Rattle.yasna_base.specs.Error.{kind_of}
use Rattle.yasna_writer.specs.declared.buffer.OpenElement.{OpenElement}
use Rattle.yasna_writer.specs.Buffer.{with_element}
use Rattle.yasna_writer.specs.View.{Written}
use Rattle.yasna_base.specs.Identifier.{tag_or}

-- bytes were appended, or `OutOfMemory` is returned and sticky
abbrev pub Appended : List ℕ → Written → Written → Result (Unit {0}) ASN1Error → Type 0
Appended bs old new result =
    MatchResult result (λ _. new ≡ record old { bytes = old.bytes ++ bs }) (λ e. (kind_of e ≡ OutOfMemory) × (new.failed ≡ Some e))

-- why k is sticky at the end of an element that began after n bytes, where a closure left this writing: a write of the
-- closure failed, or there is no memory, or fewer bytes are left than there were
abbrev pub FailsAtEnd : ℕ → Written → ASN1Error → Type 0
FailsAtEnd n left k = (left.failed ≡ Some k) ⊎ ((left.failed ≡ None) × ((kind_of k ≡ OutOfMemory) ⊎ ((kind_of k ≡ Invalid) × (length left.bytes < n))))

-- the sticky error once an element has ended: none, if there was none and at least as many bytes are there as when it began
abbrev pub FailedAtEnd : ℕ → Written → Option ASN1Error → Type 0
FailedAtEnd n left None = (left.failed ≡ None) × (n ≤ length left.bytes)
FailedAtEnd n left (Some k) = FailsAtEnd n left k

-- the tag of an element, or a sticky error
abbrev pub TakesTag : Tag → Written → Written → Result Tag ASN1Error → Type 0
TakesTag own old new result =
    MatchResult result
    (λ tag. (old.failed ≡ None) × (tag ≡ tag_or old.tag own) × (new ≡ record old { tag = None }))
    (λ k. (old.failed ≡ Some k) × (new ≡ old))

-- an element begins after the bytes that are there, under this tag
pub record BeginsAt (tag : Tag) (old new : Written) (b : OpenElement) : Type 0 where
  -- it is written in the mode of the writing
  pub mode : b.mode ≡ old.mode
  -- under the tag
  pub tagged : b.tag ≡ tag
  -- after all bytes
  pub start : b.start ≡ length old.bytes
  -- nothing is written yet
  pub same : new ≡ old

-- an element ends, in the mode that it began with, around what is left from its beginning on, or an error is sticky
pub record EndsElement (b : OpenElement) (left new : Written) : Type 0 where
  -- the sticky error, if there is one
  pub failed : FailedAtEnd b.start left new.failed
  -- where none is, the bytes from the beginning on became the contents of the element, and no tag waits
  pub bytes : new.failed ≡ None → new ≡ record { bytes = with_element b.mode b.tag b.start left.bytes; mode = b.mode; tag = None; failed = None }
