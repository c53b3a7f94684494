-- What a call does that lets a tag be in place of the next element's.
use Rattle.std.specs.Prelude.{◌≡◌, ℕ, ◌≤◌, ◌<◌, ◌⊎◌, length, Option, Some, None, Result, MatchOption}
use Rattle.std.specs.Borrow.{MutBor}
use Rattle.std.specs.Fn.{Once, FnOnceReturnsAtMut}
use Rattle.yasna_base.specs.declared.error.ASN1Error.{ASN1Error}
use Rattle.yasna_base.specs.declared.error.ASN1ErrorKind.TheVariants.{Invalid}
use Rattle.yasna_base.specs.declared.tag.Tag.{Tag}
use Rattle.yasna_base.specs.Error.{kind_of}
use Rattle.yasna_base.specs.Identifier.{tag_or}
use Rattle.yasna_writer.specs.View.{Written}
use Rattle.yasna_writer.specs.Sequence.{ReturnsSticky, ReturnsOnly}

-- the writing whose next element has the tag, or the one that waits already
abbrev pub writing_under : Tag → Written → Written
writing_under tag w = record w { tag = Some (tag_or w.tag tag) }

-- the sticky error after a closure that left this writing of one with n bytes: that of the writing, or `Invalid` if bytes are missing
abbrev pub FailedAfter : ℕ → Written → Option ASN1Error → Type 0
FailedAfter n left None = (left.failed ≡ None) × (n ≤ length left.bytes)
FailedAfter n left (Some k) = (left.failed ≡ Some k) ⊎ ((left.failed ≡ None) × (kind_of k ≡ Invalid) × (length left.bytes < n))

-- what a closure left is what there is, with no implicit tag
pub record LeftAfter (n : ℕ) (left new : Written) : Type 0 where
  pub failed : FailedAfter n left new.failed
  pub same : new ≡ record left { tag = None; failed = new.failed }

-- the closure f ran with the tag, and nothing was written but what it wrote
pub record WroteTagged {F T E : Type 0} (g : Once F (MutBor Written × Unit {0}) (Result T E × (MutBor Written × Unit {0}))) (from : ASN1Error → E → Type 0)
    (f : F) (tag : Tag) (old new : Written) (result : Result T E) : Type 0 where
  -- the closure's result
  pub own : Result T E
  -- the writing as it left it
  pub left : Written
  -- it was handed the writing with the tag
  pub ran : FnOnceReturnsAtMut g f (writing_under tag old) own left
  -- the writing is what it left, but for the tag and the sticky error
  pub after : LeftAfter (length old.bytes) left new
  -- a sticky error is returned, else the closure's result, an Err too
  pub returns : ReturnsSticky from new.failed own result

-- what such a call does: a sticky error comes first
abbrev pub WritesTagged :
    {F T E : Type 0} → Once F (MutBor Written × Unit {0}) (Result T E × (MutBor Written × Unit {0})) → (ASN1Error → E → Type 0) → F → Tag
    → Written → Written → Result T E → Type 0
WritesTagged g from f tag old new result = MatchOption old.failed (WroteTagged g from f tag old new result) (λ k. ReturnsOnly from k new result)
