-- What a call does that lets a tag be in place of the next element's, where no error is sticky.
use Rattle.std.proofs.Common.{◌≡◌, None, sym, subst}
use Rattle.std.specs.Prelude.{Result, MatchOption}
use Rattle.std.specs.Borrow.{MutBor}
use Rattle.std.specs.Fn.{Once}
use Rattle.yasna_base.specs.declared.error.ASN1Error.{ASN1Error}
use Rattle.yasna_base.specs.declared.tag.Tag.{Tag}
use Rattle.yasna_writer.specs.View.{Written}
use Rattle.yasna_writer.specs.Sequence.{ReturnsOnly}
use Rattle.yasna_writer.specs.Tagged.{WroteTagged, WritesTagged}

module _ {F T E : Type 0} {g : Once F (MutBor Written × Unit {0}) (Result T E × (MutBor Written × Unit {0}))} {from : ASN1Error → E → Type 0} {f : F}
    {tag : Tag} {old new : Written} {result : Result T E} where
  pub tagged_fresh : old.failed ≡ None → WroteTagged g from f tag old new result → WritesTagged g from f tag old new result
  tagged_fresh none x = subst (λ k. MatchOption k (WroteTagged g from f tag old new result) (λ k. ReturnsOnly from k new result)) (sym none) x
