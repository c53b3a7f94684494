-- What a call does that writes a set around the parts that a closure writes, and what the closure is lent.
use Rattle.std.specs.List.{AllByRecursion}
use Rattle.std.specs.Prelude.{◌≡◌, ℕ, List, [], ◌∷◌, ◌++◌, ◌⊎◌, Bool, Vec, Option, Some, None, Result, MatchOption, MatchResult}
use Rattle.std.specs.Borrow.{Lends, MutBor, Fml}
use Rattle.std.specs.Fn.{Once, FnOnceReturnsAtMut}
use Rattle.std.specs.Global.{Global}
use Rattle.yasna_base.specs.declared.error.ASN1Error.{ASN1Error}
use Rattle.yasna_base.specs.declared.error.ASN1ErrorKind.TheVariants.{OutOfMemory, Invalid}
use Rattle.yasna_base.specs.declared.mode.BERMode.{BERMode}
use Rattle.yasna_base.specs.Error.{kind_of}
use Rattle.yasna_base.specs.Set.{SetPart, HasItsTag, parts_bytes, SetOfContents, SetContents}
use Rattle.yasna_writer.specs.Sequence.{ReturnsSticky, ReturnsOnly}
use Rattle.yasna_writer.specs.declared.set.PartOrder.{PartOrder}
use Rattle.yasna_writer.specs.declared.set.PartOrder.TheVariants.{Bytes, Tags}
use Rattle.yasna_writer.specs.declared.tagged_part.TaggedPart.{TaggedPart}
use Rattle.yasna_writer.specs.Parts.{WrittenParts, begun_set, bytes_each, last_part, parts_of}
use Rattle.yasna_writer.specs.View.{Written, holding}
use Rattle.yasna_writer.specs.contracts.set.DERWriterSet.{the_row}
use Rattle.yasna_writer.specs.contracts.state.Writer.{the_row as writer_row}

-- a part was put after the earlier parts, or memory is out
abbrev pub Pushes : List ℕ → List (Vec ℕ Global) → List (Vec ℕ Global) → Result (Unit {0}) ASN1Error → Type 0
Pushes b old new result = MatchResult result (λ _. bytes_each new ≡ bytes_each old ++ (b ∷ [])) (λ e. kind_of e ≡ OutOfMemory)

-- why there are no parts: an error is sticky, or there is no memory
abbrev pub LosesParts : Option ASN1Error → ASN1Error → Type 0
LosesParts failed e = (failed ≡ Some e) ⊎ ((failed ≡ None) × (kind_of e ≡ OutOfMemory))

-- the last part was put after the earlier parts, where one was begun
abbrev pub EndsPart : Bool → List (Vec ℕ Global) → Written → List (Vec ℕ Global) → Result (Unit {0}) ASN1Error → Type 0
EndsPart begun old last new result =
    MatchResult result (λ _. (last.failed ≡ None) × (bytes_each new ≡ bytes_each old ++ last_part begun last.bytes)) (λ e. LosesParts last.failed e)

-- what is sticky where a part begins: the sticky error, or `OutOfMemory`
abbrev pub FailedAtPart : Option ASN1Error → Option ASN1Error → Type 0
FailedAtPart old None = old ≡ None
FailedAtPart old (Some k) = LosesParts old k

-- the parts aren't known after an error
abbrev pub parts_unless_failed : Option ASN1Error → List (List ℕ) → List (List ℕ)
parts_unless_failed None ps = ps
parts_unless_failed (Some k) ps = []

-- the writing of a part begins
pub record BeginsPart (mode : BERMode) (failed : Option ASN1Error) (w : Written) : Type 0 where
  -- it has the sticky error of the parts before, if there is one, or `OutOfMemory`
  pub sticks : FailedAtPart failed w.failed
  -- there is nothing in it, and it is in this mode
  pub fresh : w ≡ record { bytes = []; mode = mode; tag = None; failed = w.failed }

-- a part begins after the parts before
pub record BeginsNext (mode : BERMode) (begun : Bool) (old : List (Vec ℕ Global)) (last : Written) (new : List (Vec ℕ Global)) (w : Written) : Type 0 where
  -- a part begins
  pub begins : BeginsPart mode last.failed w
  -- what was the last part is there with those before it, unless an error is sticky
  pub before : bytes_each new ≡ parts_unless_failed w.failed (bytes_each old ++ last_part begun last.bytes)

-- s ends with the part that is after r at last
abbrev pub LendsPart : MutBor WrittenParts → MutBor Written → Fml
LendsPart s r = Lends the_row writer_row s r (λ w. record {
  parts = parts_unless_failed r.now.failed s.now.parts ++ (w.bytes ∷ []);
  mode = s.now.mode;
  failed = w.failed;
})

-- these parts of a SET begin with their tags, and are ps
abbrev pub AreTagged : List (List ℕ) → List SetPart → Type 0
AreTagged ps ts = AllByRecursion HasItsTag ts × (parts_bytes ts ≡ ps)

-- the tags of parts were found, or there is no memory, or a part begins with no identifier
abbrev pub TagsParts : List (List ℕ) → Result (Vec TaggedPart Global) ASN1Error → Type 0
TagsParts ps result =
    MatchResult result (λ v. AreTagged ps (parts_of v.items))
    (λ e. (kind_of e ≡ OutOfMemory) ⊎ ((kind_of e ≡ Invalid) × ((ts : List SetPart) → AreTagged ps ts → ⊥)))

-- why k is sticky at the end of a set whose parts a closure left so: a write of the closure failed, or there is no memory,
-- or the parts make no contents
abbrev pub FailsAtSet : (List (List ℕ) → List ℕ → Type 0) → WrittenParts → ASN1Error → Type 0
FailsAtSet Contents left k =
    (left.failed ≡ Some k) ⊎ ((left.failed ≡ None) × ((kind_of k ≡ OutOfMemory) ⊎ ((kind_of k ≡ Invalid) × ((c : List ℕ) → Contents left.parts c → ⊥))))

-- the contents that parts make in this order
abbrev pub contents_in : PartOrder → List (List ℕ) → List ℕ → Type 0
contents_in Bytes = SetOfContents
contents_in Tags = SetContents

-- no error was sticky, the parts make contents, and the encoding of these was written
abbrev pub WritesParts : (List (List ℕ) → List ℕ → Type 0) → (List ℕ → List ℕ) → WrittenParts → Written → Written → Type 0
WritesParts Contents encoding left old new = (left.failed ≡ None) × (c : List ℕ) × Contents left.parts c × (new ≡ holding old (old.bytes ++ encoding c))

-- the end of a set: its contents are written, unless an error is sticky
abbrev pub EndsSet : (List (List ℕ) → List ℕ → Type 0) → (List ℕ → List ℕ) → WrittenParts → Written → Written → Type 0
EndsSet Contents encoding left old new = MatchOption new.failed (WritesParts Contents encoding left old new) (λ k. FailsAtSet Contents left k)

-- the closure f ran and wrote parts, and the set of them was written
pub record WroteSet {F T E : Type 0} (g : Once F (MutBor WrittenParts × Unit {0}) (Result T E × (MutBor WrittenParts × Unit {0})))
    (from : ASN1Error → E → Type 0)
    (f : F) (Contents : List (List ℕ) → List ℕ → Type 0) (encoding : List ℕ → List ℕ) (old new : Written) (result : Result T E) : Type 0 where
  -- the closure's result
  pub own : Result T E
  -- the parts that it left
  pub left : WrittenParts
  -- it was handed no parts
  pub ran : FnOnceReturnsAtMut g f (begun_set old.mode) own left
  -- encoding of the contents that the parts make was written, or an error is sticky
  pub ends : EndsSet Contents encoding left old new
  -- that error is returned, else the closure's result, an Err too
  pub returns : ReturnsSticky from new.failed own result

-- what such a call does: a sticky error comes first
abbrev pub WritesSet :
    {F T E : Type 0} → Once F (MutBor WrittenParts × Unit {0}) (Result T E × (MutBor WrittenParts × Unit {0})) → (ASN1Error → E → Type 0) → F
    → (List (List ℕ) → List ℕ → Type 0) → (List ℕ → List ℕ) → Written → Written → Result T E → Type 0
WritesSet g from f Contents encoding old new result =
    MatchOption old.failed (WroteSet g from f Contents encoding old new result) (λ k. ReturnsOnly from k new result)
