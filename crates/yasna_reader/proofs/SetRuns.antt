-- A callback that is run on the elements of a SET.
use Rattle.std.proofs.Common.{◌≡◌, inl, List, ℕ, ap, subst, ◌∙◌}
use Rattle.std.specs.Borrow.{MutBor}
use Rattle.std.specs.Fn.{Once, FnOnceTakesAtMut, FnOnceReturnsAtMut}
use Rattle.std.specs.Global.{Global}
use Rattle.std.specs.Prelude.{Result}
use Rattle.std.specs.declared.collections.VecDeque.{VecDeque}
use Rattle.yasna_base.specs.declared.error.ASN1Error.{ASN1Error}
use Rattle.yasna_reader.specs.declared.set.SetElement.{SetElement}
use Rattle.yasna_reader.specs.Set.{RunsOnSet, SetCallback, SetReading, TakesElements, all_taken, emptied}
use Rattle.yasna_reader.specs.SetList.{IsSetList}
use Rattle.yasna_reader.specs.State.{Reading}

-- what it is handed it takes
pub takes_set : {F R : Type 0} (g : Once F (MutBor SetReading × Unit {0}) R) (f : F) (s : Reading)
    (l : VecDeque SetElement Global) (y : List ℕ) (z : Reading) → TakesElements g f s → IsSetList s.levels s.mode l.items s.left y → z ≡ emptied s →
    FnOnceTakesAtMut g f (record { reader = z; list = l })
takes_set g f s l y z takes h e p k = takes l y h p (k ∙ ap (λ (w : Reading). record { reader = w; list = l }) e)

-- what came of it
pub ran_on_set : {F A : Type 0} (g : SetCallback F A) (f : F) (s : Reading) (l : VecDeque SetElement Global) (y : List ℕ)
    (z : Reading) (own : Result A ASN1Error) (n : SetReading) (r : Result A ASN1Error) (s' : Reading) →
    IsSetList s.levels s.mode l.items s.left y → z ≡ emptied s → FnOnceReturnsAtMut g f (record { reader = z; list = l }) own n →
    r ≡ all_taken own n.list.items → s' ≡ record s { left = y; failed = n.reader.failed } → RunsOnSet g f s r s'
ran_on_set g f s l y z own n r s' h e c a b = inl (record {
  found = record { list = l; rest = y; lists = h };
  run = record { own = own; left = n; called = subst (λ (w : Reading). FnOnceReturnsAtMut g f (record { reader = w; list = l }) own n) e c };
  returned = a;
  state = b;
})
