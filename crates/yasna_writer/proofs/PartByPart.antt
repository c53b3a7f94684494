-- What writes of parts do, of the first and of those after it.
use Rattle.std.proofs.Common.{◌≡◌, ◌+◌, ◌<◌, ℕ, length, get_or, List, [], ◌∷◌, ◌++◌, take, Option, Some, None, Result, Ok, Err, refl, sym, ap}
use Rattle.std.proofs.Common.{subst, ◌∙◌, append-nil, append_assoc}
use Rattle.std.proofs.lemmas.List.{flat_map_more, take_more}
use Rattle.std.specs.List.{flat_map}
use Rattle.std.specs.Prelude.{MatchOption, MatchResult, IsErrAnd}
use Rattle.yasna_base.specs.declared.error.ASN1Error.{ASN1Error}
use Rattle.yasna_base.specs.declared.error.ASN1ErrorKind.TheVariants.{OutOfMemory}
use Rattle.yasna_base.specs.declared.mode.BERMode.{BERMode}
use Rattle.yasna_base.specs.declared.tag.Tag.{Tag}
use Rattle.yasna_base.specs.Error.{kind_of}
use Rattle.yasna_base.specs.Grammar.{Encoding}
use Rattle.yasna_base.specs.SequenceOf.{elements_encoding}
use Rattle.yasna_writer.specs.View.{Written, holding, Writes, FailsOutOfMemory, WroteParts}

-- an out-of-memory error
abbrev IsOutOfMemory : ASN1Error → Type 0
IsOutOfMemory e = kind_of e ≡ OutOfMemory

-- the writing with these, with no tag
abbrev untagged_writing : List ℕ → BERMode → Option ASN1Error → Written
untagged_writing s m k = record { bytes = s; mode = m; tag = None; failed = k }

-- what writes an element writes a part
pub as_part : (b : List ℕ) (old new : Written) (r : Result (Unit {0}) ASN1Error) → Writes b old new r → WroteParts b old new r
as_part b old new r h = go old.failed r h
  where
    go : (k : Option ASN1Error) (r : Result (Unit {0}) ASN1Error) →
        MatchOption k (MatchResult r (λ _. new ≡ holding old (old.bytes ++ b)) (λ e. FailsOutOfMemory old new e)) (λ k. new.failed ≡ Some k) →
        MatchOption k (MatchResult r (λ _. record new { tag = None } ≡ holding old (old.bytes ++ b)) (λ e. FailsOutOfMemory old new e)) (λ k. new.failed ≡ Some k)
    go None (Ok u) h = ap (λ (w : Written). record w { tag = None }) h
    go None (Err e) h = h
    go (Some k) r h = h

-- an element is a part, where no tag waits
pub part_by : (f : Option Tag → BERMode → List ℕ) (old w new : Written) (r : Result (Unit {0}) ASN1Error) → w ≡ record old { tag = None } →
    Writes (f w.tag w.mode) w new r → WroteParts (f None old.mode) old new r
part_by f old w new r is h = as_part (f None old.mode) old new r (subst (λ (z : Written). Writes (f z.tag z.mode) z new r) is h)

-- others after a part
pub others_by : (a : List ℕ) (b : BERMode → List ℕ) (old mid new : Written) (x r : Result (Unit {0}) ASN1Error) (u : Unit {0}) →
    WroteParts a old mid x → x ≡ Ok u → WroteParts (b mid.mode) mid new r → WroteParts (a ++ b old.mode) old new r
others_by a b old mid new x r u h is k =
    go old.failed r (subst (λ z. WroteParts a old mid z) is h) (λ e. subst (λ (w : Written). WroteParts (b w.mode) w new r) e k) (λ q e. subst failing e k)
  where
    failing : Option ASN1Error → Type 0
    failing z =
        MatchOption z (MatchResult r (λ _. record new { tag = None } ≡ holding mid (mid.bytes ++ b mid.mode)) (λ e. FailsOutOfMemory mid new e)) (λ q. new.failed ≡ Some q)

    appended_or_failed : (o : Option ASN1Error) → MatchOption o ((c : List ℕ) × (new.bytes ≡ (old.bytes ++ a) ++ c)) IsOutOfMemory →
        MatchOption o ((c : List ℕ) × (new.bytes ≡ old.bytes ++ c)) IsOutOfMemory
    appended_or_failed None h = (a ++ h.0, h.1 ∙ append_assoc old.bytes a h.0)
    appended_or_failed (Some q) h = h

    go : (o : Option ASN1Error) (r : Result (Unit {0}) ASN1Error) →
        MatchOption o (record mid { tag = None } ≡ holding old (old.bytes ++ a)) (λ q. mid.failed ≡ Some q) →
        (record mid { tag = None } ≡ holding old (old.bytes ++ a) →
        MatchResult r (λ _. record new { tag = None } ≡ holding old ((old.bytes ++ a) ++ b old.mode))
        (λ e. IsOutOfMemory e × MatchOption new.failed ((c : List ℕ) × (new.bytes ≡ (old.bytes ++ a) ++ c)) IsOutOfMemory)) →
        ((q : ASN1Error) → mid.failed ≡ Some q → new.failed ≡ Some q) →
        MatchOption o (MatchResult r (λ _. record new { tag = None } ≡ holding old (old.bytes ++ (a ++ b old.mode))) (λ e. FailsOutOfMemory old new e))
        (λ q. new.failed ≡ Some q)
    go None (Ok v) h k sticks = k h ∙ ap (λ z. holding old z) (append_assoc old.bytes a (b old.mode))
    go None (Err e) h k sticks = let x = k h in (x.0, appended_or_failed new.failed x.1)
    go (Some q) r h k sticks = sticks q h

-- a part that failed ends what is written
pub failed_by : (a b : List ℕ) (old new : Written) (x r : Result (Unit {0}) ASN1Error) (e : ASN1Error) → WroteParts a old new x → x ≡ Err e →
    IsErrAnd r (λ k. k ≡ e) → WroteParts b old new r
failed_by a b old new x (Ok u) e h is same = absurd same
failed_by a b old new x (Err k) e h is same = subst (λ z. WroteParts b old new (Err z)) (sym same) (subst (λ z. WroteParts a old new z) is h)

-- no part was written
pub nothing_written : (old : Written) → WroteParts [] old old (Ok tt)
nothing_written old = go old.failed refl
  where
    go : (k : Option ASN1Error) → old.failed ≡ k →
        MatchOption k (record old { tag = None } ≡ holding old (old.bytes ++ [])) (λ q. old.failed ≡ Some q)
    go None e = ap (λ z. record old { tag = None; failed = z }) e ∙ ap (λ z. holding old z) (sym (append-nil old.bytes))
    go (Some q) e = e

module _ {s : List ℕ} {m : BERMode} {k : Option ASN1Error} (f : Option Tag → BERMode → List ℕ) (old w left : Written)
    (x : Result (Unit {0}) ASN1Error) (begins : w ≡ record old { tag = None }) (h : Writes (f w.tag w.mode) w left x) where
  left_part : s ≡ left.bytes → m ≡ left.mode → k ≡ left.failed → WroteParts (f None old.mode) old (untagged_writing s m k) x
  left_part same_bytes same_mode same_failed =
      subst (λ z. WroteParts (f None old.mode) old (untagged_writing z m k) x) (sym same_bytes)
      (subst (λ z. WroteParts (f None old.mode) old (untagged_writing left.bytes z k) x) (sym same_mode)
      (subst (λ z. WroteParts (f None old.mode) old (untagged_writing left.bytes left.mode z) x) (sym same_failed) (part_by f old w left x begins h)))

  -- an element as the last part
  pub last_one : (b : List ℕ) → f None old.mode ≡ b → s ≡ left.bytes → m ≡ left.mode → k ≡ left.failed → WroteParts b old (untagged_writing s m k) x
  last_one b is same_bytes same_mode same_failed = subst (λ z. WroteParts z old (untagged_writing s m k) x) is (left_part same_bytes same_mode same_failed)

  -- an element and parts after it
  pub after_one : (r : Result (Unit {0}) ASN1Error) (b : BERMode → List ℕ) (new : Written) (u : Unit {0}) → x ≡ Ok u →
      WroteParts (b m) (untagged_writing s m k) new r → s ≡ left.bytes → m ≡ left.mode → k ≡ left.failed →
      WroteParts (f None old.mode ++ b old.mode) old new r
  after_one r b new u is others same_bytes same_mode same_failed =
      others_by (f None old.mode) b old (untagged_writing s m k) new x r u (left_part same_bytes same_mode same_failed) is others

  -- an element that failed
  pub failed_one : (r : Result (Unit {0}) ASN1Error) (b : List ℕ) (e : ASN1Error) → x ≡ Err e → IsErrAnd r (λ z. z ≡ e) → s ≡ left.bytes →
      m ≡ left.mode → k ≡ left.failed → WroteParts b old (untagged_writing s m k) r
  failed_one r b e is same same_bytes same_mode same_failed =
      failed_by (f None old.mode) b old (untagged_writing s m k) x r e (left_part same_bytes same_mode same_failed) is same

module _ {A : Type 0} {s : List ℕ} {m : BERMode} {k : Option ASN1Error} (encoding : Option Tag → Encoding A) (vs : List A) (i : ℕ) (v : A)
    (old cur w left : Written) (x : Result (Unit {0}) ASN1Error) (so_far : WroteParts (elements_encoding (encoding None) old.mode (take i vs)) old cur (Ok tt))
    (begins : w ≡ record cur { tag = None }) (h : Writes (encoding w.tag w.mode v) w left x) where
  item_part : s ≡ left.bytes → m ≡ left.mode → k ≡ left.failed →
      WroteParts (elements_encoding (encoding None) old.mode (take i vs) ++ encoding None old.mode v) old (untagged_writing s m k) x
  item_part same_bytes same_mode same_failed =
      others_by (elements_encoding (encoding None) old.mode (take i vs)) (λ o. encoding None o v) old cur (untagged_writing s m k) (Ok tt) x tt so_far refl
      (left_part (λ u o. encoding u o v) cur w left x begins h same_bytes same_mode same_failed)

  -- an item after those before it
  pub one_more : i < length vs → v ≡ get_or vs i v → (u : Unit {0}) → x ≡ Ok u → s ≡ left.bytes → m ≡ left.mode → k ≡ left.failed →
      WroteParts (elements_encoding (encoding None) old.mode (take (i + 1) vs)) old (untagged_writing s m k) (Ok tt)
  one_more below is u ok same_bytes same_mode same_failed =
      let f = encoding None old.mode in
      let joined : flat_map f (take i vs) ++ f v ≡ flat_map f (take (i + 1) vs) =
      flat_map_more f [] (take i vs) v ∙ ap (λ z. flat_map f (take i vs ++ z ∷ [])) is ∙ ap (λ z. flat_map f z) (sym (take_more vs i v below)) in
      subst (λ z. WroteParts z old (untagged_writing s m k) (Ok tt)) joined
      (subst (λ z. WroteParts (flat_map f (take i vs) ++ f v) old (untagged_writing s m k) z) ok (item_part same_bytes same_mode same_failed))

  -- an item that failed
  pub failed_item : (r : Result (Unit {0}) ASN1Error) (b : List ℕ) (e : ASN1Error) → x ≡ Err e → IsErrAnd r (λ z. z ≡ e) → s ≡ left.bytes →
      m ≡ left.mode → k ≡ left.failed → WroteParts b old (untagged_writing s m k) r
  failed_item r b e is same same_bytes same_mode same_failed =
      failed_by (elements_encoding (encoding None) old.mode (take i vs) ++ encoding None old.mode v) b old (untagged_writing s m k) x r e
      (item_part same_bytes same_mode same_failed) is same
