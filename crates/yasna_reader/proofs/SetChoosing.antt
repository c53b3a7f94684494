-- An element of a SET that is chosen by its tag.
use Rattle.std.proofs.Common.{◌≡◌, ℕ, ◌+◌, ◌<◌, ◌≤◌, List, length, Some, None, refl, sym, subst}
use Rattle.std.proofs.lemmas.List.Elements.{AllWithin-more, AllWithin-upto, at_read}
use Rattle.std.specs.List.{AllWithin, remove}
use Rattle.std.specs.Prelude.{Result, Ok, Err, slice_index_or}
use Rattle.yasna_base.specs.declared.error.ASN1Error.{ASN1Error}
use Rattle.yasna_base.specs.declared.error.ASN1ErrorKind.TheVariants.{Invalid}
use Rattle.yasna_base.specs.declared.tag.Tag.{Tag}
use Rattle.yasna_base.specs.Error.{error_of}
use Rattle.yasna_reader.specs.declared.set.SetElement.{SetElement}
use Rattle.yasna_reader.specs.SetChoice.{Chooses, ChoosesBy, IsAmong, IsFirstAmong, NoneIsAmong}
use Rattle.yasna_reader.specs.State.{Reading, untagged}

-- one element more has none of the tags
pub among_more : (ts : List Tag) (l : List SetElement) (i : ℕ) (x : SetElement) → AllWithin (λ x. IsAmong ts x → ⊥) l 0 i → i < length l →
    x ≡ slice_index_or l i x → (IsAmong ts x → ⊥) → AllWithin (λ x. IsAmong ts x → ⊥) l 0 (i + 1)
among_more ts l i x h inside e f = AllWithin-more (λ x. IsAmong ts x → ⊥) l 0 i h (at_read l (λ x. IsAmong ts x → ⊥) i x inside e f)

-- the first that has one
pub among_here : (ts : List Tag) (l : List SetElement) (i : ℕ) (x : SetElement) → AllWithin (λ x. IsAmong ts x → ⊥) l 0 i → i < length l →
    x ≡ slice_index_or l i x → IsAmong ts x → IsFirstAmong ts l i
among_here ts l i x h inside e f = record { inside = inside; before = h; here = at_read l (IsAmong ts) i x inside e f }

-- there is no further one
pub among_end : (ts : List Tag) (l : List SetElement) (i : ℕ) → length l ≤ i → AllWithin (λ x. IsAmong ts x → ⊥) l 0 i → NoneIsAmong ts l
among_end ts l i e h = AllWithin-upto (λ x. IsAmong ts x → ⊥) l 0 i (length l) e h

-- the first element is taken that has one of the tags
pub chose : (l : List SetElement) (s : Reading) (ts : List Tag) (i : ℕ) (x : SetElement) (l' : List SetElement) (s' : Reading) → s.failed ≡ None →
    IsFirstAmong ts l i → x ≡ slice_index_or l i x → l' ≡ remove l i → s' ≡ record s { left = x.bytes.now; tag = None } → Chooses l s ts (Ok tt) l' s'
chose l s ts i x l' s' e first f g h = record {
  chooses = subst (λ k. ChoosesBy k ts l s (Ok tt) l' s') (sym e) (record {
    place = i;
    element = x;
    first = first;
    found = at_read l (λ y. y ≡ x) i x first.inside f refl;
    others = g;
    state = h;
  });
}

-- none has
pub chose_none : (l : List SetElement) (s : Reading) (ts : List Tag) (e : ASN1Error) (s' : Reading) → s.failed ≡ None → NoneIsAmong ts l →
    e ≡ error_of Invalid → s' ≡ untagged s → Chooses l s ts (Err e) l s'
chose_none l s ts e s' k none f g = record { chooses = subst (λ z. ChoosesBy z ts l s (Err e) l s') (sym k) (none, f, refl, g) }

-- an error is sticky
pub chose_sticky : (l : List SetElement) (s : Reading) (ts : List Tag) (e : ASN1Error) (r : Result (Unit {0}) ASN1Error) (l' : List SetElement)
    (s' : Reading) → s.failed ≡ Some e → r ≡ Err e → l' ≡ l → s' ≡ untagged s → Chooses l s ts r l' s'
chose_sticky l s ts e r l' s' k f g h = record { chooses = subst (λ z. ChoosesBy z ts l s r l' s') (sym k) (f, g, h) }
