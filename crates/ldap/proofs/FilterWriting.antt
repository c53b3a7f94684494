-- What can be written of a filter, how deep it is, and its encoding, by what it is made of.
use Rattle.std.proofs.Common.{◌≡◌, ◌<◌, ◌≤◌, ◌↔◌, ℕ, zero, suc, Bool, IsTrue, List, [], ◌∷◌, Option, Vec, Box, Result, length, get_or, map, sym, ap, subst, ◌∙◌, arith}
use Rattle.std.specs.Global.{Global}
use Rattle.std.specs.List.{AllByRecursion}
use Rattle.yasna_base.specs.declared.error.ASN1Error.{ASN1Error}
use Rattle.yasna_base.specs.declared.mode.BERMode.{BERMode}
use Rattle.yasna_base.specs.declared.tag.Tag.{Tag}
use Rattle.yasna_writer.specs.Prepend.{Prepended, Prepends, KnownLength}
use Rattle.yasna_writer.specs.View.{Written, Writes}
use Rattle.yasna_notation.specs.declared.choices.Either.TheVariants.{First, Second}
use Rattle.ldap.specs.declared.filter.Filter.{Filter}
use Rattle.ldap.specs.declared.filter.Filter.TheOpen.Filter-F.{And as AndOf, Or as OrOf, Not as NotOf, Item as ItemOf}
use Rattle.ldap.specs.declared.filter.Filter.TheVariants.{And, Or, Not, Item, rolls-And, rolls-Or, rolls-Not, rolls-Item}
use Rattle.ldap.specs.declared.filter.Filter.TheViews.{out-roll-Filter}
use Rattle.ldap.specs.declared.filter_item.FilterItem.{FilterItem}
use Rattle.ldap.specs.Filters.{Parted, parted, parted_of, depth_of, parted_top, largest, the_filter, whole}
use Rattle.ldap.specs.FilterLaws.{depth_is}
use Rattle.ldap.specs.RecursionLaws.{unfolded_can, folded_can, unfolded_encoding}
use Rattle.ldap.specs.TheFilter.{the_step}

pub in_and : (v : Filter) (fs : Vec Filter Global) → v ≡ And fs → parted_of v ≡ First fs
in_and v fs e = ap (λ z. parted_of z) (e ∙ sym (rolls-And fs)) ∙ ap (λ z. parted z) (out-roll-Filter (AndOf fs))

pub in_or : (v : Filter) (fs : Vec Filter Global) → v ≡ Or fs → parted_of v ≡ Second (First fs)
in_or v fs e = ap (λ z. parted_of z) (e ∙ sym (rolls-Or fs)) ∙ ap (λ z. parted z) (out-roll-Filter (OrOf fs))

pub in_not : (v : Filter) (f : Box Filter Global) → v ≡ Not f → parted_of v ≡ Second (Second (First f))
in_not v f e = ap (λ z. parted_of z) (e ∙ sym (rolls-Not f)) ∙ ap (λ z. parted z) (out-roll-Filter (NotOf f))

pub in_item : (v : Filter) (i : FilterItem) → v ≡ Item i → parted_of v ≡ Second (Second (Second i))
in_item v i e = ap (λ z. parted_of z) (e ∙ sym (rolls-Item i)) ∙ ap (λ z. parted z) (out-roll-Filter (ItemOf i))

module _ (v : Filter) (p : Parted) (is : parted_of v ≡ p) where
  pub parts_can : the_filter.can v → whole.can p
  parts_can c = subst (λ z. whole.can z) is (unfolded_can the_step v c)

  pub parts_tested : (r : Bool) → IsTrue r ↔ whole.can p → IsTrue r ↔ the_filter.can v
  parts_tested r h =
      (λ yes. folded_can the_step v (subst (λ z. whole.can z) (sym is) (h.0 yes)), λ c. h.1 (parts_can c))

  pub parts_deep : depth_of v ≡ parted_top p
  parts_deep = depth_is v ∙ ap (λ z. parted_top z) is

  pub parts_written : (w w' : Written) (r : Result (Unit {0}) ASN1Error) → Writes (whole.encoding_under w.tag w.mode p) w w' r →
      Writes (the_filter.encoding_under w.tag w.mode v) w w' r
  parts_written w w' r h =
      subst (λ b. Writes b w w' r) (sym (unfolded_encoding the_step w.tag w.mode v ∙ ap (λ z. whole.encoding_under w.tag w.mode z) is)) h

  pub parts_prepended : (u : Option Tag) (old new : Prepended) (r : Result (Unit {0}) ASN1Error) → Prepends (whole.encoding_under u old.mode p) old new r →
      Prepends (the_filter.encoding_under u old.mode v) old new r
  parts_prepended u old new r h =
      subst (λ b. Prepends b old new r) (sym (unfolded_encoding the_step u old.mode v ∙ ap (λ z. whole.encoding_under u old.mode z) is)) h

  pub parts_known : (u : Option Tag) (m : BERMode) (r : Option ℕ) → KnownLength (whole.encoding_under u m p) r → KnownLength (the_filter.encoding_under u m v) r
  parts_known u m r h = subst (λ b. KnownLength b r) (sym (unfolded_encoding the_step u m v ∙ ap (λ z. whole.encoding_under u m z) is)) h

-- an item is at most as deep as the deepest
pub within_largest : {A : Type 0} (depth : A → ℕ) (vs : List A) (i : ℕ) (v : A) → i < length vs → v ≡ get_or vs i v → depth v ≤ largest (map depth vs)
within_largest depth [] i v below is = absurd (omega (arith, below))
within_largest depth (w ∷ ws) zero v below is = omega (arith, ap depth is)
within_largest depth (w ∷ ws) (suc i) v below is = let h = within_largest depth ws i v (omega (arith, below)) is in omega (arith, h)

-- what is so of all is so of an item
pub so_of_item : {A : Type 0} (P : A → Type 0) (vs : List A) (i : ℕ) (v : A) → AllByRecursion P vs → i < length vs → v ≡ get_or vs i v → P v
so_of_item P [] i v a below is = absurd (omega (arith, below))
so_of_item P (w ∷ ws) zero v a below is = subst P (sym is) a.0
so_of_item P (w ∷ ws) (suc i) v a below is = so_of_item P ws i v a.1 (omega (arith, below)) is

-- each is at most as deep as the deepest
pub all_within_largest : {A : Type 0} (depth : A → ℕ) (vs : List A) → AllByRecursion (λ v. depth v ≤ largest (map depth vs)) vs
all_within_largest {A} depth vs = go vs (omega arith)
  where
    go : (ws : List A) → largest (map depth ws) ≤ largest (map depth vs) → AllByRecursion (λ v. depth v ≤ largest (map depth vs)) ws
    go [] h = tt
    go (w ∷ ws) h = (omega (arith, h), go ws (omega (arith, h)))
