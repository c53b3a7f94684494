-- The meaning of a filter (RFC 4511, 4.5.1.7).
use Rattle.std.proofs.Common.{◌≡◌, ◌∷◌, ◌++◌, [], ℕ, suc, max, List, true, false, None, Vec, Box, Result, length, map}
use Rattle.std.specs.Global.{Global}
use Rattle.std.specs.List.{AllByRecursion}
use Rattle.std.specs.Prelude.{◌||◌, nat_lt}
use Rattle.yasna_base.specs.declared.error.ASN1Error.{ASN1Error}
use Rattle.yasna_base.specs.declared.tag.Tag.{Tag}
use Rattle.yasna_base.specs.AnyOrder.{SameSetOf, InSomeOrder, sorted_set_of_encoding}
use Rattle.yasna_base.specs.Canonical.{enclosed_encoding, enclosed_depth}
use Rattle.yasna_base.specs.Choice.{EitherOf, AnyEither, SameEither, either_encoding, either_depth, either_can, either_fits}
use Rattle.yasna_base.specs.Coding.{Any}
use Rattle.yasna_base.specs.Element.{Enclosed, AnyEnclosed}
use Rattle.yasna_base.specs.Exact.{enclosed_fits, elements_fit}
use Rattle.yasna_base.specs.Identifier.{context, tag_or}
use Rattle.yasna_base.specs.Set.{IsSetOf}
use Rattle.yasna_base.specs.SetWriting.{set_of_depth}
use Rattle.yasna_reader.specs.State.{Reading}
use Rattle.yasna_notation.specs.declared.choices.Either.{Either}
use Rattle.yasna_notation.specs.declared.choices.Either.TheVariants.{First, Second}
use Rattle.yasna_notation.specs.Bounded.{Within}
use Rattle.yasna_notation.specs.Choices.{ReadsFound, sides}
use Rattle.yasna_notation.specs.Notation.{Meaning, represented_by}
use Rattle.ldap.specs.declared.filter.Filter.{Filter}
use Rattle.ldap.specs.declared.filter.Filter.TheFolds.{fold-Filter}
use Rattle.ldap.specs.declared.filter.Filter.TheOpen.{Filter-F}
use Rattle.ldap.specs.declared.filter.Filter.TheOpen.Filter-F.{And, Or, Not, Item}
use Rattle.ldap.specs.declared.filter.Filter.TheViews.{out-Filter}
use Rattle.ldap.specs.declared.filter_item.FilterItem.{FilterItem}
use Rattle.ldap.specs.contracts.filter_item.FilterItemNotation.TheImpl.{means-value}
use Rattle.ldap.specs.Recursion.{means_within}

-- the filters within a filter, or its item
abbrev pub Parted : Type 0
Parted = Either (Vec Filter Global) (Either (Vec Filter Global) (Either (Box Filter Global) FilterItem))

abbrev pub parted : Filter-F Filter → Parted
parted (And fs) = First fs
parted (Or fs) = Second (First fs)
parted (Not f) = Second (Second (First f))
parted (Item i) = Second (Second (Second i))

abbrev pub parted_of : Filter → Parted
parted_of v = parted (out-Filter v)

-- the largest of some depths
abbrev pub largest : List ℕ → ℕ
largest [] = 0
largest (n ∷ ns) = max n (largest ns)

abbrev pub one_deeper : Filter-F ℕ → ℕ
one_deeper (And ns) = suc (largest ns.items)
one_deeper (Or ns) = suc (largest ns.items)
one_deeper (Not n) = suc n.value
one_deeper (Item i) = 0

abbrev pub depth_of : Filter → ℕ
depth_of = fold-Filter ℕ one_deeper

-- SET SIZE (1..MAX) OF x, with this tag
abbrev pub list_means : {A : Type 0} → Tag → Meaning A → Meaning (Vec A Global)
list_means {A = A} own x = record {
  tags_known = true;
  tags = own ∷ [];
  retagged = true;
  under = λ u. Within (λ v. nat_lt 0 (length v.items)) (λ m n v b. InSomeOrder (IsSetOf (x.under None) (tag_or u own)) m n v.items b);
  any_under = λ u. Any {A = Vec A Global}
      (Within (λ v. nat_lt 0 (length v.items)) (λ m n v b. InSomeOrder (IsSetOf (x.under None) (tag_or u own)) m n v.items b));
  may_allocate = true;
  same = λ v w. SameSetOf x.same v.items w.items;
  encoding_under = λ u m v. sorted_set_of_encoding (x.encoding_under None) (tag_or u own) m v.items;
  depth = λ m v. set_of_depth x.depth m v.items;
  can = λ v. AllByRecursion x.can v.items × (nat_lt 0 (length v.items) ≡ true);
  fits = λ m n v. enclosed_fits (elements_fit x.fits) m n v.items × (nat_lt 0 (length v.items) ≡ true);
}

-- [k] IMPLICIT SET SIZE (1..MAX) OF x
abbrev pub group_means : {A : Type 0} → ℕ → Meaning A → Meaning (Vec A Global)
group_means k x = list_means (context k) x

-- x in a box
abbrev pub boxed_means : {A : Type 0} → Meaning A → Meaning (Box A Global)
boxed_means x = represented_by (λ (v : Box _ Global). v.value) x

-- [2] EXPLICIT x, in a box
abbrev pub negated_means : {A : Type 0} → Meaning A → Meaning (Box A Global)
negated_means x = let y = boxed_means x in record {
  tags_known = true;
  tags = context 2 ∷ [];
  retagged = true;
  under = λ u. Enclosed (y.under None) (tag_or u (context 2));
  any_under = λ u. AnyEnclosed (y.any_under None) (tag_or u (context 2));
  may_allocate = y.may_allocate;
  same = y.same;
  encoding_under = λ u. enclosed_encoding (y.encoding_under None) (tag_or u (context 2));
  depth = enclosed_depth y.depth;
  can = y.can;
  fits = enclosed_fits y.fits;
}

-- CHOICE of x and y
abbrev pub either_means : {A V : Type 0} → Meaning A → Meaning V → Meaning (Either A V)
either_means x y = record {
  tags_known = true;
  tags = x.tags ++ y.tags;
  retagged = false;
  under = λ u m n v b. EitherOf (x.under None) (y.under None) m n (sides v) b;
  any_under = λ u. AnyEither (x.any_under None) (y.any_under None);
  may_allocate = x.may_allocate || y.may_allocate;
  same = λ v w. SameEither x.same y.same (sides v) (sides w);
  encoding_under = λ u m v. either_encoding (x.encoding_under u) (y.encoding_under u) m (sides v);
  depth = λ m v. either_depth x.depth y.depth m (sides v);
  can = λ v. either_can x.can y.can (sides v);
  fits = λ m n v. either_fits x.fits y.fits m n (sides v);
}

-- the parts of a filter: filters that mean x, or an item
abbrev pub parted_means : Meaning FilterItem → Meaning Filter → Meaning Parted
parted_means item x = either_means (group_means 0 x) (either_means (group_means 1 x) (either_means (negated_means x) item))

abbrev pub filter_step : Meaning FilterItem → Meaning Filter → Meaning Filter
filter_step item x = represented_by parted_of (parted_means item x)

-- a depth that the filters within a group are less than
abbrev pub group_top : {A : Type 0} → (A → ℕ) → Vec A Global → ℕ
group_top depth v = suc (largest (map depth v.items))

abbrev pub either_top : {A V : Type 0} → (A → ℕ) → (V → ℕ) → Either A V → ℕ
either_top p q (First v) = p v
either_top p q (Second w) = q w

abbrev pub parted_top : Parted → ℕ
parted_top = either_top (group_top depth_of) (either_top (group_top depth_of) (either_top (λ v. suc (depth_of v.value)) (λ i. 0)))

-- the meaning of a filter
abbrev pub filter_means : Meaning FilterItem → Meaning Filter
filter_means item = means_within (filter_step item) depth_of

abbrev pub item_means : Meaning FilterItem
item_means = (means-value).it

abbrev pub the_filter : Meaning Filter
the_filter = filter_means item_means

abbrev pub after_or : Meaning (Either (Box Filter Global) FilterItem)
after_or = either_means (negated_means the_filter) item_means

abbrev pub after_and : Meaning (Either (Vec Filter Global) (Either (Box Filter Global) FilterItem))
after_and = either_means (group_means 1 the_filter) after_or

abbrev pub whole : Meaning Parted
whole = either_means (group_means 0 the_filter) after_and

-- the result of reading the type of the CHOICE that has the tag found
abbrev pub Found : {A : Type 0} → Meaning A → Tag → Reading → Result A ASN1Error → Reading → Type 0
Found x t s r s' = ReadsFound x.tags x.may_allocate (x.under None) (x.any_under None) t s r s'
