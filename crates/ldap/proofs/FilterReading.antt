-- What reads of what is within a filter do.
use Rattle.std.proofs.Common.{◌≡◌, ◌∷◌, ◌++◌, [], ◌==◌, ◌<◌, ◌^◌, ℕ, Bool, true, false, Option, List, None, Some, Vec, Box, Result, Ok, Err}
use Rattle.std.proofs.Common.{inl, inr, length, vec_len, length-append, refl, sym, ap, subst, ◌∙◌, arith}
use Rattle.std.specs.Global.{Global}
use Rattle.std.specs.List.{AllByRecursion, list_any}
use Rattle.std.specs.Prelude.{nat_lt, MatchResult, IsOkAnd}
use Rattle.yasna_base.specs.declared.error.ASN1Error.{ASN1Error}
use Rattle.yasna_base.specs.declared.error.ASN1ErrorKind.TheVariants.{OutOfMemory}
use Rattle.yasna_base.specs.declared.tag.Tag.{Tag}
use Rattle.yasna_base.specs.AnyOrder.{SameSetOf, InSomeOrder, sorted_set_of_encoding}
use Rattle.yasna_base.specs.Beginnings.{BeginsWithOne, is_tag}
use Rattle.yasna_base.specs.Coding.{IsCoding}
use Rattle.yasna_base.specs.Error.{kind_of}
use Rattle.yasna_base.specs.Exact.{Fitting, enclosed_fits, elements_fit}
use Rattle.yasna_base.specs.Grammar.{Grammar, Members, Encoding}
use Rattle.yasna_base.specs.Identifier.{context, tag_or}
use Rattle.yasna_base.specs.Set.{set_tag, IsSetOf, AnySetOf}
use Rattle.yasna_base.proofs.Identifier.{begins_with}
use Rattle.yasna_base.proofs.Optional.{unambiguous_before_nothing}
use Rattle.yasna_bytes.proofs.Rejection.{begins_not_elsewhere}
use Rattle.yasna_reader.specs.ByTags.{AreElsewhere}
use Rattle.yasna_reader.specs.Decodes.{Explains, StickyExplains}
use Rattle.yasna_reader.specs.State.{Reading, IsFresh}
use Rattle.yasna_reader.proofs.Tuples.{seen}
use Rattle.yasna_notation.specs.declared.choices.Either.{Either}
use Rattle.yasna_notation.specs.declared.choices.Either.TheVariants.{First, Second}
use Rattle.yasna_notation.specs.Bounded.{set_sizes_alike}
use Rattle.yasna_notation.specs.Laws.{represented_lawful}
use Rattle.yasna_notation.specs.Making.{in_set_of, in_implicit, in_explicit, alternative, set_not_empty}
use Rattle.yasna_notation.specs.Notation.{Meaning, NotationKeepsLaws, MeaningKeepsLaws, IsNotation, DecodesAs, ReadsMeaning}
use Rattle.yasna_notation.proofs.Represented.{represented_by, represented_by_none}
use Rattle.yasna_notation.proofs.Found.{first_found, other_found, last_found}
use Rattle.ldap.specs.contracts.filter_item.FilterItemNotation.TheImpl.Laws.{lawful-law as item_lawful}
use Rattle.ldap.specs.declared.filter.Filter.{Filter}
use Rattle.ldap.specs.declared.filter_item.FilterItem.{FilterItem}
use Rattle.ldap.specs.Filters.{Parted, parted_of, the_filter, item_means, group_means, negated_means, boxed_means, filter_step, Found}
use Rattle.ldap.specs.Filters.{after_or, after_and, whole}
use Rattle.ldap.specs.RecursionLaws.{folded_under, unfolded_any}
use Rattle.ldap.specs.TheFilter.{the_filter_lawful, the_step}

-- a SET OF filters, which may be empty
abbrev pub list_under : Option Tag → Grammar (Vec Filter Global)
list_under u m n v b = InSomeOrder (IsSetOf (the_filter.under None) (tag_or u set_tag)) m n v.items b

abbrev pub lists_any : Option Tag → Members
lists_any u = AnySetOf (the_filter.any_under None) (tag_or u set_tag)

abbrev pub list_encoding : Option Tag → Encoding (Vec Filter Global)
list_encoding u m v = sorted_set_of_encoding (the_filter.encoding_under None) (tag_or u set_tag) m v.items

abbrev pub list_fits : Fitting (Vec Filter Global)
list_fits m n v = enclosed_fits (elements_fit the_filter.fits) m n v.items

abbrev pub list_same : Vec Filter Global → Vec Filter Global → Type 0
list_same v w = SameSetOf the_filter.same v.items w.items

abbrev pub list_can : Vec Filter Global → Type 0
list_can v = AllByRecursion the_filter.can v.items

pub list_lawful : NotationKeepsLaws true (set_tag ∷ []) true list_same list_under lists_any list_encoding list_fits list_can
list_lawful = in_set_of the_filter_lawful.own

-- some are in it
abbrev pub holds_some : Vec Filter Global → Bool
holds_some v = nat_lt 0 (length v.items)

pub alike : (v w : Vec Filter Global) → list_same v w → holds_some v ≡ holds_some w
alike v w e = set_sizes_alike the_filter.same (nat_lt 0) v.items w.items e

-- what `map` makes of an answer is found too
pub found_mapped : {A B : Type 0} (f : A → B) (x : Meaning B) (t : Tag) (s s' : Reading) (r : Result A ASN1Error) (q : Result B ASN1Error) →
    MatchResult r (λ v. IsOkAnd q (λ w. w ≡ f v)) (λ e. q ≡ Err e) → Found x t s (seen f r) s' → Found x t s q s'
found_mapped f x t s s' (Ok v) (Ok w) e h = subst (λ z. Found x t s (Ok z) s') (sym e) h
found_mapped f x t s s' (Ok v) (Err w) e h = absurd e
found_mapped f x t s s' (Err v) q e h = subst (λ z. Found x t s z s') (sym e) h

some_of : (n : ℕ) → (n == 0) ≡ false → nat_lt 0 n ≡ true
some_of n e = grind arith

none_of : (n : ℕ) → (n == 0) ≡ true → nat_lt 0 n ≡ false
none_of n e = grind arith

counted : (v : Vec Filter Global) → vec_len v ≡ length v.items
counted v = omega (arith, v.ok.0)

pub some : (v : Vec Filter Global) → (vec_len v == 0) ≡ false → nat_lt 0 (length v.items) ≡ true
some v e = some_of (length v.items) (subst (λ n. (n == 0) ≡ false) (counted v) e)

pub none : (v : Vec Filter Global) → (vec_len v == 0) ≡ true → nat_lt 0 (length v.items) ≡ false
none v e = none_of (length v.items) (subst (λ n. (n == 0) ≡ true) (counted v) e)

-- what begins with one of some tags doesn't begin elsewhere
not_elsewhere : (ts : List Tag) (b r : List ℕ) → BeginsWithOne ts b → AreElsewhere ts (b ++ r) → ⊥
not_elsewhere [] b r x a = x
not_elsewhere (t ∷ ts) b r (inl x) a = begins_not_elsewhere (begins_with t b r x) a.0
not_elsewhere (t ∷ ts) b r (inr x) a = not_elsewhere ts b r x a.1

-- a filter was read, and there is no memory for its box
out_of_memory_for_box : (s : Reading) (v : Filter) (s' : Reading) (e : ASN1Error) → kind_of e ≡ OutOfMemory → IsFresh s →
    DecodesAs true the_filter.tags true (the_filter.under None) (the_filter.any_under None) s (Ok v) s' →
    DecodesAs {A = Box Filter Global} true the_filter.tags true ((boxed_means the_filter).under None) (the_filter.any_under None) s (Err e) s'
out_of_memory_for_box s v s' e kind fresh h =
    let k = h.decodes in
    let laws = the_filter_lawful.own in
    let here = laws.coding.meaning.among s.mode s.levels v k.prefix k.member in
    let unfailed : s'.failed ≡ None = ap (λ (z : Reading). z.failed) k.left ∙ fresh.0 in
    record {
      decodes = (
        record {
          explains = record { none = λ q b r i j. q kind; memory = λ q. refl };
          failed = subst (λ z. StickyExplains true (the_filter.any_under None s.mode s.levels) s.left z) (sym unfailed) tt;
          further = omega (arith, ap length k.joined, length-append k.prefix k.rest, ap (λ (z : Reading). length z.left) k.left);
          same = k.left ∙ sym (ap {A = Reading} {B = Reading} (λ z. record s { left = z.left; failed = z.failed }) k.left);
        },
        λ a. absurd (unambiguous_before_nothing laws.coding s.mode s.levels s.levels k.prefix [] k.rest s.left a here refl (sym k.joined)),
      );
      no_match = λ t a. absurd
          (not_elsewhere the_filter.tags k.prefix k.rest ((laws.begins refl).at s.mode s.levels k.prefix here)
          (subst (AreElsewhere the_filter.tags) k.joined a));
    }

pub no_memory_for_box : (s : Reading) (v : Filter) (s' : Reading) (e : ASN1Error) → kind_of e ≡ OutOfMemory → ReadsMeaning the_filter s (Ok v) s' →
    ReadsMeaning (boxed_means the_filter) s (Err e) s'
no_memory_for_box s v s' e kind h = record {
  fresh = λ fresh. out_of_memory_for_box s v s' e kind fresh (h.fresh fresh);
  replaced = λ may t not range failed waits. absurd (cc);
  repeats = λ d failed. absurd (let x = (h.repeats d failed).0 in cc);
}

abbrev Laws : {A : Type 0} → Meaning A → Type 0
Laws x = IsNotation true x.tags x.same (x.under None) (x.any_under None) (x.encoding_under None) x.fits x.can

group_laws : (k : ℕ) → k < 2 ^ 64 → Laws (group_means k the_filter)
group_laws k range = (in_implicit k range (set_not_empty list_lawful)).own

negated_laws : Laws (negated_means the_filter)
negated_laws = (in_explicit 2 (omega arith) (represented_lawful (λ (v : Box Filter Global). v.value) the_filter_lawful).own).own

item_laws : Laws item_means
item_laws = (item_lawful refl).own

after_or_laws : Laws after_or
after_or_laws = alternative negated_laws refl item_laws

after_and_laws : Laws after_and
after_and_laws = alternative (group_laws 1 (omega arith)) refl after_or_laws

module _ (t : Tag) (s : Reading) where
  pub found_and : (x : Result (Vec Filter Global) ASN1Error) (s' : Reading) → list_any (is_tag t) (context 0 ∷ []) ≡ true →
      ReadsMeaning (group_means 0 the_filter) s x s' → Found whole t s (seen First x) s'
  found_and x s' is h =
      let n = group_means 0 the_filter in
      let o = after_and in
      first_found n.tags_known n.tags o.tags n.may_allocate o.may_allocate n.under n.any_under (o.under None) (o.any_under None) true true refl t s
      n.retagged (λ _. after_and_laws) x s' is h

  pub found_other : (x : Result (Either (Vec Filter Global) (Either (Box Filter Global) FilterItem)) ASN1Error) (s' : Reading) →
      list_any (is_tag t) (context 0 ∷ []) ≡ false → Found after_and t s x s' → Found whole t s (seen Second x) s'
  found_other x s' is h =
      let n = group_means 0 the_filter in
      let o = after_and in
      other_found n.tags_known n.tags o.tags n.may_allocate o.may_allocate n.under n.any_under (o.under None) (o.any_under None) true true refl t s
      (λ _. group_laws 0 (omega arith)) x s' is h

  pub found_or : (x : Result (Vec Filter Global) ASN1Error) (s' : Reading) → list_any (is_tag t) (context 1 ∷ []) ≡ true →
      ReadsMeaning (group_means 1 the_filter) s x s' → Found after_and t s (seen First x) s'
  found_or x s' is h =
      let n = group_means 1 the_filter in
      let o = after_or in
      first_found n.tags_known n.tags o.tags n.may_allocate o.may_allocate n.under n.any_under (o.under None) (o.any_under None) true true refl t s
      n.retagged (λ _. after_or_laws) x s' is h

  pub found_none : (x : Result (Either (Box Filter Global) FilterItem) ASN1Error) (s' : Reading) →
      list_any (is_tag t) (context 1 ∷ []) ≡ false → Found after_or t s x s' → Found after_and t s (seen Second x) s'
  found_none x s' is h =
      let n = group_means 1 the_filter in
      let o = after_or in
      other_found n.tags_known n.tags o.tags n.may_allocate o.may_allocate n.under n.any_under (o.under None) (o.any_under None) true true refl t s
      (λ _. group_laws 1 (omega arith)) x s' is h

  pub found_not : (x : Result (Box Filter Global) ASN1Error) (s' : Reading) → list_any (is_tag t) (context 2 ∷ []) ≡ true →
      ReadsMeaning (negated_means the_filter) s x s' → Found after_or t s (seen First x) s'
  found_not x s' is h =
      let n = negated_means the_filter in
      let o = item_means in
      first_found n.tags_known n.tags o.tags n.may_allocate o.may_allocate n.under n.any_under (o.under None) (o.any_under None) true true refl t s
      n.retagged (λ _. item_laws) x s' is h

  pub found_item : (x : Result FilterItem ASN1Error) (s' : Reading) → list_any (is_tag t) (context 2 ∷ []) ≡ false →
      ReadsMeaning item_means s x s' → Found after_or t s (seen Second x) s'
  found_item x s' is h =
      let n = negated_means the_filter in
      let o = item_means in
      other_found n.tags_known n.tags o.tags n.may_allocate o.may_allocate n.under n.any_under (o.under None) (o.any_under None) true true refl t s
      (λ _. negated_laws) x s' is (last_found refl h)

-- a filter is what its parts make it
wider : (s : Reading) (r : Result Filter ASN1Error) (s' : Reading) →
    DecodesAs true the_filter.tags true ((filter_step item_means the_filter).under None) ((filter_step item_means the_filter).any_under None) s r s' →
    DecodesAs true the_filter.tags true (the_filter.under None) (the_filter.any_under None) s r s'
wider s (Ok v) s' h =
    let k = h.decodes in
    record {
      decodes = record {
        prefix = k.prefix;
        rest = k.rest;
        joined = k.joined;
        member = folded_under the_step None s.mode s.levels v k.prefix k.member;
        left = k.left;
      };
      no_match = λ _. tt;
    }
wider s (Err e) s' h =
    let k = h.decodes.0 in
    record {
      decodes = (
        record { explains = explains s.left e k.explains; failed = failed s.left s'.failed k.failed; further = k.further; same = k.same },
        h.decodes.1,
      );
      no_match = h.no_match;
    }
  where
    explains : (l : List ℕ) (e : ASN1Error) → Explains true ((filter_step item_means the_filter).any_under None s.mode s.levels) l e →
        Explains true (the_filter.any_under None s.mode s.levels) l e
    explains l e x = record {
      none = λ q b r i j. x.none q b r i (unfolded_any the_step None s.mode s.levels b j);
      memory = x.memory;
    }

    failed : (l : List ℕ) (k : Option ASN1Error) → StickyExplains true ((filter_step item_means the_filter).any_under None s.mode s.levels) l k →
        StickyExplains true (the_filter.any_under None s.mode s.levels) l k
    failed l None x = tt
    failed l (Some e) x = explains l e x

pub filter_read : (s : Reading) (r : Result Filter ASN1Error) (s' : Reading) → ReadsMeaning (filter_step item_means the_filter) s r s' →
    ReadsMeaning the_filter s r s'
filter_read s r s' h = record {
  fresh = λ fresh. wider s r s' (h.fresh fresh);
  replaced = λ may t not range failed waits. absurd (cc);
  repeats = h.repeats;
}

pub boxed_lawful : MeaningKeepsLaws (boxed_means the_filter)
boxed_lawful = represented_lawful (λ (v : Box Filter Global). v.value) the_filter_lawful

-- a filter that was read, in a box or when out of memory in none
pub boxed_read : (s : Reading) (v : Filter) (s' : Reading) (x : Result (Box Filter Global) ASN1Error) →
    MatchResult x (λ b. b.value ≡ v) (λ e. kind_of e ≡ OutOfMemory) → ReadsMeaning the_filter s (Ok v) s' → ReadsMeaning (boxed_means the_filter) s x s'
boxed_read s v s' (Ok b) is h =
    represented_by (λ (v : Box Filter Global). v.value) true the_filter.tags false true the_filter.under the_filter.any_under s b v s' is h
boxed_read s v s' (Err e) kind h = no_memory_for_box s v s' e kind h

pub boxed_not_read : (s : Reading) (e : ASN1Error) (s' : Reading) → ReadsMeaning the_filter s (Err e) s' →
    ReadsMeaning (boxed_means the_filter) s (Err e) s'
boxed_not_read s e s' h =
    represented_by_none (λ (v : Box Filter Global). v.value) true the_filter.tags false true the_filter.under the_filter.any_under s e s' h

-- a filter that is made of what was read
pub made_read : (s : Reading) (f : Filter) (v : Parted) (s' : Reading) → parted_of f ≡ v → ReadsMeaning whole s (Ok v) s' →
    ReadsMeaning the_filter s (Ok f) s'
made_read s f v s' is h =
    filter_read s (Ok f) s' (represented_by parted_of true whole.tags false true whole.under whole.any_under s f v s' is h)

pub made_not_read : (s : Reading) (e : ASN1Error) (s' : Reading) → ReadsMeaning whole s (Err e) s' → ReadsMeaning the_filter s (Err e) s'
made_not_read s e s' h =
    filter_read s (Err e) s' (represented_by_none parted_of true whole.tags false true whole.under whole.any_under s e s' h)

pub whole_coding : IsCoding whole.same (whole.under None) (whole.any_under None)
whole_coding = (alternative (group_laws 0 (omega arith)) refl after_and_laws).coding
