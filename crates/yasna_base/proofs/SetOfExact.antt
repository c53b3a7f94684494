-- SET OF, of whose elements only a canonical mode has one encoding.
use Rattle.std.proofs.Common.{◌≡◌, ℕ, zero, suc, ◌^◌, ◌<◌, List, length, map, ap, ◌∙◌, sym, subst}
use Rattle.std.specs.List.{AllByRecursion, concat}
use Rattle.std.proofs.lemmas.Cmp.{nat_list_cmp_total}
use Rattle.std.proofs.lemmas.List.Sorted.{ranks_by}
use Rattle.yasna_base.specs.declared.mode.BERMode.{BERMode}
use Rattle.yasna_base.specs.declared.mode.BERMode.TheVariants.{Ber, Der, Cer}
use Rattle.yasna_base.specs.declared.tag.PCBit.TheVariants.{Constructed}
use Rattle.yasna_base.specs.declared.tag.Tag.{Tag}
use Rattle.yasna_base.specs.Canonical.{IsCanonicalMode, HoldsEncoding, canonical_element}
use Rattle.yasna_base.specs.Exact.{Fitting, IsExact, enclosed_fits}
use Rattle.yasna_base.specs.Grammar.{Grammar, Encoding}
use Rattle.yasna_base.specs.Order.{octets_cmp, in_order}
use Rattle.yasna_base.specs.Pieces.{Each}
use Rattle.yasna_base.specs.SequenceOf.{elements_encoding}
use Rattle.yasna_base.specs.Set.{AreInSetOfOrder, SetOfElements, IsSetOf}
use Rattle.yasna_base.specs.SetWriting.{encodings, in_encoding_order, set_of_encoding}
use Rattle.yasna_base.specs.UnderTags.{set_of_fits}
use Rattle.yasna_base.proofs.Exact.{enclosed_exact, each_holds, each_exact, each_alike, elements_exact}
use Rattle.yasna_base.proofs.Order.{all_order, in_order_map}
use Rattle.yasna_base.proofs.SequenceOf.{encodings_joined}
use Rattle.yasna_base.proofs.SetOfWriting.{order_holds, octets_in_order, octets_ordered}

-- the encodings that hold are those of canonical modes
holds_canonical : (m o : BERMode) → HoldsEncoding m o → IsCanonicalMode m
holds_canonical Ber o h = h
holds_canonical Der o h = tt
holds_canonical Cer o h = tt

module _ {A : Type 0} {E : A → A → Type 0} {B : Grammar A} {encoding : Encoding A} {Fits : Fitting A} {Can : A → Type 0}
    (x : IsExact E B encoding Fits Can) where
  -- values in the order of their encodings have one encoding as the elements of a SET OF
  pub set_of_elements_exact : IsExact (λ vs ws. Each E vs ws) (SetOfElements B) (elements_encoding encoding) (set_of_fits encoding Fits)
      (λ vs. AllByRecursion Can vs)
  set_of_elements_exact =
      let all = elements_exact x in
      record {
        in_bytes = λ m n vs fits short. all.in_bytes m n vs fits.0 short;
        holds = λ m o n vs h fits short. record {
          elements = record { pieces = map (encoding m) vs; each = each_holds x m o n vs h fits.0 short; joined = encodings_joined (encoding m) vs };
          order = order_holds m o (map (encoding m) vs) h fits.1;
        };
        only = λ m n vs c h p.
            let y = each_exact x m n vs p.elements.pieces h p.elements.each in
            (p.elements.joined ∙ ap concat y.0 ∙ sym (encodings_joined (encoding m) vs), (y.1, subst (AreInSetOfOrder m) y.0 p.order));
        can = λ m n vs fits. all.can m n vs fits.0;
        same = λ m vs ws e.
            let y = each_alike x m vs ws e in
            ((all.same m vs ws e).0, y.1, λ n fits. (y.2 n fits.0, subst (AreInSetOfOrder m) y.0 fits.1));
      }

  module _ (t : Tag) (range : t.tag_number < 2 ^ 64) where
    -- a SET OF values as they are satisfies the laws
    pub set_of_exact : IsExact (λ vs ws. Each E vs ws) (IsSetOf B t) (set_of_encoding encoding t) (enclosed_fits (set_of_fits encoding Fits))
        (λ vs. AllByRecursion Can vs)
    set_of_exact = enclosed_exact t range set_of_elements_exact

    -- values that are in the order that a canonical mode asks are written so, however a writer puts them in order
    in_place : (m : BERMode) (vs : List A) → IsCanonicalMode m → AreInSetOfOrder m (encodings encoding m vs) →
        set_of_encoding encoding t m (in_encoding_order encoding m vs) ≡ set_of_encoding encoding t m vs
    in_place m vs h up =
        ap (canonical_element m t Constructed) (encodings_joined (encoding m) (in_encoding_order encoding m vs) ∙
        ap concat (in_order_map (encoding m) octets_cmp vs ∙ octets_ordered m (encodings encoding m vs) h up) ∙ sym (encodings_joined (encoding m) vs))

    ordered_fits : (m : BERMode) (n : ℕ) (vs : List A) → enclosed_fits (set_of_fits encoding Fits) m n vs →
        enclosed_fits (set_of_fits encoding Fits) m n (in_encoding_order encoding m vs)
    ordered_fits m zero vs fits = absurd fits
    ordered_fits m (suc n) vs fits = (
      all_order (λ v w. octets_cmp (encoding m v) (encoding m w)) (ranks_by nat_list_cmp_total (encoding m)) (Fits m n) vs fits.0,
      subst (AreInSetOfOrder m) (sym (in_order_map (encoding m) octets_cmp vs)) (octets_in_order m (encodings encoding m vs)),
    )

    fits_in_place : (m : BERMode) (n : ℕ) (vs : List A) → IsCanonicalMode m → enclosed_fits (set_of_fits encoding Fits) m n vs →
        set_of_encoding encoding t m (in_encoding_order encoding m vs) ≡ set_of_encoding encoding t m vs
    fits_in_place m zero vs h fits = absurd fits
    fits_in_place m (suc n) vs h fits = in_place m vs h fits.1

    ordered_same : (m : BERMode) (vs ws : List A) → Each E vs ws →
        set_of_encoding encoding t m (in_encoding_order encoding m vs) ≡ set_of_encoding encoding t m (in_encoding_order encoding m ws)
    ordered_same m vs ws e =
        ap (canonical_element m t Constructed) (encodings_joined (encoding m) (in_encoding_order encoding m vs) ∙
        ap concat (in_order_map (encoding m) octets_cmp vs ∙ ap (in_order octets_cmp) (each_alike x m vs ws e).0 ∙
        sym (in_order_map (encoding m) octets_cmp ws)) ∙
        sym (encodings_joined (encoding m) (in_encoding_order encoding m ws)))

    -- a SET OF whose encoding is that of its values in order satisfies the laws of a canonical mode
    pub ordered_set_of_exact : IsExact (λ vs ws. Each E vs ws) (IsSetOf B t) (λ m vs. set_of_encoding encoding t m (in_encoding_order encoding m vs))
        (enclosed_fits (set_of_fits encoding Fits)) (λ vs. AllByRecursion Can vs)
    ordered_set_of_exact = record {
      in_bytes = λ m n vs fits short. set_of_exact.in_bytes m n (in_encoding_order encoding m vs) (ordered_fits m n vs fits) short;
      holds = λ m o n vs h fits short.
          let e = fits_in_place m n vs (holds_canonical m o h) fits in
          subst (IsSetOf B t o n vs) (sym e) (set_of_exact.holds m o n vs h fits (subst (λ b. length b < 2 ^ 64) e short));
      only = λ m n vs b h p.
          let y = set_of_exact.only m n vs b h p in
          (y.0 ∙ sym (fits_in_place m n vs h y.1), y.1);
      can = set_of_exact.can;
      same = λ m vs ws e. let y = set_of_exact.same m vs ws e in (ordered_same m vs ws e, y.1, y.2);
    }
