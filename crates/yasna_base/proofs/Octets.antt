-- The laws of OCTET STRING.
use Rattle.std.proofs.Common.{◌≡◌, ◌∙◌, sym, arith, [], ◌∷◌, ◌<◌, ◌^◌, refl, ap, subst, ℕ, List, length, ◌≤◌}
use Rattle.yasna_base.specs.declared.tag.Tag.{Tag}
use Rattle.yasna_base.specs.Coding.{IsCoding, Any}
use Rattle.yasna_base.specs.Identifier.{end_tag}
use Rattle.yasna_base.specs.Octets.{octets_segmentation, IsOctets, octets_encoding, octets_depth, OctetsKeepLaws, octets_tag, EncodesOctets, EncodesVec}
use Rattle.yasna_base.proofs.Segmented.{SegmentsOnce, segmented_coding, segmented_keeps, segmented_level}
use Rattle.yasna_base.proofs.SegmentedEncoding.{HasSegments, segmented_has}
use Rattle.yasna_base.proofs.Segments.{segments_are, segments_two, segments_bytes, segments_only, segments_over}
use Rattle.yasna_base.specs.Segments.{AreSegments, segments}
use Rattle.std.proofs.lemmas.List.{map-id}
use Rattle.yasna_base.proofs.Identifier.{not_end}
use Rattle.std.specs.List.{AllByRecursion, concat}
use Rattle.yasna_base.specs.declared.mode.BERMode.TheVariants.{Ber}
use Rattle.yasna_base.specs.declared.mode.BERMode.{BERMode}
use Rattle.yasna_base.specs.Canonical.{IsWritten}
use Rattle.yasna_base.specs.Digits.{IsBytes}
use Rattle.yasna_base.proofs.Digits.{bytes_append}
use Rattle.std.specs.Prelude.{Vec}
use Rattle.std.specs.Global.{Global}
use Rattle.yasna_base.proofs.Coding.{along}
use Rattle.yasna_base.proofs.Canonical.{written_along}

-- octets are cut in one way
pub octets_once : SegmentsOnce octets_segmentation
octets_once = record { whole = λ m v w c x y. x ∙ sym y; join = λ m vs v w x y. x ∙ sym y; segment = not_end 4 (λ e. omega arith) }

-- OCTET STRING satisfies the laws of reading
pub octets_coding : (t : Tag) → (t ≡ end_tag → ⊥) → IsCoding (λ v w. v ≡ w) (IsOctets t) (Any (IsOctets t))
octets_coding t not_end = segmented_coding octets_once t not_end

concat_bytes : (vs : List (List ℕ)) → AllByRecursion IsBytes vs → IsBytes (concat vs)
concat_bytes [] h = tt
concat_bytes (v ∷ vs) h = bytes_append v (concat vs) h.0 (concat_bytes vs h.1)

-- octets are bytes
pub octets_bytes : (n : ℕ) (m : BERMode) (t : Tag) (v b : List ℕ) → IsOctets t m n v b → IsBytes v
octets_bytes = segmented_keeps octets_segmentation IsBytes (λ m v c h e. subst IsBytes (sym e) h) (λ m vs v h e. subst IsBytes (sym e) (concat_bytes vs h))

-- octets are cut in one way by CER, into segments of 1000
pub octets_in_segments : HasSegments octets_segmentation IsBytes (λ v. v) (segments 1000)
octets_in_segments = record {
  bytes = λ v can. can;
  means = λ m v can. refl;
  one = λ m v c h bytes e. (sym e, subst IsBytes (sym e) bytes);
  cut = λ v can long.
      let x = segments_are 1000 v (omega arith) (omega (arith, long)) in (
        (
          subst (AreSegments 1000) (sym (map-id (segments 1000 v))) x.each,
          subst (λ bs. 2 ≤ length bs) (sym (map-id (segments 1000 v))) (segments_two 1000 v (omega arith) long),
        ),
        segments_bytes (segments 1000 v) (subst IsBytes (sym x.joined) can),
      );
  join = λ m v can long. sym (segments_are 1000 v (omega arith) (omega (arith, long))).joined;
  cut_once = λ vs v can e cut.
      let each : AreSegments 1000 vs = subst (AreSegments 1000) (map-id vs) cut.0 in
      let two : 2 ≤ length vs = subst (λ bs. 2 ≤ length bs) (map-id vs) cut.1 in (
        segments_only 1000 vs v (omega arith) each (sym e),
        subst IsBytes (sym e) (concat_bytes vs can),
        subst (λ z. 1000 < length z) (sym e) (segments_over 1000 vs each two),
      );
}

-- OCTET STRING satisfies the laws of writing
pub octets_written : (t : Tag) → t.tag_number < 2 ^ 64 →
    IsWritten (λ v w. v ≡ w) (IsOctets t) (octets_encoding t) octets_depth IsBytes
octets_written t range = record {
  has = segmented_has octets_in_segments (omega arith) t range;
  any = λ n v b x. (octets_bytes n Ber t v b x, segmented_level octets_segmentation n Ber t v b x);
  same = λ m v w e. (ap (octets_encoding t m) e, λ can. subst IsBytes e can, ap (octets_depth m) e);
}

pub octets_keep : OctetsKeepLaws
octets_keep t not_end range = (octets_coding t not_end, octets_written t range)

-- under its own tag, of vectors that are equal where their items are
pub vec_coding : IsCoding (λ (v w : Vec ℕ Global). v.items ≡ w.items) EncodesVec (Any EncodesOctets)
vec_coding = along (λ v. v.items) (octets_coding octets_tag octets_once.segment)

pub vec_written : IsWritten (λ (v w : Vec ℕ Global). v.items ≡ w.items) EncodesVec (λ m v. octets_encoding octets_tag m v.items)
    (λ m v. octets_depth m v.items) (λ v. IsBytes v.items)
vec_written = written_along (λ v. v.items) (octets_written octets_tag (omega arith))
