-- The laws of BOOLEAN.
use Rattle.std.proofs.Common.{◌≡◌, ℕ, ◌^◌, ◌<◌, List, [], ◌∷◌, refl, ap, ◌∙◌, sym, arith, subst, Bool}
use Rattle.yasna_base.specs.declared.mode.BERMode.{BERMode}
use Rattle.yasna_base.specs.declared.mode.BERMode.TheVariants.{Ber, Der, Cer}
use Rattle.yasna_base.specs.declared.tag.Tag.{Tag}
use Rattle.yasna_base.specs.Boolean.{EncodesTrue, IsBoolean, EncodesBoolean, boolean_byte, boolean_encoding, boolean_tag}
use Rattle.yasna_base.specs.Canonical.{IsCanonicalMode, leaf_depth, Always, IsWritten}
use Rattle.yasna_base.specs.Coding.{IsCoding, Any}
use Rattle.yasna_base.specs.Digits.{IsBytes}
use Rattle.yasna_base.specs.Element.{Primitively}
use Rattle.yasna_base.specs.Identifier.{end_tag}
use Rattle.yasna_base.proofs.Canonical.{primitively_written}
use Rattle.yasna_base.proofs.Coding.{primitively}
use Rattle.yasna_base.proofs.Identifier.{not_end}

zero_false : (m : BERMode) → EncodesTrue m 0 → ⊥
zero_false Ber h = h refl
zero_false Der h = cc
zero_false Cer h = cc

one_boolean : (m : BERMode) (v w : Bool) (c : List ℕ) → IsBoolean m v c → IsBoolean m w c → v ≡ w
one_boolean m v w c (IsBoolean.encodes_false e f) (IsBoolean.encodes_false g h) = e ∙ sym g
one_boolean m v w c (IsBoolean.encodes_false e f) (IsBoolean.encodes_true x a b g h) = absurd (zero_false m (subst (λ y. EncodesTrue m y) (cc) a))
one_boolean m v w c (IsBoolean.encodes_true x a b e f) (IsBoolean.encodes_false g h) = absurd (zero_false m (subst (λ y. EncodesTrue m y) (cc) a))
one_boolean m v w c (IsBoolean.encodes_true x a b e f) (IsBoolean.encodes_true y d k g h) = e ∙ sym g

-- BOOLEAN satisfies the laws of reading
pub boolean_coding : (t : Tag) → (t ≡ end_tag → ⊥) →
    IsCoding (λ v w. v ≡ w) (Primitively IsBoolean t) (Any (Primitively IsBoolean t))
boolean_coding t not_end = primitively IsBoolean t not_end one_boolean

true_255 : (m : BERMode) → EncodesTrue m 255
true_255 Ber = λ e. cc
true_255 Der = refl
true_255 Cer = refl

only_255 : (m : BERMode) (x : ℕ) → IsCanonicalMode m → EncodesTrue m x → x ≡ 255
only_255 Ber x h k = absurd h
only_255 Der x h k = k
only_255 Cer x h k = k

boolean_means : (m : BERMode) (v : Bool) → Always v → IsBoolean m v (boolean_byte v ∷ [])
boolean_means m Bool.false h = IsBoolean.encodes_false refl refl
boolean_means m Bool.true h = IsBoolean.encodes_true 255 (true_255 m) (omega arith, tt) refl refl

boolean_one : (m : BERMode) (v : Bool) (c : List ℕ) → IsCanonicalMode m → IsBoolean m v c → c ≡ boolean_byte v ∷ []
boolean_one m v c h (IsBoolean.encodes_false e f) = f ∙ ap (λ u. boolean_byte u ∷ []) (sym e)
boolean_one m v c h (IsBoolean.encodes_true x k b e f) = f ∙ ap (λ y. y ∷ []) (only_255 m x h k) ∙ ap (λ u. boolean_byte u ∷ []) (sym e)

boolean_bytes : (v : Bool) → Always v → IsBytes (boolean_byte v ∷ [])
boolean_bytes Bool.false h = (omega arith, tt)
boolean_bytes Bool.true h = (omega arith, tt)

-- BOOLEAN satisfies the laws of writing
pub boolean_written : (t : Tag) → t.tag_number < 2 ^ 64 →
    IsWritten (λ v w. v ≡ w) (Primitively IsBoolean t) (boolean_encoding t) leaf_depth Always
boolean_written t range =
    primitively_written IsBoolean Always (λ v. boolean_byte v ∷ []) t range boolean_bytes boolean_means boolean_one (λ m v c x. tt)

-- under its own tag
pub bool_coding : IsCoding (λ v w. v ≡ w) EncodesBoolean (Any EncodesBoolean)
bool_coding = boolean_coding boolean_tag (not_end 1 (λ e. omega arith))

pub bool_written : IsWritten (λ v w. v ≡ w) EncodesBoolean (boolean_encoding boolean_tag) leaf_depth Always
bool_written = boolean_written boolean_tag (omega arith)
