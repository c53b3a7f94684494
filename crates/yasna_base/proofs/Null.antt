-- The laws of NULL.
use Rattle.std.proofs.Common.{◌≡◌, ◌^◌, ◌<◌, [], refl, arith}
use Rattle.yasna_base.specs.declared.tag.Tag.{Tag}
use Rattle.yasna_base.specs.Canonical.{leaf_depth, Always, IsWritten}
use Rattle.yasna_base.specs.Coding.{IsCoding, Any}
use Rattle.yasna_base.specs.Element.{Primitively}
use Rattle.yasna_base.specs.Identifier.{end_tag}
use Rattle.yasna_base.specs.Null.{IsNull, EncodesNull, null_encoding, null_tag}
use Rattle.yasna_base.proofs.Canonical.{primitively_written}
use Rattle.yasna_base.proofs.Coding.{primitively}
use Rattle.yasna_base.proofs.Identifier.{not_end}

-- NULL satisfies the laws of reading
pub null_coding : (t : Tag) → (t ≡ end_tag → ⊥) →
    IsCoding (λ v w. v ≡ w) (Primitively IsNull t) (Any (Primitively IsNull t))
null_coding t not_end = primitively IsNull t not_end (λ m v w c x y. refl)

-- NULL satisfies the laws of writing
pub null_written : (t : Tag) → t.tag_number < 2 ^ 64 → IsWritten (λ v w. v ≡ w) (Primitively IsNull t) (null_encoding t) leaf_depth Always
null_written t range = primitively_written IsNull Always (λ v. []) t range (λ v can. tt) (λ m v can. refl) (λ m v c h x. x) (λ m v c x. tt)

-- under its own tag
pub unit_coding : IsCoding (λ v w. v ≡ w) EncodesNull (Any EncodesNull)
unit_coding = null_coding null_tag (not_end 5 (λ e. omega arith))

pub unit_written : IsWritten (λ v w. v ≡ w) EncodesNull (null_encoding null_tag) leaf_depth Always
unit_written = null_written null_tag (omega arith)
