-- The laws of ENUMERATED under its own tag.
use Rattle.std.proofs.Common.{◌≡◌, arith}
use Rattle.std.specs.Int.{w64}
use Rattle.std.specs.Prelude.{FitsSigned}
use Rattle.yasna_base.specs.Canonical.{leaf_depth, IsWritten}
use Rattle.yasna_base.specs.Coding.{IsCoding, Any}
use Rattle.yasna_base.specs.Enumerated.{EncodesEnumerated, enumerated_tag}
use Rattle.yasna_base.specs.Integer.{integer_encoding}
use Rattle.yasna_base.proofs.Identifier.{not_end}
use Rattle.yasna_base.proofs.Integer.{number_written, signed_under}

pub enumerated_coding : IsCoding (λ v w. v ≡ w) EncodesEnumerated (Any EncodesEnumerated)
enumerated_coding = signed_under w64 enumerated_tag (not_end 10 (λ e. omega arith))

pub enumerated_written : IsWritten (λ v w. v ≡ w) EncodesEnumerated (λ m v. integer_encoding enumerated_tag m v) leaf_depth (FitsSigned w64)
enumerated_written = number_written (λ z. z) (FitsSigned w64) enumerated_tag (omega arith)
