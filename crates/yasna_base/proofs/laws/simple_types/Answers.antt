use Rattle.yasna_base.proofs.Boolean.{boolean_coding, boolean_written}
use Rattle.yasna_base.proofs.Null.{null_coding, null_written}
use Rattle.yasna_base.proofs.Integer.{signed_under, unsigned_under, number_written}
use Rattle.yasna_base.proofs.BigInteger.{big_integer_coding, big_integer_written}
use Rattle.yasna_base.proofs.Oid.{oid_under, oid_written_under}
use Rattle.std.specs.Prelude.{pos, FitsSigned, ◌<◌, ◌^◌}
use Rattle.std.specs.Int.{w64}
use Rattle.yasna_base.proofs.laws.simple_types.Goals as goal

pub returns-clause-boolean : goal.returns-clause-boolean
returns-clause-boolean c = λ t not_end range. (boolean_coding t not_end, boolean_written t range)

pub returns-clause-null : goal.returns-clause-null
returns-clause-null c = λ t not_end range. (null_coding t not_end, null_written t range)

pub returns-clause-signed : goal.returns-clause-signed
returns-clause-signed c = λ w t not_end range. (signed_under w t not_end, number_written (λ z. z) (FitsSigned w) t range)

pub returns-clause-unsigned : goal.returns-clause-unsigned
returns-clause-unsigned c = λ k t not_end range. (unsigned_under k t not_end, number_written pos (λ u. u < 2 ^ k) t range)

pub returns-clause-enumerated : goal.returns-clause-enumerated
returns-clause-enumerated c = λ t not_end range. (signed_under w64 t not_end, number_written (λ z. z) (FitsSigned w64) t range)

pub returns-clause-big_integer : goal.returns-clause-big_integer
returns-clause-big_integer c = λ t not_end range. (big_integer_coding t not_end, big_integer_written t range)

pub returns-clause-object_identifier : goal.returns-clause-object_identifier
returns-clause-object_identifier c = λ t not_end range. (oid_under t not_end, oid_written_under t range)
