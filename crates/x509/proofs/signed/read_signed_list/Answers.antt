use Rattle.std.proofs.Common.{rules, None, true, sym, ap, subst}
use Rattle.yasna.specs.Words.{PartOf, NoParts, AnyPart, AnyNothing}
use Rattle.yasna_notation.specs.FirstBytes.{BeginsByPart}
use Rattle.yasna_notation.proofs.FirstBytes.{first_reads, first_fails, first_begins}
use Rattle.yasna_notation.specs.contracts.strings.BitStringNotation.TheImpl.{ghosts as bits}
use Rattle.x509.specs.contracts.algorithm.AlgorithmIdentifierNotation.TheImpl.{ghosts as algorithm}
use Rattle.x509.specs.contracts.tbs_cert_list.TbsCertListNotation.TheImpl.{ghosts as tbs}
use Rattle.x509.proofs.signed.read_signed_list.Goals as goal

pub returns-in-Ok-clause-reads : goal.returns-in-Ok-clause-reads
returns-in-Ok-clause-reads c =
    first_reads _ _ true (tbs.means.under None) (PartOf (algorithm.means.under None) (PartOf (bits.means.under None) NoParts))
    (AnyPart (tbs.means.any_under None) (AnyPart (algorithm.means.any_under None) (AnyPart (bits.means.any_under None) AnyNothing)))
    c.args.reader.now c.read_sequence.result c.read_sequence.new.self c.read_sequence.ensures (λ p q x fresh h. search rules)
    (λ v. (v.value.tbs_cert_list, (v.value.signature_algorithm, (v.value.signature_value, tt)))) c.in-Ok.list
    (record { value = c.from_value.result; signed_bytes = c.in-Ok.list.first_bytes }) c.from_value.ensures c.in-Ok.is

pub returns-in-Ok-clause-bytes : goal.returns-in-Ok-clause-bytes
returns-in-Ok-clause-bytes c =
    let s = c.args.reader.now in
    let left = c.read_sequence.new.self in
    let x = c.in-Ok.list in
    subst (λ z. BeginsByPart (tbs.means.under None) s z x.first_bytes.now left) (sym (ap (λ z. z.0) c.from_value.ensures))
    (first_begins true (tbs.means.under None) (PartOf (algorithm.means.under None) (PartOf (bits.means.under None) NoParts))
    (AnyPart (tbs.means.any_under None) (AnyPart (algorithm.means.any_under None) (AnyPart (bits.means.any_under None) AnyNothing)))
    s x left _ _ c.read_sequence.result c.read_sequence.ensures (λ p q x fresh h. search rules) c.in-Ok.is)

pub returns-in-Err-clause-reads : goal.returns-in-Err-clause-reads
returns-in-Err-clause-reads c =
    first_fails _ _ true (tbs.means.under None) (PartOf (algorithm.means.under None) (PartOf (bits.means.under None) NoParts))
    (AnyPart (tbs.means.any_under None) (AnyPart (algorithm.means.any_under None) (AnyPart (bits.means.any_under None) AnyNothing)))
    c.args.reader.now c.read_sequence.result c.read_sequence.new.self c.read_sequence.ensures (λ p q x fresh h. search rules)
    (λ v. (v.value.tbs_cert_list, (v.value.signature_algorithm, (v.value.signature_value, tt)))) c.in-Err.error c.in-Err.is
