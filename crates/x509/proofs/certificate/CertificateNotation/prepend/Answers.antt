use Rattle.x509.proofs.certificate.CertificateNotation.prepend.Goals as goal

pub prepend_fields-requires-clause-can : goal.prepend_fields-requires-clause-can
prepend_fields-requires-clause-can c = c.requires
