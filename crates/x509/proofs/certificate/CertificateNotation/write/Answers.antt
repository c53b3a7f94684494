use Rattle.x509.proofs.certificate.CertificateNotation.write.Goals as goal

pub write_fields-requires-clause-can : goal.write_fields-requires-clause-can
write_fields-requires-clause-can c = c.requires
