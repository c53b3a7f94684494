use Rattle.x509.proofs.certificate.CertificateNotation.encoded_len.Goals as goal

pub fields_len-requires-clause-can : goal.fields_len-requires-clause-can
fields_len-requires-clause-can c = c.requires
