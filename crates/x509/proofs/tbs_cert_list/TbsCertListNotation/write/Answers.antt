use Rattle.x509.proofs.tbs_cert_list.TbsCertListNotation.write.Goals as goal

pub write_fields-requires-clause-can : goal.write_fields-requires-clause-can
write_fields-requires-clause-can c = c.requires

pub returns : goal.returns
returns c = c.write_fields.ensures
