use Rattle.ldap.proofs.ldap_message.LdapMessageNotation.write.Goals as goal

pub write_fields-requires-clause-can : goal.write_fields-requires-clause-can
write_fields-requires-clause-can c = c.requires

pub returns : goal.returns
returns c = c.write_fields.ensures
