use Rattle.ldap.proofs.ldap_message.LdapMessageNotation.encoded_len.Goals as goal

pub fields_len-requires-clause-can : goal.fields_len-requires-clause-can
fields_len-requires-clause-can c = c.requires

pub returns : goal.returns
returns c = c.fields_len.ensures
