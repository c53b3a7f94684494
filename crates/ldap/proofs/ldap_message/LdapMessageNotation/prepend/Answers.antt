use Rattle.ldap.proofs.ldap_message.LdapMessageNotation.prepend.Goals as goal

pub prepend_fields-requires-clause-can : goal.prepend_fields-requires-clause-can
prepend_fields-requires-clause-can c = c.requires

pub returns : goal.returns
returns c = c.prepend_fields.ensures
