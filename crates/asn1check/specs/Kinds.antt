-- What names a type of messages, and the encoding rules that it is sent in.
use Rattle.std.specs.Prelude.{◌≡◌, ◌⊎◌, ℕ, List, codes}
use Rattle.yasna.specs.base.declared.mode.BERMode.{BERMode}
use Rattle.yasna.specs.base.declared.mode.BERMode.TheVariants.{Ber, Der}
use Rattle.asn1check.specs.declared.message_type.MessageType.{MessageType}
use Rattle.asn1check.specs.declared.message_type.MessageType.TheVariants.{Certificate, CertificateList, CertificationRequest, SubjectPublicKeyInfo, OneAsymmetricKey, RsaPublicKey, RsaPrivateKey, EcPrivateKey, ContentInfo, SnmpV1, SnmpV2c, LdapMessage, OcspRequest, OcspResponse, TimeStampReq, TimeStampResp}

-- its word in the arguments
abbrev pub kind_word : MessageType → List ℕ
kind_word Certificate = codes "certificate"
kind_word CertificateList = codes "crl"
kind_word CertificationRequest = codes "csr"
kind_word SubjectPublicKeyInfo = codes "public-key"
kind_word OneAsymmetricKey = codes "private-key"
kind_word RsaPublicKey = codes "rsa-public-key"
kind_word RsaPrivateKey = codes "rsa-private-key"
kind_word EcPrivateKey = codes "ec-private-key"
kind_word ContentInfo = codes "cms"
kind_word SnmpV1 = codes "snmp-v1"
kind_word SnmpV2c = codes "snmp-v2c"
kind_word LdapMessage = codes "ldap"
kind_word OcspRequest = codes "ocsp-request"
kind_word OcspResponse = codes "ocsp-response"
kind_word TimeStampReq = codes "tsp-request"
kind_word TimeStampResp = codes "tsp-response"

-- a label that it has in PEM (RFC 7468)
abbrev pub IsLabel : MessageType → List ℕ → Type 0
IsLabel Certificate label = label ≡ codes "CERTIFICATE"
IsLabel CertificateList label = label ≡ codes "X509 CRL"
IsLabel CertificationRequest label = (label ≡ codes "CERTIFICATE REQUEST") ⊎ (label ≡ codes "NEW CERTIFICATE REQUEST")
IsLabel SubjectPublicKeyInfo label = label ≡ codes "PUBLIC KEY"
IsLabel OneAsymmetricKey label = label ≡ codes "PRIVATE KEY"
IsLabel RsaPublicKey label = label ≡ codes "RSA PUBLIC KEY"
IsLabel RsaPrivateKey label = label ≡ codes "RSA PRIVATE KEY"
IsLabel EcPrivateKey label = label ≡ codes "EC PRIVATE KEY"
IsLabel ContentInfo label = (label ≡ codes "CMS") ⊎ (label ≡ codes "PKCS7")
IsLabel SnmpV1 label = ⊥
IsLabel SnmpV2c label = ⊥
IsLabel LdapMessage label = ⊥
IsLabel OcspRequest label = ⊥
IsLabel OcspResponse label = ⊥
IsLabel TimeStampReq label = ⊥
IsLabel TimeStampResp label = ⊥

-- the encoding rules that it is sent in
abbrev pub sent_in : MessageType → BERMode
sent_in Certificate = Der
sent_in CertificateList = Der
sent_in CertificationRequest = Der
sent_in SubjectPublicKeyInfo = Der
sent_in OneAsymmetricKey = Der
sent_in RsaPublicKey = Der
sent_in RsaPrivateKey = Der
sent_in EcPrivateKey = Der
sent_in ContentInfo = Der
sent_in SnmpV1 = Ber
sent_in SnmpV2c = Ber
sent_in LdapMessage = Ber
sent_in OcspRequest = Der
sent_in OcspResponse = Der
sent_in TimeStampReq = Der
sent_in TimeStampResp = Der

-- of one statement for each type, in the order of `MessageType`, that of this type
abbrev pub ForType : MessageType → Type 0 → Type 0 → Type 0 → Type 0 → Type 0 → Type 0 → Type 0 → Type 0 → Type 0 → Type 0 → Type 0 → Type 0 → Type 0 → Type 0 → Type 0 → Type 0 → Type 0
ForType Certificate certificate list request public private rsa_public rsa_private ec_private cms snmp1 snmp2 ldap ocsp_request ocsp_response tsp_request tsp_response = certificate
ForType CertificateList certificate list request public private rsa_public rsa_private ec_private cms snmp1 snmp2 ldap ocsp_request ocsp_response tsp_request tsp_response = list
ForType CertificationRequest certificate list request public private rsa_public rsa_private ec_private cms snmp1 snmp2 ldap ocsp_request ocsp_response tsp_request tsp_response = request
ForType SubjectPublicKeyInfo certificate list request public private rsa_public rsa_private ec_private cms snmp1 snmp2 ldap ocsp_request ocsp_response tsp_request tsp_response = public
ForType OneAsymmetricKey certificate list request public private rsa_public rsa_private ec_private cms snmp1 snmp2 ldap ocsp_request ocsp_response tsp_request tsp_response = private
ForType RsaPublicKey certificate list request public private rsa_public rsa_private ec_private cms snmp1 snmp2 ldap ocsp_request ocsp_response tsp_request tsp_response = rsa_public
ForType RsaPrivateKey certificate list request public private rsa_public rsa_private ec_private cms snmp1 snmp2 ldap ocsp_request ocsp_response tsp_request tsp_response = rsa_private
ForType EcPrivateKey certificate list request public private rsa_public rsa_private ec_private cms snmp1 snmp2 ldap ocsp_request ocsp_response tsp_request tsp_response = ec_private
ForType ContentInfo certificate list request public private rsa_public rsa_private ec_private cms snmp1 snmp2 ldap ocsp_request ocsp_response tsp_request tsp_response = cms
ForType SnmpV1 certificate list request public private rsa_public rsa_private ec_private cms snmp1 snmp2 ldap ocsp_request ocsp_response tsp_request tsp_response = snmp1
ForType SnmpV2c certificate list request public private rsa_public rsa_private ec_private cms snmp1 snmp2 ldap ocsp_request ocsp_response tsp_request tsp_response = snmp2
ForType LdapMessage certificate list request public private rsa_public rsa_private ec_private cms snmp1 snmp2 ldap ocsp_request ocsp_response tsp_request tsp_response = ldap
ForType OcspRequest certificate list request public private rsa_public rsa_private ec_private cms snmp1 snmp2 ldap ocsp_request ocsp_response tsp_request tsp_response = ocsp_request
ForType OcspResponse certificate list request public private rsa_public rsa_private ec_private cms snmp1 snmp2 ldap ocsp_request ocsp_response tsp_request tsp_response = ocsp_response
ForType TimeStampReq certificate list request public private rsa_public rsa_private ec_private cms snmp1 snmp2 ldap ocsp_request ocsp_response tsp_request tsp_response = tsp_request
ForType TimeStampResp certificate list request public private rsa_public rsa_private ec_private cms snmp1 snmp2 ldap ocsp_request ocsp_response tsp_request tsp_response = tsp_response
