-- Of what kind an error is, and how it prints.
use Rattle.std.specs.Prelude.{List, ℕ, ◌++◌, codes}
use Rattle.yasna_base.specs.declared.error.ASN1Error.{ASN1Error}
use Rattle.yasna_base.specs.declared.error.ASN1ErrorKind.{ASN1ErrorKind}
use Rattle.yasna_base.specs.declared.error.ASN1ErrorKind.TheVariants.{Eof, Extra, IntegerOverflow, StackOverflow, Invalid, OutOfMemory}

-- of what kind an error is
abbrev pub kind_of : ASN1Error → ASN1ErrorKind
kind_of e = e.kind

-- the error of a kind
abbrev pub error_of : ASN1ErrorKind → ASN1Error
error_of k = record { kind = k }

-- the name of a kind
abbrev pub kind_text : ASN1ErrorKind → List ℕ
kind_text Eof = codes "Eof"
kind_text Extra = codes "Extra"
kind_text IntegerOverflow = codes "IntegerOverflow"
kind_text StackOverflow = codes "StackOverflow"
kind_text Invalid = codes "Invalid"
kind_text OutOfMemory = codes "OutOfMemory"

-- neither too deep nor `OutOfMemory`
abbrev pub BlamesBytes : ASN1ErrorKind → Type 0
BlamesBytes Eof = Unit {0}
BlamesBytes Extra = Unit {0}
BlamesBytes IntegerOverflow = Unit {0}
BlamesBytes Invalid = Unit {0}
BlamesBytes StackOverflow = ⊥
BlamesBytes OutOfMemory = ⊥

-- what an error prints
abbrev pub error_text : ASN1Error → List ℕ
error_text e = codes "ASN1Error { kind: " ++ kind_text (kind_of e) ++ codes " }"
