-- What an error of a run says.
use Rattle.std.specs.Prelude.{Result, Ok, Err, ⊤}
use Rattle.yasna.specs.base.declared.error.ASN1Error.{ASN1Error}
use Rattle.yasna_tool_run.specs.declared.engine.RunFault.{RunFault}
use Rattle.yasna_tool_run.specs.declared.engine.RunFault.TheVariants.{Refused, Device}

-- P holds of the error, if the run was rejected
abbrev pub IfRejected : {A : Type 0} → Result A RunFault → (ASN1Error → Type 0) → Type 0
IfRejected (Ok _) P = ⊤
IfRejected (Err (Refused e)) P = P e
IfRejected (Err Device) P = ⊤

-- P holds, if an end failed
abbrev pub IfIoError : {A : Type 0} → Result A RunFault → Type 0 → Type 0
IfIoError (Ok _) P = ⊤
IfIoError (Err (Refused _)) P = ⊤
IfIoError (Err Device) P = P
