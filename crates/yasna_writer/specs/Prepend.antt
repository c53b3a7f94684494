-- Bytes that are prepended to others: an encoding is written from its last byte to its first.
use Rattle.std.specs.Prelude.{◌≡◌, ℕ, ◌≤◌, List, [], ◌++◌, length, drop, Option, IfSome, Result, MatchResult}
use Rattle.yasna_base.specs.declared.error.ASN1Error.{ASN1Error}
use Rattle.yasna_base.specs.declared.error.ASN1ErrorKind.TheVariants.{OutOfMemory}
use Rattle.yasna_base.specs.declared.mode.BERMode.{BERMode}
use Rattle.yasna_base.specs.declared.mode.BERMode.TheVariants.{Cer}
use Rattle.yasna_base.specs.declared.tag.Tag.{Tag}
use Rattle.yasna_base.specs.declared.tag.PCBit.TheVariants.{Constructed}
use Rattle.yasna_base.specs.Element.{end_of_contents}
use Rattle.yasna_base.specs.Error.{kind_of}
use Rattle.yasna_writer.specs.Header.{header_bytes, indefinite_header}

-- the bytes so far, and the mode of what is prepended
pub record Prepended : Type 0 where
  pub bytes : List ℕ
  pub mode : BERMode

-- no byte yet
abbrev pub nothing_prepended : BERMode → Prepended
nothing_prepended m = record { bytes = []; mode = m }

-- with these bytes before the others
abbrev pub with_prefix : List ℕ → Prepended → Prepended
with_prefix bs p = record p { bytes = bs ++ p.bytes }

-- Ok prepended bs; Err is `OutOfMemory`, and the bytes are as they were
abbrev pub PrependsAll : List ℕ → Prepended → Prepended → Result (Unit {0}) ASN1Error → Type 0
PrependsAll bs old new r = MatchResult r (λ _. new ≡ with_prefix bs old) (λ e. (kind_of e ≡ OutOfMemory) × (new ≡ old))

-- Ok prepended bs; Err is `OutOfMemory`
abbrev pub Prepends : List ℕ → Prepended → Prepended → Result (Unit {0}) ASN1Error → Type 0
Prepends bs old new r = MatchResult r (λ _. new ≡ with_prefix bs old) (λ e. kind_of e ≡ OutOfMemory)

-- Ok prepended the end of the contents, and returned how many bytes are from there on; Err is `OutOfMemory`
abbrev pub BeginsContents : List ℕ → Prepended → Prepended → Result ℕ ASN1Error → Type 0
BeginsContents end old new r = MatchResult r (λ after. (new ≡ with_prefix end old) × (after ≡ length new.bytes)) (λ e. kind_of e ≡ OutOfMemory)

-- what ends the contents of a constructed element: in CER two zeros
abbrev pub contents_end : BERMode → List ℕ
contents_end Cer = end_of_contents
contents_end m = []

-- the header of a constructed element with n bytes of contents
abbrev pub contents_header : BERMode → Tag → ℕ → List ℕ
contents_header Cer t n = indefinite_header t
contents_header m t n = header_bytes Constructed (record { tag = t; length = n })

-- there is room for this many bytes before a place, from where on new holds what old holds from start on
pub record HasRoom (more start : ℕ) (old new : List ℕ) (place : ℕ) : Type 0 where
  pub room : more ≤ place
  pub within : place ≤ length new
  pub same : drop place new ≡ drop start old

-- a length, if it is known, is that of these bytes
abbrev pub KnownLength : List ℕ → Option ℕ → Type 0
KnownLength bs r = IfSome r (λ n. n ≡ length bs)
