-- Parts of a SET OF that were prepended, put in order.
use Rattle.std.specs.Prelude.{◌≡◌, ℕ, List, ◌++◌, length, map, reverse, Result, MatchResult, Vec}
use Rattle.std.specs.Global.{Global}
use Rattle.std.specs.List.{concat}
use Rattle.yasna_base.specs.declared.error.ASN1Error.{ASN1Error}
use Rattle.yasna_base.specs.declared.error.ASN1ErrorKind.TheVariants.{OutOfMemory}
use Rattle.yasna_base.specs.declared.mode.BERMode.{BERMode}
use Rattle.yasna_base.specs.Error.{kind_of}
use Rattle.yasna_base.specs.Grammar.{Encoding}
use Rattle.yasna_base.specs.Order.{octets_cmp, in_order}
use Rattle.yasna_base.specs.SequenceOf.{elements_encoding}
use Rattle.yasna_base.specs.SetWriting.{encodings}
use Rattle.yasna_writer.specs.Prepend.{Prepended, with_prefix}

-- bytes begin with these parts, and go on with the rest; lens has the length of each part, that of the last one first
pub record BeginsWithParts (lens bytes : List ℕ) (parts : List (List ℕ)) (rest : List ℕ) : Type 0 where
  pub joined : bytes ≡ concat parts ++ rest
  pub counted : lens ≡ reverse (map length parts)

-- bytes begin with some parts of these lengths
abbrev pub AreLengths : List ℕ → List ℕ → Type 0
AreLengths lens bytes = (parts : List (List ℕ)) × (rest : List ℕ) × BeginsWithParts lens bytes parts rest

-- these are the parts of these lengths in the order of a SET OF, one after the other
abbrev pub ArePartsInOrder : List ℕ → List ℕ → List ℕ → Type 0
ArePartsInOrder lens bytes ordered = (parts : List (List ℕ)) (rest : List ℕ) → BeginsWithParts lens bytes parts rest → ordered ≡ concat (in_order octets_cmp parts)

-- Ok put the parts of these lengths in the order of a SET OF, before the rest; Err is `OutOfMemory`
abbrev pub OrdersParts : List ℕ → Prepended → Prepended → Result (Unit {0}) ASN1Error → Type 0
OrdersParts lens old new r =
    MatchResult r
    (λ _. (parts : List (List ℕ)) (rest : List ℕ) → BeginsWithParts lens old.bytes parts rest → new ≡ record old { bytes = concat (in_order octets_cmp parts) ++ rest })
    (λ e. kind_of e ≡ OutOfMemory)

-- the lengths of the encodings of values, that of the last one first
abbrev pub part_lens : {A : Type 0} → Encoding A → BERMode → List A → List ℕ
part_lens encoding m vs = reverse (map length (encodings encoding m vs))

-- Ok prepended the encodings of values, and returned their lengths, that of the last one first; Err is `OutOfMemory`
abbrev pub PrependsParts : {A : Type 0} → Encoding A → List A → Prepended → Prepended → Result (Vec ℕ Global) ASN1Error → Type 0
PrependsParts encoding vs old new r =
    MatchResult r (λ lens. (new ≡ with_prefix (elements_encoding encoding old.mode vs) old) × (lens.items ≡ part_lens encoding old.mode vs)) (λ e. kind_of e ≡ OutOfMemory)
