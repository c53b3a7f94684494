-- The parameters of scrypt (RFC 7914, 7.1): a SEQUENCE of an OCTET STRING and of INTEGERs, the last of which may be omitted.
use Rattle.std.specs.Prelude.{◌≡◌, ℕ, pos, Option, Vec, true, false}
use Rattle.std.specs.Global.{Global}
use Rattle.yasna.specs.Words.{Grammar, Members, Encoding, Depth, Any, Enclosed, AnyEnclosed, sequence_tag, PartOf, NoParts, AnyPart, AnyNothing}
use Rattle.yasna.specs.Words.{EncodesVec, EncodesOctets, octets_tag, octets_encoding, octets_depth, EncodesUnsigned, integer_tag, integer_encoding}
use Rattle.yasna.specs.Words.{OptionOf, AnyOption, SameOption, option_encoding, option_depth, SamePart, SameNothing, part_encoding}
use Rattle.yasna.specs.Words.{part_depth, nothing_encoding, nothing_depth, leaf_depth, enclosed_encoding, enclosed_depth}
use Rattle.yasna.specs.Words.{Does, Decodes, ReadsOptional, Step, Done}
use Rattle.examples_proved.specs.declared.scrypt.ScryptParameters.{ScryptParameters}

-- the values of the parts
abbrev pub scrypt_parts : ScryptParameters → Vec ℕ Global × (ℕ × (ℕ × (ℕ × (Option ℕ × Unit {0}))))
scrypt_parts v = (v.salt, (v.cost, (v.block_size, (v.parallelization, (v.key_length, tt)))))

-- an INTEGER of 64 bits without a sign
abbrev pub Number : Grammar ℕ
Number = EncodesUnsigned 64

abbrev pub AnyNumber : Members
AnyNumber = Any Number

abbrev pub number_encoding : Encoding ℕ
number_encoding m n = integer_encoding integer_tag m (pos n)

abbrev pub EncodesScrypt : Grammar ScryptParameters
EncodesScrypt m n v b =
    Enclosed (PartOf EncodesVec (PartOf Number (PartOf Number (PartOf Number (PartOf (OptionOf Number) NoParts))))) sequence_tag m n (scrypt_parts v) b

abbrev pub AnyScrypt : Members
AnyScrypt =
    AnyEnclosed (AnyPart (Any EncodesOctets) (AnyPart AnyNumber (AnyPart AnyNumber (AnyPart AnyNumber (AnyPart (AnyOption AnyNumber) AnyNothing))))) sequence_tag

-- the octets are equal, and the numbers
abbrev pub SameScrypt : ScryptParameters → ScryptParameters → Type 0
SameScrypt v w =
    SamePart (λ x y. x.items ≡ y.items) (SamePart (λ x y. x ≡ y) (SamePart (λ x y. x ≡ y) (SamePart (λ x y. x ≡ y) (SamePart (SameOption (λ x y. x ≡ y)) SameNothing))))
    (scrypt_parts v) (scrypt_parts w)

abbrev pub ReadsNumber : Does ℕ
ReadsNumber = Decodes false Number AnyNumber

-- what reading the parts does, one after the other
abbrev pub ReadsScrypt : Does ScryptParameters
ReadsScrypt =
    Step (Decodes true EncodesVec (Any EncodesOctets)) (λ salt. Step ReadsNumber (λ cost. Step ReadsNumber (λ block_size.
    Step ReadsNumber (λ parallelization. Step (ReadsOptional ReadsNumber) (λ key_length.
    Done (record { salt = salt; cost = cost; block_size = block_size; parallelization = parallelization; key_length = key_length }))))))

abbrev pub scrypt_encoding : Encoding ScryptParameters
scrypt_encoding m v =
    enclosed_encoding (part_encoding (λ m s. octets_encoding octets_tag m s.items) (part_encoding number_encoding (part_encoding number_encoding
    (part_encoding number_encoding (part_encoding (option_encoding number_encoding) nothing_encoding))))) sequence_tag m (scrypt_parts v)

abbrev pub scrypt_depth : Depth ScryptParameters
scrypt_depth m v =
    enclosed_depth (part_depth (λ m s. octets_depth m s.items) (part_depth leaf_depth (part_depth leaf_depth (part_depth leaf_depth
    (part_depth (option_depth leaf_depth) nothing_depth))))) m (scrypt_parts v)
