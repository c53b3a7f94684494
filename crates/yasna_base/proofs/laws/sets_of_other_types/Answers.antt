use Rattle.yasna_base.specs.Text.{InUtf8, InNumeric, InPrintable, InVisible, InIa5}
use Rattle.yasna_base.proofs.Bits.{bits_coding}
use Rattle.yasna_base.proofs.Bmp.{bmp_coding}
use Rattle.yasna_base.proofs.SetLaws.{set_coding}
use Rattle.yasna_base.proofs.SetOfWriting.{set_of_reading}
use Rattle.yasna_base.proofs.Texts.{class_coding}
use Rattle.yasna_base.proofs.laws.sets_of_other_types.Goals as goal

pub returns-clause-bits : goal.returns-clause-bits
returns-clause-bits c = λ u not_end range. set_of_reading (bits_coding u not_end)

pub returns-clause-utf8 : goal.returns-clause-utf8
returns-clause-utf8 c = λ u not_end range. set_of_reading (class_coding InUtf8 u not_end)

pub returns-clause-numeric : goal.returns-clause-numeric
returns-clause-numeric c = λ u not_end range. set_of_reading (class_coding InNumeric u not_end)

pub returns-clause-printable : goal.returns-clause-printable
returns-clause-printable c = λ u not_end range. set_of_reading (class_coding InPrintable u not_end)

pub returns-clause-ia5 : goal.returns-clause-ia5
returns-clause-ia5 c = λ u not_end range. set_of_reading (class_coding InIa5 u not_end)

pub returns-clause-visible : goal.returns-clause-visible
returns-clause-visible c = λ u not_end range. set_of_reading (class_coding InVisible u not_end)

pub returns-clause-bmp : goal.returns-clause-bmp
returns-clause-bmp c = λ u not_end range. set_of_reading (bmp_coding u not_end)

pub returns-clause-sets : goal.returns-clause-sets
returns-clause-sets c = λ u not_end range. set_of_reading (set_coding u not_end range)
