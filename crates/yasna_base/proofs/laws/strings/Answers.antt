use Rattle.yasna_base.specs.Text.{InUtf8, InNumeric, InPrintable, InVisible, InIa5}
use Rattle.yasna_base.proofs.BitEncoding.{bits_keep}
use Rattle.yasna_base.proofs.Bits.{bits_once}
use Rattle.yasna_base.proofs.Bmp.{bmp_keeps}
use Rattle.yasna_base.proofs.Segmented.{deep_not_segmented}
use Rattle.yasna_base.proofs.Octets.{octets_once, octets_keep}
use Rattle.yasna_base.proofs.Texts.{class_keeps}
use Rattle.yasna_base.proofs.laws.strings.Goals as goal

pub returns-clause-octets : goal.returns-clause-octets
returns-clause-octets c = octets_keep

pub returns-clause-bits : goal.returns-clause-bits
returns-clause-bits c = bits_keep

pub returns-clause-utf8 : goal.returns-clause-utf8
returns-clause-utf8 c = class_keeps InUtf8

pub returns-clause-numeric : goal.returns-clause-numeric
returns-clause-numeric c = class_keeps InNumeric

pub returns-clause-printable : goal.returns-clause-printable
returns-clause-printable c = class_keeps InPrintable

pub returns-clause-ia5 : goal.returns-clause-ia5
returns-clause-ia5 c = class_keeps InIa5

pub returns-clause-visible : goal.returns-clause-visible
returns-clause-visible c = class_keeps InVisible

pub returns-clause-bmp : goal.returns-clause-bmp
returns-clause-bmp c = bmp_keeps

pub returns-clause-deep_octets : goal.returns-clause-deep_octets
returns-clause-deep_octets c = deep_not_segmented octets_once

pub returns-clause-deep_bits : goal.returns-clause-deep_bits
returns-clause-deep_bits c = deep_not_segmented bits_once
