use Rattle.std.proofs.Common.{refl}
use Rattle.asn1show_printer.proofs.SegmentSteps.{tracks_none}
use Rattle.asn1show_printer.proofs.segments.Segments.new.Goals as goal

pub returns : goal.returns
returns c = tracks_none _ refl refl
