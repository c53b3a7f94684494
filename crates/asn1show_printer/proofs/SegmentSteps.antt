-- The strings around no elements.
use Rattle.std.proofs.Common.{◌≡◌, [], get_or, sym, ap, ◌∙◌, true, false}
use Rattle.std.specs.Prelude.{replicate}
use Rattle.std.proofs.lemmas.List.{get_or-replicate}
use Rattle.asn1show_printer.specs.Segments.{Tracks}
use Rattle.asn1show_printer.specs.declared.segments.SegmentKind.TheVariants.{Absent}
use Rattle.asn1show_printer.specs.declared.segments.Segments.{Segments}

-- of no elements nothing is known
pub tracks_none : (s : Segments) → s.around ≡ replicate 256 Absent → s.has_unused_bits ≡ false → Tracks s []
tracks_none s e f = record {
  around = λ depth h. ap (λ z. get_or z depth Absent) e ∙ get_or-replicate 256 depth Absent Absent h;
  unused = (λ t. absurd (let g : false ≡ true = sym f ∙ t in cc), λ never. absurd never);
}
