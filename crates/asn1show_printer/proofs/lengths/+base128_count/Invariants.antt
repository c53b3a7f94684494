use Rattle.asn1show_printer.proofs.lengths.+base128_count.Given as goal

abbrev pub decreases-base128_count : goal.decreases-base128_count
decreases-base128_count l = l.number
