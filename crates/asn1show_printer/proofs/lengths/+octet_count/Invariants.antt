use Rattle.asn1show_printer.proofs.lengths.+octet_count.Given as goal

abbrev pub decreases-octet_count : goal.decreases-octet_count
decreases-octet_count l = l.number
