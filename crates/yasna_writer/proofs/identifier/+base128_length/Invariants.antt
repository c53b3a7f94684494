use Rattle.yasna_writer.proofs.identifier.+base128_length.Given as goal

abbrev pub decreases-base128_length : goal.decreases-base128_length
decreases-base128_length l = l.number
