use Rattle.yasna_writer.proofs.identifier.+put_base128.Given as goal

abbrev pub decreases-put_base128 : goal.decreases-put_base128
decreases-put_base128 l = l.number
