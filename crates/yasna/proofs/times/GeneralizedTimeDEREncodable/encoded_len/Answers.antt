use Rattle.yasna.proofs.times.GeneralizedTimeDEREncodable.encoded_len.Goals as goal

pub returns : goal.returns
returns c = c.generalized_time_len.ensures c.args._mode
