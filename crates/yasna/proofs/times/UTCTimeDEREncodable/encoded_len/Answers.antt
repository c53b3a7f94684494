use Rattle.yasna.proofs.times.UTCTimeDEREncodable.encoded_len.Goals as goal

pub returns : goal.returns
returns c = c.utctime_len.ensures c.args._mode
