use Rattle.yasna.proofs.tuples.seven_to_twelve.Tuple11BERDecodable.decode_ber.Goals as goal

pub returns-in-Ok-clause-decodes : goal.returns-in-Ok-clause-decodes
returns-in-Ok-clause-decodes g c failed =
    let t = c.in-Ok.ensures.decodes failed in
    record { prefix = t.prefix; rest = t.rest; joined = t.joined; member = t.member; left = t.left }
