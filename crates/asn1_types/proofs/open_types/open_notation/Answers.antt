use Rattle.asn1_types.proofs.AsTheyCame.{as_field, as_missing, as_parameter, still_incomplete}
use Rattle.asn1_types.proofs.open_types.open_notation.Goals as goal

pub returns-in_ok-note-in-len1-clause-left_open : goal.returns-in_ok-note-in-len1-clause-left_open
returns-in_ok-note-in-len1-clause-left_open c =
    as_parameter c.as_slice.result.now c.args.plain.now.words.items c.as_slice.ensures.value c.in-len1.len_at_least c.in-len1.len_below

pub returns-after-matches-clause-left_open : goal.returns-after-matches-clause-left_open
returns-after-matches-clause-left_open c =
    as_field c.as_slice.result.now c.args.plain.now.words.items c.has_text.result c.as_slice.ensures.value c.has_text.ensures c.if-has_text.true
    c.named_field-notation.ensures

pub returns-in_ok-note-in-len1-2-clause-left_open : goal.returns-in_ok-note-in-len1-2-clause-left_open
returns-in_ok-note-in-len1-2-clause-left_open c =
    as_missing c.as_slice.result.now c.args.plain.now.words.items (still_incomplete c.note-in-len1-2.ensures (c.is_missing.ensures c.if-is_missing.true))
    c.as_slice.ensures.value c.in-len1-2.len_at_least c.in-len1-2.len_below
