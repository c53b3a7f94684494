use Rattle.asn1_types.proofs.Meaning.{as_one_word, as_three_words}
use Rattle.asn1_types.proofs.cores.reference_meaning.Goals as goal

pub returns-in-len1 : goal.returns-in-len1
returns-in-len1 c =
    as_one_word c.args.scope.modules.now c.args.scope.known.now c.args.«module» c.as_slice.result.now c.args.plain.now.words.items _ c.meaning_of.result c.as_slice.ensures.value c.in-len1.len_at_least
    c.in-len1.len_below c.meaning_of.ensures

pub returns-in-len3 : goal.returns-in-len3
returns-in-len3 c =
    as_three_words c.args.scope.modules.now c.args.scope.known.now c.args.«module» c.as_slice.result.now c.args.plain.now.words.items _ c.is.result c.external_meaning.result c.as_slice.ensures.value
    c.in-len3.len_at_least c.in-len3.len_below c.is.ensures c.if-is.true c.external_meaning.ensures
