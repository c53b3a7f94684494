use Rattle.std.proofs.Common.{rules, IsTrue}
use Rattle.yasna_times.specs.Models.{utc_of}
use Rattle.asn1_contents.proofs.Contents.{no_utc, utc_becomes, utc_stays}
use Rattle.asn1_contents.proofs.der_contents.utc_time.Goals as goal

pub returns-in_default : goal.returns-in_default
returns-in_default c = no_utc c.deref.result.now c.args.contents.items c.deref.ensures.value c.in_default.ensures

pub returns-then-is_canonical : goal.returns-then-is_canonical
returns-then-is_canonical c =
    let yes : IsTrue c.is_canonical.result = search rules in
    utc_stays c.deref.result.now c.deref-2.result.now c.args.contents.items (utc_of c.in-Some.time) c.deref.ensures.value c.deref-2.ensures.value
    c.in-Some.ensures (λ t. (c.is_canonical.ensures.canonical t).0 yes)

pub returns : goal.returns
returns c =
    utc_becomes c.deref.result.now c.args.contents.items c.in_ok-to_bytes.field-0.items (utc_of c.in-Some.time) c.deref.ensures.value c.in-Some.ensures
    c.in_ok-to_bytes.ensures.text
