use Rattle.std.proofs.Common.{rules, IsTrue}
use Rattle.yasna_times.specs.Models.{moment_of}
use Rattle.asn1_contents.proofs.Contents.{no_general, general_becomes, general_stays}
use Rattle.asn1_contents.proofs.der_contents.generalized_time.Goals as goal

pub returns-in_default : goal.returns-in_default
returns-in_default c =
    let none = rw c.in_default.is at (c.in_ok-moment.ensures {u = tt}).exact in
    no_general c.deref.result.now c.args.contents.items c.deref.ensures.value none

pub returns-then-is_canonical : goal.returns-then-is_canonical
returns-then-is_canonical c =
    let yes : IsTrue c.is_canonical.result = search rules in
    let text = rw c.in-Some.is at (c.in_ok-moment.ensures {u = tt}).exact in
    general_stays c.deref.result.now c.deref-2.result.now c.args.contents.items (moment_of c.in-Some.moment) c.deref.ensures.value c.deref-2.ensures.value
    text (c.is_canonical.ensures.0 yes)

pub returns : goal.returns
returns c =
    let text = rw c.in-Some.is at (c.in_ok-moment.ensures {u = tt}).exact in
    general_becomes c.deref.result.now c.args.contents.items c.in_ok-to_bytes.field-0.items (moment_of c.in-Some.moment) c.deref.ensures.value text
    c.in_ok-to_bytes.ensures.text
