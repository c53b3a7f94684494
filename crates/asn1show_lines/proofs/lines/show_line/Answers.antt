use Rattle.std.proofs.Common.{None, Some, subst}
use Rattle.std.specs.Prelude.{option_map}
use Rattle.asn1show_walk.specs.Errors.{IsExternal}
use Rattle.asn1show_walk.specs.Reading.{NoElements}
use Rattle.asn1show_walk.specs.WellFormed.{AreElements}
use Rattle.asn1show_walk.proofs.WalkFails.{fails_by}
use Rattle.asn1_input.specs.Reader.{TakesLine}
use Rattle.asn1_input.proofs.Malformed.{lacks}
use Rattle.asn1_input.proofs.Taking.{goes_on, goes_on_after, ends_there}
use Rattle.asn1show_lines.proofs.Meeting.{after_block, after_line}
use Rattle.asn1show_lines.proofs.lines.show_line.Goals as goal

pub returns-in-Ok-clause-goes_on : goal.returns-in-Ok-clause-goes_on
returns-in-Ok-clause-goes_on g c rest =
    let takes : TakesLine c.args.reader.now c.args.line.now (Some c.in-Some.block.bytes) c.push.new.self =
    subst (λ z. TakesLine c.args.reader.now c.args.line.now (option_map (λ b. b.bytes) z) c.push.new.self) c.in-Some.is (c.in_ok-block.ensures {u = tt}) in
    goes_on_after (AreElements 101 c.args.mode) c.args.reader.now c.push.new.self c.args.line.now rest c.in-Some.block.bytes takes (c.in-Ok.ensures {u = tt}).elements

pub returns-in-Ok-clause-conformance : goal.returns-in-Ok-clause-conformance
returns-in-Ok-clause-conformance g c = λ plain.
    let takes : TakesLine c.args.reader.now c.args.line.now (Some c.in-Some.block.bytes) c.push.new.self =
    subst (λ z. TakesLine c.args.reader.now c.args.line.now (option_map (λ b. b.bytes) z) c.push.new.self) c.in-Some.is (c.in_ok-block.ensures {u = tt}) in
    after_block c.args.mode c.args.reader.now c.push.new.self c.args.line.now c.args.conformance.now c.in-Ok.further c.meet.new.self c.in-Some.block.bytes takes
    ((c.in-Ok.ensures {u = tt}).conformance plain) c.meet.ensures

pub returns-clause-fails : goal.returns-clause-fails
returns-clause-fails g c =
    let takes : TakesLine c.args.reader.now c.args.line.now (Some c.in-Some.block.bytes) c.push.new.self =
    subst (λ z. TakesLine c.args.reader.now c.args.line.now (option_map (λ b. b.bytes) z) c.push.new.self) c.in-Some.is (c.in_ok-block.ensures {u = tt}) in
    fails_by IsExternal c.in-Err.error (λ o k failed rest. ends_there (AreElements 101 c.args.mode) c.args.reader.now c.push.new.self c.args.line.now rest
    c.in-Some.block.bytes takes (lacks (AreElements 101 c.args.mode) (NoElements 101 c.args.mode) c.in-Some.block.bytes o k (λ bytes x. x.none) failed))
    (c.in-Err.ensures {u = tt}).fails

pub returns-in_default-clause-goes_on : goal.returns-in_default-clause-goes_on
returns-in_default-clause-goes_on g c rest =
    let takes : TakesLine c.args.reader.now c.args.line.now None c.push.new.self =
    subst (λ z. TakesLine c.args.reader.now c.args.line.now (option_map (λ b. b.bytes) z) c.push.new.self) c.in_default.is (c.in_ok-block.ensures {u = tt}) in
    goes_on (AreElements 101 c.args.mode) c.args.reader.now c.push.new.self c.args.line.now rest takes

pub returns-in_default-clause-conformance : goal.returns-in_default-clause-conformance
returns-in_default-clause-conformance g c = λ plain.
    let takes : TakesLine c.args.reader.now c.args.line.now None c.push.new.self =
    subst (λ z. TakesLine c.args.reader.now c.args.line.now (option_map (λ b. b.bytes) z) c.push.new.self) c.in_default.is (c.in_ok-block.ensures {u = tt}) in
    after_line c.args.mode c.args.reader.now c.push.new.self c.args.line.now c.args.conformance.now takes
