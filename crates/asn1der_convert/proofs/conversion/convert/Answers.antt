use Rattle.std.proofs.Common.{◌≡◌, rules, subst, ◌<◌, ◌≤◌, ◌^◌, length, []}
use Rattle.yasna_base.specs.Header.{definite_end}
use Rattle.yasna_base.specs.declared.mode.BERMode.{BERMode}
use Rattle.yasna_base.specs.declared.mode.BERMode.TheVariants.{Ber}
use Rattle.asn1der_convert.specs.Conversion.{Converts}
use Rattle.asn1der_convert.specs.Parts.{NoTreesTo}
use Rattle.asn1der_convert.proofs.Rejections.{no_conversion, no_empty_conversion}
use Rattle.asn1der_convert.proofs.Whole.{converted, converted_met, encodes_same, encodes_raw, converts_again, converts_once}
use Rattle.asn1der_convert.proofs.conversion.convert.Goals as goal

encoding : (c : goal.In-Ok) → Converts c.args.input.now c.convert_contents.new.out.items
encoding c =
    let start = c.start-start in
    let some : 1 ≤ length c.args.input.now = search rules in
    let empty : c.in_ok-bytes.bytes.items ≡ [] = search rules in
    converted start.result.levels start.result.mode start.result.left.now c.args.input.now _ c.in_ok-bytes.bytes.items c.convert_contents.new.out.items start.ensures.levels start.ensures.mode
    start.ensures.left c.in-Ok.ensures.parts some empty

short : (c : goal.In-Ok) → length c.convert_contents.new.out.items < 2 ^ 64
short c = search rules

pub returns-in-Ok-clause-encoding : goal.returns-in-Ok-clause-encoding
returns-in-Ok-clause-encoding c = encoding c

pub returns-in-Ok-clause-same : goal.returns-in-Ok-clause-same
returns-in-Ok-clause-same c = encodes_same c.args.input.now c.convert_contents.new.out.items (encoding c) (short c)

pub returns-in-Ok-clause-raw : goal.returns-in-Ok-clause-raw
returns-in-Ok-clause-raw c =
    encodes_raw c.args.input.now c.convert_contents.new.out.items (encodes_same c.args.input.now c.convert_contents.new.out.items (encoding c) (short c))

pub returns-in-Ok-clause-again : goal.returns-in-Ok-clause-again
returns-in-Ok-clause-again c = converts_again c.args.input.now c.convert_contents.new.out.items (encoding c) (short c)

pub returns-in-Ok-clause-one : goal.returns-in-Ok-clause-one
returns-in-Ok-clause-one c = λ d x. converts_once c.args.input.now c.convert_contents.new.out.items d (encoding c) x

pub returns-in-Ok-clause-ambiguities : goal.returns-in-Ok-clause-ambiguities
returns-in-Ok-clause-ambiguities c =
    let start = c.start-start in
    converted_met start.result.levels start.result.mode start.result.left.now c.args.input.now _ c.in_ok-bytes.bytes.items c.convert_contents.new.out.items
    c.none-ambiguities.result c.convert_contents.new.ambiguities start.ensures.levels start.ensures.mode start.ensures.left c.in-Ok.ensures.parts c.in-Ok.ensures.met
    c.none-ambiguities.ensures

pub returns-then-is_empty-clause-rejection : goal.returns-then-is_empty-clause-rejection
returns-then-is_empty-clause-rejection c = λ known d x. no_empty_conversion c.args.input.now (search rules) d x

pub returns-in-Err-clause-rejection : goal.returns-in-Err-clause-rejection
returns-in-Err-clause-rejection c = λ known.
    let start = c.start-start in
    let none = c.in-Err.ensures.parts known in
    let one = subst (λ n. NoTreesTo n start.result.mode start.result.left.now (definite_end [])) start.ensures.levels none in
    let two = subst (λ (m : BERMode). NoTreesTo 101 m start.result.left.now (definite_end [])) start.ensures.mode one in
    no_conversion c.args.input.now (subst (λ s. NoTreesTo 101 Ber s (definite_end [])) start.ensures.left two)
