use Rattle.std.proofs.Common.{sym, ◌∙◌}
use Rattle.yasna_notation.specs.declared.choices.Either.TheVariants.{First, Second}
use Rattle.ldap.specs.Filters.{after_or}
use Rattle.ldap.proofs.FilterReading.{found_mapped, found_not, found_item}
use Rattle.ldap.proofs.filter_reading.read_after_or.Goals as goal

pub returns-then-is_context : goal.returns-then-is_context
returns-then-is_context g c =
    let is = sym c.is_context.ensures ∙ c.if-is_context.true in
    found_mapped First after_or c.args.tag c.args.reader.now c.read_negated.new.reader c.read_negated.result c.map.result c.map.ensures.cases
    (found_not c.args.tag c.args.reader.now c.read_negated.result c.read_negated.new.reader is c.read_negated.ensures)

pub returns-else-is_context : goal.returns-else-is_context
returns-else-is_context g c =
    let is = sym c.is_context.ensures ∙ c.if-is_context.false in
    let other = c.map-else-is_context in
    found_mapped Second after_or c.args.tag c.args.reader.now c.read.new.reader c.read.result other.result other.ensures.cases
    (found_item c.args.tag c.args.reader.now c.read.result c.read.new.reader is c.read.ensures)
