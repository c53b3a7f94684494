use Rattle.std.proofs.Common.{sym, ◌∙◌}
use Rattle.yasna_notation.specs.declared.choices.Either.TheVariants.{First, Second}
use Rattle.ldap.specs.Filters.{after_and}
use Rattle.ldap.proofs.FilterReading.{found_mapped, found_or, found_none}
use Rattle.ldap.proofs.filter_reading.read_after_and.Goals as goal

pub returns-then-is_context : goal.returns-then-is_context
returns-then-is_context g c =
    let is = sym c.is_context.ensures ∙ c.if-is_context.true in
    found_mapped First after_and c.args.tag c.args.reader.now c.read_group.new.reader c.read_group.result c.map.result c.map.ensures.cases
    (found_or c.args.tag c.args.reader.now c.read_group.result c.read_group.new.reader is c.read_group.ensures)

pub returns-else-is_context : goal.returns-else-is_context
returns-else-is_context g c =
    let is = sym c.is_context.ensures ∙ c.if-is_context.false in
    let other = c.map-else-is_context in
    found_mapped Second after_and c.args.tag c.args.reader.now c.read_after_or.new.reader c.read_after_or.result other.result other.ensures.cases
    (found_none c.args.tag c.args.reader.now c.read_after_or.result c.read_after_or.new.reader is c.read_after_or.ensures)
