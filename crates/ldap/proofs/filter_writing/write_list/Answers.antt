use Rattle.std.proofs.Common.{None, rules}
use Rattle.yasna_base.specs.Identifier.{tag_or}
use Rattle.yasna_base.specs.Set.{set_tag}
use Rattle.yasna_notation.proofs.SetParts.{set_written}
use Rattle.ldap.specs.Filters.{the_filter}
use Rattle.ldap.specs.TheFilter.{the_filter_non_empty}
use Rattle.ldap.proofs.filter_writing.write_list.Goals as goal

pub returns : goal.returns
returns g c =
    set_written _ _ _ (the_filter.encoding_under None) (tag_or c.args.writer.now.tag set_tag) c.args.items.now (the_filter_non_empty None) (λ k e h. search rules)
    (λ p q r begins h. search rules) c.args.writer.now c.write_set_of.new.self c.write_set_of.result c.write_set_of.ensures
