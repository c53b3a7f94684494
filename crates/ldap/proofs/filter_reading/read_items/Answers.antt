use Rattle.std.proofs.Common.{◌∷◌, [], true, Err, sym, subst, ◌∙◌}
use Rattle.yasna_base.specs.Coding.{Any}
use Rattle.yasna_base.specs.Set.{set_tag}
use Rattle.yasna_notation.specs.Bounded.{Within}
use Rattle.yasna_notation.specs.Notation.{ReadsAs}
use Rattle.yasna_notation.proofs.Bounding.{read_within, read_outside, read_none}
use Rattle.yasna_notation.proofs.SetParts.{set_of_read}
use Rattle.ldap.specs.Filters.{the_filter}
use Rattle.ldap.specs.TheFilter.{the_filter_lawful}
use Rattle.ldap.proofs.FilterReading.{list_under, lists_any, list_encoding, list_lawful, holds_some, alike, some, none}
use Rattle.ldap.proofs.filter_reading.read_items.Goals as goal

pub returns-then-is_empty : goal.returns-then-is_empty
returns-then-is_empty g c =
    let s = c.args.reader.now in
    let left = c.collect_set_of.new.self in
    let h = set_of_read {tags_known = true} {ts = the_filter.tags} {retagged = the_filter.retagged} {may_allocate = true} {B = the_filter.under}
    {S = the_filter.any_under} the_filter_lawful.own.coding c.collect_set_of.ensures c.requires.reads in
    subst (λ e. ReadsAs true (set_tag ∷ []) true true (λ u. Within holds_some (list_under u)) (λ u. Any (Within holds_some (list_under u))) s (Err e) left)
    (sym c.new.ensures)
    (read_outside list_under lists_any list_encoding holds_some alike true (set_tag ∷ []) true true list_lawful.own list_lawful.others s c.in-Ok.items left
    (none c.in-Ok.items (sym c.is_empty.ensures ∙ c.if-is_empty.true))
    (subst (λ r. ReadsAs true (set_tag ∷ []) true true list_under lists_any s r left) c.in-Ok.is h))

pub returns-else-is_empty : goal.returns-else-is_empty
returns-else-is_empty g c =
    let s = c.args.reader.now in
    let left = c.collect_set_of.new.self in
    let h = set_of_read {tags_known = true} {ts = the_filter.tags} {retagged = the_filter.retagged} {may_allocate = true} {B = the_filter.under}
    {S = the_filter.any_under} the_filter_lawful.own.coding c.collect_set_of.ensures c.requires.reads in
    read_within list_under lists_any list_encoding holds_some alike true (set_tag ∷ []) true true list_lawful.own list_lawful.others s c.in-Ok.items left
    (some c.in-Ok.items (sym c.is_empty.ensures ∙ c.if-is_empty.false))
    (subst (λ r. ReadsAs true (set_tag ∷ []) true true list_under lists_any s r left) c.in-Ok.is h)

pub returns-in-Err : goal.returns-in-Err
returns-in-Err g c =
    let s = c.args.reader.now in
    let left = c.collect_set_of.new.self in
    let h = set_of_read {tags_known = true} {ts = the_filter.tags} {retagged = the_filter.retagged} {may_allocate = true} {B = the_filter.under}
    {S = the_filter.any_under} the_filter_lawful.own.coding c.collect_set_of.ensures c.requires.reads in
    read_none list_under lists_any list_encoding holds_some alike true (set_tag ∷ []) true true list_lawful.own list_lawful.others s c.in-Err.error left
    (subst (λ r. ReadsAs true (set_tag ∷ []) true true list_under lists_any s r left) c.in-Err.is h)
