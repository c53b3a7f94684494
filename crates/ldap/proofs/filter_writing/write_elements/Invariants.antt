use Rattle.std.proofs.Common.{◌≡◌, take}
use Rattle.std.specs.Prelude.{Ok, None}
use Rattle.yasna_base.specs.SetWriting.{encodings}
use Rattle.yasna_notation.specs.Sets.{WroteElements}
use Rattle.ldap.specs.Filters.{the_filter}
use Rattle.ldap.proofs.filter_writing.write_elements.Given as goal

abbrev pub invariant-loop-item : goal.invariant-loop-item
invariant-loop-item g l =
    (l.set.mode ≡ l.initial.set.mode) × WroteElements (encodings (the_filter.encoding_under None) l.initial.set.mode (take l.item-index l.items)) l.set (Ok tt)
