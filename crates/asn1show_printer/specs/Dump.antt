-- The octets of an element that are beside its line.
use Rattle.std.specs.Prelude.{◌+◌, ℕ, length}
use Rattle.yasna_base.specs.declared.tag.PCBit.{PCBit}
use Rattle.yasna_base.specs.declared.tag.PCBit.TheVariants.{Primitive, Constructed}
use Rattle.asn1show_walk.specs.declared.listing.item.Item.{Item}

-- the most octets that are beside a line
abbrev pub longest_dump : ℕ
longest_dump = 8

-- how many octets of an element no other line has: those of its header, and of its contents if it is primitive
abbrev pub own_len_by : PCBit → Item → ℕ
own_len_by Primitive i = i.header + length i.contents.now
own_len_by Constructed i = i.header

abbrev pub own_len : Item → ℕ
own_len i = own_len_by i.bit i
