use Rattle.std.proofs.Common.{◌≡◌, ℕ, List, ◌++◌, rules, ◌<◌, ◌^◌}
use Rattle.yasna_base.specs.declared.tag.PCBit.{PCBit}
use Rattle.yasna_base.specs.declared.tag.Tag.{Tag}
use Rattle.yasna_base.specs.Identifier.{identifier, begins}
use Rattle.yasna_base.specs.Set.{HasItsTag}
use Rattle.yasna_writer.proofs.tagged_part.first_tag.Goals as goal

-- bytes that begin with no identifier begin with that of no tag
tagless :
    (s : List ℕ) → ((t : Tag) (bit : PCBit) (r : List ℕ) → t.tag_number < 2 ^ 64 → s ≡ identifier t bit ++ r → ⊥) → (t : Tag)
    → HasItsTag (record { tag = t; bytes = s }) → ⊥
tagless s none t h = elim h.begins [ begins bit r e ↦ none t bit r h.in_range e ]

pub returns : goal.returns
returns c =
    let b : c.in-Ok.tag.tag_number < 2 ^ 64 = search rules in
    record { in_range = b; begins = begins c.in-Ok.field-0-1 c.in-Ok.field-0-2.now (c.in-Ok.ensures {u = tt}) }

pub returns-in_default : goal.returns-in_default
returns-in_default c = search (tagless c.args.part.now (c.in_default.ensures {u = tt}).1)
