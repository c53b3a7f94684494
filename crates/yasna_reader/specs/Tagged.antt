-- What a read under an implicit tag of the caller's does.
use Rattle.std.specs.Prelude.{Some, ◌≡◌}
use Rattle.yasna_base.specs.declared.tag.Tag.{Tag}
use Rattle.yasna_reader.specs.Callback.{Lent, returned_of}
use Rattle.yasna_reader.specs.State.{Reading, tag_of, Does, UnlessFailed}
use Rattle.yasna_reader.specs.declared.callback.Outcome.{Outcome}

-- the reading whose next element is to have the tag, or the one that waits already
abbrev pub reading_under : Tag → Reading → Reading
reading_under tag s = record s { tag = Some (tag_of s tag) }

-- the callback is handed the reading under the tag, and what it comes to is returned; where it has no match, the reading is as
-- it was, with the tag that waited
abbrev pub ReadsImplicitly : {A : Type 0} → Does A → Tag → Does A
ReadsImplicitly {A} Callback tag s r s' = UnlessFailed s.failed s r s' ((o : Outcome A) × Lent Callback (reading_under tag s) s o s' × (r ≡ returned_of o))
