use Rattle.yasna_writer.proofs.state.Writer.end_set.Goals as goal

pub returns-in-Bytes : goal.returns-in-Bytes
returns-in-Bytes c = rw c.in-Bytes.is c.end_set_of.ensures

pub returns-in-Tags : goal.returns-in-Tags
returns-in-Tags c = rw c.in-Tags.is c.end_set_by_tag.ensures
