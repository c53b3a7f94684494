use Rattle.yasna_reader.proofs.Following.{ends_by_tag, tag_at_end}
use Rattle.yasna_reader.proofs.at_end.end_here.Goals as goal

pub returns-in-Ok : goal.returns-in-Ok
returns-in-Ok c = (
  λ h. ends_by_tag _ _ _ _ c.in-Ok.ensures (c.is_end.ensures.0 h),
  λ a. c.is_end.ensures.1 (tag_at_end _ _ _ _ c.in-Ok.ensures a),
)
