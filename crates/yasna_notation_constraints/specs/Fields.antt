-- Values that are tested by references to them.
use Rattle.std.specs.Prelude.{◌↔◌}

-- references to values are tested as the values are: what can be written by the one can be by the other
pub record AllowsAlike {A : Type 0} (can can_by : A → Type 0) : Type 0 where
  pub alike : (v : A) → can_by v ↔ can v
