-- Facts about an option, replaced by weaker ones.
use Rattle.std.proofs.Common.{Option, Some, None}
use Rattle.std.specs.Option.{MatchOption}

pub option_weaker : {A : Type 0} → (o : Option A) (N M : Type 0) (P Q : A → Type 0) → (N → M) → ((x : A) → P x → Q x) →
    MatchOption o N P → MatchOption o M Q
option_weaker None N M P Q f g h = f h
option_weaker (Some x) N M P Q f g h = g x h
