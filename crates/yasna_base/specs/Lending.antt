-- What the values of this crate lend.
use Rattle.std.specs.Borrow.{Fml, Lends, MutBor, RattleType, u64}
use Rattle.std.specs.Prelude.{List, ℕ}
use Rattle.std.specs.contracts.vec.Vec as vec
use Rattle.std.specs.contracts.alloc.Global as global
use Rattle.std.specs.contracts.impls.GlobalAllocator.TheImpl.{ghosts}
use Rattle.yasna_base.specs.contracts.models.oid.ObjectIdentifier.{the_row}

-- a vector of numbers
abbrev pub Numbers : RattleType
Numbers = vec.the_row u64 global.the_row ghosts

-- r lends the components: what they are in the end is the object identifier
abbrev pub LendsComponents : MutBor (List ℕ) → MutBor (Numbers.Denot) → Fml
LendsComponents s r = Lends the_row Numbers s r (λ v. v.items)
