-- Whether contents end before bytes, by the identifier at their front.
use Rattle.std.proofs.Common.{◌≡◌, ℕ, ◌^◌, ◌<◌, List, [], ◌++◌, length, arith, ap, subst}
use Rattle.yasna_base.specs.declared.tag.Tag.{Tag}
use Rattle.yasna_base.specs.declared.tag.PCBit.{PCBit}
use Rattle.yasna_base.specs.Identifier.{AtEnd, BeginsWithTag, begins, end, nothing, end_tag, identifier}
use Rattle.yasna_base.proofs.Identifier.{begins_once, begins_some}

-- contents end before the identifier of the end of contents
pub ends_by_tag : (s : List ℕ) (t : Tag) (p : PCBit) (r : List ℕ) → s ≡ identifier t p ++ r → t ≡ end_tag → AtEnd s
ends_by_tag s t p r e f = end (subst (λ u. BeginsWithTag u s) f (begins p r e))

-- contents end before no other identifier
pub tag_at_end : (s : List ℕ) (t : Tag) (p : PCBit) (r : List ℕ) → s ≡ identifier t p ++ r → AtEnd s → t ≡ end_tag
tag_at_end s t p r e (nothing f) = absurd (omega (arith, begins_some t s (begins p r e), ap length f))
tag_at_end s t p r e (end b) = begins_once t end_tag s (begins p r e) b

-- where there is none, they end where nothing is left
pub empty_at_end : (s : List ℕ) → ((t : Tag) (p : PCBit) (r : List ℕ) → t.tag_number < 2 ^ 64 → s ≡ identifier t p ++ r → ⊥) → AtEnd s → s ≡ []
empty_at_end s none (nothing f) = f
empty_at_end s none (end (begins p r e)) = absurd (none end_tag p r (omega arith) e)
