use Rattle.std.proofs.Common.{◌≡◌, ◌⊎◌, length}
use denote.Shadow.{shadow}
use denote.Text.{Utf8}
use Rattle.yasna_base.specs.OidText.{BeginsWithComponent}
use Rattle.yasna_base.proofs.OidText.{IsRest}
use Rattle.yasna_base.proofs.models.oid.ObjectIdentifier.from_str.Given as goal

abbrev pub invariant-loop-part : goal.invariant-loop-part
invariant-loop-part l =
    shadow (Utf8 l.rest) × IsRest l.text l.components.items l.rest × ((l.rest ≡ l.text) ⊎ BeginsWithComponent l.text)

abbrev pub decreases-loop-part : goal.decreases-loop-part
decreases-loop-part l = length l.rest
