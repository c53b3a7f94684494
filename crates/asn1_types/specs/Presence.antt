-- Whether parts may be absent (X.680, 24.10).
use Rattle.std.specs.Prelude.{◌≡◌}
use Rattle.asn1_types.specs.declared.model.Presence.{Presence}
use Rattle.asn1_types.specs.declared.model.Presence.TheVariants as resolved
use Rattle.asn1_syntax.specs.declared.tree.Presence.{Presence as WrittenPresence}
use Rattle.asn1_syntax.specs.declared.tree.Presence.TheVariants as written

-- a part that is always there stays so, and one that may be absent still may be
abbrev pub KeepsPresence : WrittenPresence → Presence → Type 0
KeepsPresence written.Required presence = presence ≡ resolved.Required
KeepsPresence written.Optional presence = presence ≡ resolved.Optional
KeepsPresence (written.Default _) presence = ¬ (presence ≡ resolved.Required)
