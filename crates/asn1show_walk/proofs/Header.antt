-- Why no header was read at a place.
use Rattle.std.proofs.Common.{◌≡◌, ℕ, List, ◌++◌, false, refl, sym, subst}
use Rattle.yasna_base.specs.declared.error.ASN1ErrorKind.TheVariants.{Invalid}
use Rattle.yasna_base.specs.declared.tag.PCBit.{PCBit}
use Rattle.yasna_base.specs.declared.tag.Tag.{Tag}
use Rattle.yasna_base.specs.Identifier.{identifier, end_tag, begins, end}
use Rattle.yasna_bytes.specs.Walk.{NotOpened}
use Rattle.yasna_bytes.specs.declared.bytes.header.Rejection.{Rejection}
use Rattle.yasna_bytes.proofs.RawHeader.{end_rejects}
use Rattle.asn1show_walk.specs.Errors.{IsMalformed}
use Rattle.asn1show_walk.specs.Reading.{NoItem}
use Rattle.asn1show_walk.specs.declared.error.Expected.{Expected}
use Rattle.asn1show_walk.specs.declared.error.WalkError.{WalkError}
use Rattle.asn1show_walk.specs.declared.error.WalkError.TheVariants.{Malformed}
use Rattle.asn1show_walk.specs.declared.listing.place.Place.{Place}
use Rattle.asn1show_walk.specs.declared.listing.place.Context.{Context}

-- the bytes there are rejected, and the error is of that kind
pub no_item : (context : Context) (p : Place) (e : Rejection) (x : Expected) (f : WalkError) → NotOpened context.mode context.levels p.left.now e →
    f ≡ Malformed p.offset e.kind x → IsMalformed (NoItem context p) f
no_item context p e x f y g =
    let z : NoItem context p p.offset e.kind =
    record { here = refl; header_missing = record { none = y.none; deep = y.deep; no_memory = y.no_memory } } in
    subst (λ h. IsMalformed (NoItem context p) h) (sym g) z

-- the tag of the end of contents is there
pub end_item : (context : Context) (p : Place) (t : Tag) (bit : PCBit) (r : List ℕ) (x : Expected) (f : WalkError) → t ≡ end_tag →
    p.left.now ≡ identifier t bit ++ r → f ≡ Malformed p.offset Invalid x → IsMalformed (NoItem context p) f
end_item context p t bit r x f e i g =
    let a = end (begins bit r (subst (λ u. p.left.now ≡ identifier u bit ++ r) e i)) in
    no_item context p (record { kind = Invalid; consumed = false }) x f (end_rejects context.mode context.levels p.left.now _ a tt refl) g
