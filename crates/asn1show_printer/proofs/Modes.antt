-- Diagnostics exclude exactly the modes whose rules an element doesn't keep.
use Rattle.std.proofs.Common.{◌≡◌, ◌↔◌, ◌≤◌, ℕ, zero, suc, List, [], ◌∷◌, length, Option, Some, None, refl, sym, ap, ◌∙◌, subst, arith, Bool, true, false, cond}
use Rattle.std.specs.Prelude.{IsTrue, not, ◌&&◌, is_some, if◌then◌else◌}
use Rattle.std.specs.Option.{IsSome}
use Rattle.yasna_base.specs.Canonical.{IsCanonicalMode}
use Rattle.yasna_base.specs.Grammar.{max_depth}
use Rattle.yasna_base.specs.Octets.{octets_full}
use Rattle.yasna_base.specs.declared.mode.BERMode.{BERMode}
use Rattle.yasna_base.specs.declared.mode.BERMode.TheVariants.{Ber, Der, Cer}
use Rattle.yasna_base.specs.declared.tag.PCBit.{PCBit}
use Rattle.yasna_base.specs.declared.tag.PCBit.TheVariants.{Primitive, Constructed}
use Rattle.yasna_base.specs.Raw.{RawValue, IsRaw}
use Rattle.yasna_bytes.specs.Prefix.{HasPrefix}
use Rattle.asn1show_walk.specs.Listing.{Line}
use Rattle.asn1show_printer.specs.Conformance.{excludes}
use Rattle.asn1show_printer.specs.Contents.{AreOfKind, InNone, OnlyInBer, DiagnosesOf}
use Rattle.asn1show_printer.specs.Pieces.{Begins, ArePieces, no_more, one_more, AreOrdered, AreCerSegments, RawPiece, RepeatsTag, SaysOfOrder, SaysOfDisorder, SaysOfCer, SaysUnless, IsNoneOr}
use Rattle.asn1show_printer.specs.Modes.{HasBody, MayHaveParts, HasItsBit, AreInOrder, HasOrder, HasShortLength, IsCut, Keeps, spares, spare_each, Pins}
use Rattle.asn1show_printer.specs.Segments.{HasWantedTag, MayBeNext}
use Rattle.asn1show_printer.specs.Types.{type_with, is_set, is_string, diagnostic_if_constructed}
use Rattle.asn1show_printer.specs.declared.asn_type.AsnType.{AsnType}
use Rattle.asn1show_printer.specs.declared.asn_type.AsnType.TheVariants.{Boolean, Integer, Bits, Octets, Null, Oid, Relative, Real, Text, Whole, UtcTime, GeneralizedTime, Set, Parts, Unknown}
use Rattle.asn1show_printer.specs.declared.diagnostic.Diagnostic.{Diagnostic}
use Rattle.asn1show_printer.specs.declared.diagnostic.Diagnostic.TheVariants.{Indefinite, Segments, HasParts, Order, TagOrder, LongLength, Definite, Uncut}
use Rattle.asn1show_printer.proofs.Pieces.{piece_shorter}

-- ---- diagnostics of any rules

-- both are so
both : (a b : Bool) → IsTrue (a && b) ↔ (IsTrue a × IsTrue b)
both true b = (λ e. (refl, e), λ x. x.1)
both false b = (λ e. absurd (cc), λ x. absurd (let e = x.0 in cc))

-- nothing is said, and the rule is untouched in each mode
pub pins_none : (P : BERMode → Type 0) → ((m : BERMode) → P m) → Pins P None
pins_none P f m = (λ e. f m, λ p. refl)

-- a mode that isn't excluded, and one that is
spared : {P : Type 0} (b : Bool) → b ≡ false → P → IsTrue (not b) ↔ P
spared true e p = absurd (cc)
spared false e p = (λ t. p, λ q. refl)

dropped : {P : Type 0} (b : Bool) → b ≡ true → (P → ⊥) → IsTrue (not b) ↔ P
dropped true e none = (λ t. absurd (cc), λ q. absurd (none q))
dropped false e none = absurd (cc)

-- a diagnostic that excludes each mode is said exactly if a rule of each isn't untouched
pub pins_flag : (b : Bool) (P : Type 0) (d : Diagnostic) → IsTrue b ↔ P → ((m : BERMode) → excludes d m ≡ true) → Pins (λ m. P) (if b then None else Some d)
pins_flag true P d x f m = (λ e. x.0 refl, λ p. refl)
pins_flag false P d x f m = dropped (excludes d m) (f m) (λ p. let e = x.1 p in absurd (cc))

-- ---- contents of primitive elements

in_ber : (C : BERMode → List ℕ → Type 0) (c : List ℕ) (der cer ber : Bool) → cond (der && cer) (cond ber (InNone C c) (OnlyInBer C c)) ⊥ → IsTrue (not ber) ↔ C Ber c
in_ber C c true true true x = (λ e. absurd (cc), λ p. absurd (x Ber p))
in_ber C c true true false x = (λ e. x.here, λ p. refl)
in_ber C c true false ber x = absurd x
in_ber C c false cer ber x = absurd x

in_der : (C : BERMode → List ℕ → Type 0) (c : List ℕ) (der cer ber : Bool) → cond (der && cer) (cond ber (InNone C c) (OnlyInBer C c)) ⊥ → IsTrue (not der) ↔ C Der c
in_der C c true true true x = (λ e. absurd (cc), λ p. absurd (x Der p))
in_der C c true true false x = (λ e. absurd (cc), λ p. absurd (x.not_there Der tt p))
in_der C c true false ber x = absurd x
in_der C c false cer ber x = absurd x

in_cer : (C : BERMode → List ℕ → Type 0) (c : List ℕ) (der cer ber : Bool) → cond (der && cer) (cond ber (InNone C c) (OnlyInBer C c)) ⊥ → IsTrue (not cer) ↔ C Cer c
in_cer C c true true true x = (λ e. absurd (cc), λ p. absurd (x Cer p))
in_cer C c true true false x = (λ e. absurd (cc), λ p. absurd (x.not_there Cer tt p))
in_cer C c true false ber x = absurd x
in_cer C c false cer ber x = absurd x

pub contents_pin : (kind : AsnType) (c : List ℕ) (said : Option Diagnostic) → DiagnosesOf kind c said → Pins (λ m. AreOfKind kind m c) said
contents_pin kind c None x = pins_none (λ m. AreOfKind kind m c) x
contents_pin kind c (Some d) x = λ m. elim m as (λ k. IsTrue (spares (Some d) k) ↔ AreOfKind kind k c) [
  | Ber ↦ in_ber (AreOfKind kind) c (excludes d Der) (excludes d Cer) (excludes d Ber) x
  | Der ↦ in_der (AreOfKind kind) c (excludes d Der) (excludes d Cer) (excludes d Ber) x
  | Cer ↦ in_cer (AreOfKind kind) c (excludes d Der) (excludes d Cer) (excludes d Ber) x
]

-- ---- lengths and bits of constructed elements

pub length_pins : (size : Option ℕ) → Pins (λ m. m ≡ Der → IsSome size) (if is_some size then None else Some Indefinite)
length_pins (Some n) m = (λ e is. refl, λ p. refl)
length_pins None Ber = (λ e is. absurd (cc), λ p. refl)
length_pins None Der = (λ e is. absurd (cc), λ p. let e = p refl in absurd (cc))
length_pins None Cer = (λ e is. absurd (cc), λ p. refl)

never_parts : Pins (λ m. ⊥) (Some HasParts)
never_parts m = (λ e. absurd (cc), λ p. absurd p)

not_in_der : Pins (λ m. m ≡ Der → ⊥) (Some Segments)
not_in_der Ber = (λ e is. absurd (cc), λ p. refl)
not_in_der Der = (λ e is. absurd (cc), λ p. absurd (p refl))
not_in_der Cer = (λ e is. absurd (cc), λ p. refl)

always_parts : Pins (λ m. Unit {0}) None
always_parts m = (λ e. tt, λ p. refl)

pub bit_pins : (kind : AsnType) → Pins (MayHaveParts kind) (diagnostic_if_constructed kind)
bit_pins Boolean = never_parts
bit_pins Integer = never_parts
bit_pins Bits = not_in_der
bit_pins Octets = not_in_der
bit_pins Null = never_parts
bit_pins Oid = never_parts
bit_pins Relative = never_parts
bit_pins Real = never_parts
bit_pins (Text characters) = not_in_der
bit_pins (Whole characters) = never_parts
bit_pins UtcTime = not_in_der
bit_pins GeneralizedTime = not_in_der
bit_pins Set = always_parts
bit_pins Parts = always_parts
bit_pins Unknown = always_parts

-- ---- orders

abbrev piece : RawValue → List ℕ → RawPiece
piece v b = record { value = v; octets = b }

begins_with : (c : List ℕ) → (x : HasPrefix (IsRaw Ber max_depth) c) → Begins c (piece x.0 x.2.prefix) x.1
begins_with c x = record { joined = x.2.joined; raw = x.2.member }

-- contents begin with some elements, or none
exist_below : (n : ℕ) (c : List ℕ) → length c ≤ n → ((ps : List RawPiece) → ArePieces c ps → ⊥) → ⊥
exist_below zero c h none =
    none [] (no_more (λ x. let l = piece_shorter c x.1 (piece x.0 x.2.prefix) (begins_with c x) in omega (arith, h, l)))
exist_below (suc n) c h none =
    none [] (no_more (λ x.
    let l = piece_shorter c x.1 (piece x.0 x.2.prefix) (begins_with c x) in
    exist_below n x.1 (omega (arith, h, l)) (λ ps are. none (piece x.0 x.2.prefix ∷ ps) (one_more (begins_with c x) are))))

pieces_exist : (c : List ℕ) → ((ps : List RawPiece) → ArePieces c ps → ⊥) → ⊥
pieces_exist c none = exist_below (length c) c (omega arith) none

-- in no order, with a tag twice
repeated_pins : (c : List ℕ) → ((ps : List RawPiece) → ArePieces c ps → RepeatsTag ps) → ((ps : List RawPiece) → ArePieces c ps → AreOrdered ps → ⊥) →
    Pins (λ m. AreInOrder m c) (Some Order)
repeated_pins c rep dis Ber = (λ e. tt, λ p. refl)
repeated_pins c rep dis Der = (λ e. absurd (cc), λ p. absurd (pieces_exist c (λ ps are. dis ps are (p ps are))))
repeated_pins c rep dis Cer = (λ e. absurd (cc), λ p. absurd (pieces_exist c (λ ps are. dis ps are (p ps are (rep ps are)))))

-- in no order, with several tags
several_pin : (c : List ℕ) → ((ps : List RawPiece) → ArePieces c ps → RepeatsTag ps → ⊥) → ((ps : List RawPiece) → ArePieces c ps → AreOrdered ps → ⊥) →
    Pins (λ m. AreInOrder m c) (Some TagOrder)
several_pin c sev dis Ber = (λ e. tt, λ p. refl)
several_pin c sev dis Der = (λ e. absurd (cc), λ p. absurd (pieces_exist c (λ ps are. dis ps are (p ps are))))
several_pin c sev dis Cer = (λ e ps are rep. absurd (sev ps are rep), λ p. refl)

disorder_pins : (c : List ℕ) (d : Diagnostic) → (x : SaysOfDisorder c d) → (r : Bool) → x.repeated ≡ r → Pins (λ m. AreInOrder m c) (Some d)
disorder_pins c d x true e =
    subst (λ z. Pins (λ m. AreInOrder m c) (Some z)) (sym (x.said ∙ ap order e)) (repeated_pins c (λ ps are. (x.repeats ps are).0 e) x.disorder)
  where
    order : Bool → Diagnostic
    order true = Order
    order false = TagOrder
disorder_pins c d x false e =
    subst (λ z. Pins (λ m. AreInOrder m c) (Some z)) (sym (x.said ∙ ap order e))
    (several_pin c (λ ps are rep. let f = (x.repeats ps are).1 rep in absurd (let g : false ≡ true = sym e ∙ f in cc)) x.disorder)
  where
    order : Bool → Diagnostic
    order true = Order
    order false = TagOrder

pub order_pins : (c : List ℕ) (said : Option Diagnostic) → SaysOfOrder c said → Pins (λ m. AreInOrder m c) said
order_pins c None x Ber = (λ e. tt, λ p. refl)
order_pins c None x Der = (λ e. x, λ p. refl)
order_pins c None x Cer = (λ e ps are rep. x ps are, λ p. refl)
order_pins c (Some d) x m = disorder_pins c d x x.repeated refl m

-- a rule that only a SET has
pub set_pins : (P : BERMode → Type 0) (is : Bool) (said : Option Diagnostic) → is ≡ true → Pins P said → Pins (λ m. IsTrue is → P m) said
set_pins P is said e x m = (λ t yes. (x m).0 t, λ p. (x m).1 (p e))

pub no_set_pins : (P : BERMode → Type 0) (is : Bool) → is ≡ false → Pins (λ m. IsTrue is → P m) None
no_set_pins P is e m = (λ t yes. absurd (let g : false ≡ true = sym e ∙ yes in cc), λ p. refl)

-- ---- lengths of headers

pub short_pins : (P : Type 0) (long : Bool) → IsTrue (not long) ↔ P → Pins (λ m. IsCanonicalMode m → P) (if not long then None else Some LongLength)
short_pins P false x m = (λ e c. x.0 refl, λ p. refl)
short_pins P true x Ber = (λ e c. absurd c, λ p. refl)
short_pins P true x Der = (λ e. absurd (cc), λ p. let e = x.1 (p tt) in absurd (cc))
short_pins P true x Cer = (λ e. absurd (cc), λ p. let e = x.1 (p tt) in absurd (cc))

-- ---- cuts

in_cer_alone : (P : Type 0) (d : Diagnostic) → excludes d Ber ≡ false → excludes d Der ≡ false → excludes d Cer ≡ true → (P → ⊥) → Pins (λ m. m ≡ Cer → P) (Some d)
in_cer_alone P d b e f none Ber = spared (excludes d Ber) b (λ is. absurd (cc))
in_cer_alone P d b e f none Der = spared (excludes d Der) e (λ is. absurd (cc))
in_cer_alone P d b e f none Cer = dropped (excludes d Cer) f (λ p. none (p refl))

uncut : (P : Type 0) (said : Option Diagnostic) → SaysUnless P Uncut said → Pins (λ m. m ≡ Cer → P) said
uncut P None x = pins_none (λ m. m ≡ Cer → P) (λ m is. x)
uncut P (Some d) x = subst (λ z. Pins (λ m. m ≡ Cer → P) (Some z)) (sym x.0) (in_cer_alone P Uncut refl refl refl x.1)

uncut_pieces : (c : List ℕ) (string : Bool) (said : Option Diagnostic) → IsNoneOr Uncut said →
    ((ps : List RawPiece) → ArePieces c ps → SaysUnless (IsTrue string → AreCerSegments ps) Uncut said) →
    Pins (λ m. m ≡ Cer → (ps : List RawPiece) → ArePieces c ps → IsTrue string → AreCerSegments ps) said
uncut_pieces c string None named x = pins_none _ (λ m is. x)
uncut_pieces c string (Some d) named x =
    subst (λ z. Pins (λ m. m ≡ Cer → (ps : List RawPiece) → ArePieces c ps → IsTrue string → AreCerSegments ps) (Some z)) (sym named)
    (in_cer_alone ((ps : List RawPiece) → ArePieces c ps → IsTrue string → AreCerSegments ps) Uncut refl refl refl
    (λ p. pieces_exist c (λ ps are. (x ps are).1 (p ps are))))

pub cut_pins : (bit : PCBit) (size : Option ℕ) (string : Bool) (c : List ℕ) (said : Option Diagnostic) → SaysOfCer bit size c string said →
    Pins (IsCut bit size string c) said
cut_pins Primitive size string c said x = uncut (IsTrue string → length c ≤ octets_full) said x
cut_pins Constructed (Some n) string c said x =
    subst (Pins (λ m. m ≡ Cer → ⊥)) (sym x) (in_cer_alone ⊥ Definite refl refl refl (λ p. p))
cut_pins Constructed None string c said x = uncut_pieces c string said x.0 x.1

-- ---- all rules of an element

pub element_keeps : (l : Line) (before : List Line) (a b d e f g h : Option Diagnostic) → Pins (λ m. HasBody m l.bit l.size (type_with l.tag) l.contents) a →
    Pins (HasItsBit l.bit (type_with l.tag)) b → Pins (HasOrder l.bit (type_with l.tag) l.contents) d →
    Pins (HasShortLength l.tag l.bit l.header l.size) e → Pins (λ m. HasWantedTag before l) f → Pins (λ m. MayBeNext before l) g →
    Pins (IsCut l.bit l.size (is_string (type_with l.tag)) l.contents) h → (m : BERMode) →
    IsTrue (spare_each (a ∷ b ∷ d ∷ e ∷ f ∷ g ∷ h ∷ []) m) ↔ Keeps m before l
element_keeps l before a b d e f g h ta tb td te tf tg th m = (
  λ t.
      let x1 = (both (spares a m) _).0 t in
      let x2 = (both (spares b m) _).0 x1.1 in
      let x3 = (both (spares d m) _).0 x2.1 in
      let x4 = (both (spares e m) _).0 x3.1 in
      let x5 = (both (spares f m) _).0 x4.1 in
      let x6 = (both (spares g m) _).0 x5.1 in
      let x7 = (both (spares h m) _).0 x6.1 in
      record {
        body = (ta m).0 x1.0;
        bit = (tb m).0 x2.0;
        order = (td m).0 x3.0;
        short = (te m).0 x4.0;
        segment = (tf m).0 x5.0;
        next = (tg m).0 x6.0;
        cut = (th m).0 x7.0;
      },
  λ k.
      let y7 = (both (spares h m) true).1 ((th m).1 k.cut, refl) in
      let y6 = (both (spares g m) _).1 ((tg m).1 k.next, y7) in
      let y5 = (both (spares f m) _).1 ((tf m).1 k.segment, y6) in
      let y4 = (both (spares e m) _).1 ((te m).1 k.short, y5) in
      let y3 = (both (spares d m) _).1 ((td m).1 k.order, y4) in
      let y2 = (both (spares b m) _).1 ((tb m).1 k.bit, y3) in
      (both (spares a m) _).1 ((ta m).1 k.body, y2),
)

-- the same where the type is known
pub element_keeps_by : (l : Line) (before : List Line) (kind : AsnType) → kind ≡ type_with l.tag → (a b d e f g h : Option Diagnostic) →
    Pins (λ m. HasBody m l.bit l.size kind l.contents) a → Pins (HasItsBit l.bit kind) b → Pins (HasOrder l.bit kind l.contents) d →
    Pins (HasShortLength l.tag l.bit l.header l.size) e → Pins (λ m. HasWantedTag before l) f → Pins (λ m. MayBeNext before l) g →
    Pins (IsCut l.bit l.size (is_string kind) l.contents) h → (m : BERMode) → IsTrue (spare_each (a ∷ b ∷ d ∷ e ∷ f ∷ g ∷ h ∷ []) m) ↔ Keeps m before l
element_keeps_by l before kind is a b d e f g h ta tb td te tf tg th =
    element_keeps l before a b d e f g h (subst (λ k. Pins (λ m. HasBody m l.bit l.size k l.contents) a) is ta)
    (subst (λ k. Pins (HasItsBit l.bit k) b) is tb) (subst (λ k. Pins (HasOrder l.bit k l.contents) d) is td) te tf tg
    (subst (λ k. Pins (IsCut l.bit l.size (is_string k) l.contents) h) is th)

-- ---- by the bit of an element

pub body_primitive : (bit : PCBit) (size : Option ℕ) (kind : AsnType) (c : List ℕ) (said : Option Diagnostic) → bit ≡ Primitive → DiagnosesOf kind c said →
    Pins (λ m. HasBody m bit size kind c) said
body_primitive bit size kind c said e x = subst (λ b. Pins (λ m. HasBody m b size kind c) said) (sym e) (contents_pin kind c said x)

pub body_constructed : (bit : PCBit) (size : Option ℕ) (kind : AsnType) (c : List ℕ) (said : Option Diagnostic) → bit ≡ Constructed →
    said ≡ (if is_some size then None else Some Indefinite) → Pins (λ m. HasBody m bit size kind c) said
body_constructed bit size kind c said e is =
    subst (λ b. Pins (λ m. HasBody m b size kind c) said) (sym e) (subst (Pins (λ m. m ≡ Der → IsSome size)) (sym is) (length_pins size))

pub bit_primitive : (bit : PCBit) (kind : AsnType) → bit ≡ Primitive → Pins (HasItsBit bit kind) None
bit_primitive bit kind e = subst (λ b. Pins (HasItsBit b kind) None) (sym e) always_parts

pub bit_constructed : (bit : PCBit) (kind : AsnType) (said : Option Diagnostic) → bit ≡ Constructed → said ≡ diagnostic_if_constructed kind →
    Pins (HasItsBit bit kind) said
bit_constructed bit kind said e is = subst (λ b. Pins (HasItsBit b kind) said) (sym e) (subst (Pins (MayHaveParts kind)) (sym is) (bit_pins kind))

pub order_primitive : (bit : PCBit) (kind : AsnType) (c : List ℕ) → bit ≡ Primitive → Pins (HasOrder bit kind c) None
order_primitive bit kind c e = subst (λ b. Pins (HasOrder b kind c) None) (sym e) always_parts

pub order_in_set : (bit : PCBit) (kind : AsnType) (c : List ℕ) (said : Option Diagnostic) → bit ≡ Constructed → is_set kind ≡ true → SaysOfOrder c said →
    Pins (HasOrder bit kind c) said
order_in_set bit kind c said e is x =
    subst (λ b. Pins (HasOrder b kind c) said) (sym e) (set_pins (λ m. AreInOrder m c) (is_set kind) said is (order_pins c said x))

pub order_in_no_set : (bit : PCBit) (kind : AsnType) (c : List ℕ) → bit ≡ Constructed → is_set kind ≡ false → Pins (HasOrder bit kind c) None
order_in_no_set bit kind c e is = subst (λ b. Pins (HasOrder b kind c) None) (sym e) (no_set_pins (λ m. AreInOrder m c) (is_set kind) is)
