-- What diagnostics report of contents.
use Rattle.std.proofs.Common.{◌≡◌, ◌↔◌, inl, inr, ℕ, List, [], ◌∷◌, get_or, refl, ap, ◌∙◌, sym, subst, arith, Bool, true, false, cond, Option, Some, None, pos}
use Rattle.std.specs.Prelude.{IsTrue, MatchOption, is_some, if◌then◌else◌}
use Rattle.yasna_base.specs.declared.mode.BERMode.{BERMode}
use Rattle.yasna_base.specs.declared.mode.BERMode.TheVariants.{Ber, Der, Cer}
use Rattle.yasna_base.specs.Boolean.{EncodesTrue, IsBoolean, encodes_false, encodes_true}
use Rattle.yasna_base.specs.Canonical.{IsCanonicalMode}
use Rattle.yasna_base.specs.Digits.{IsBytes}
use Rattle.yasna_times.specs.GeneralizedTime.{IsGeneralText, general_text}
use Rattle.yasna_times.specs.Models.{DateTime, utc_of, moment_of}
use Rattle.yasna_times.specs.Moment.{Moment}
use Rattle.yasna_times.specs.UtcTime.{IsUtcText, SpellsUtcTime, utc_text}
use Rattle.yasna_times.specs.declared.models.generalized_time.GeneralizedTime.{GeneralizedTime}
use Rattle.yasna_times.specs.declared.models.utc_time.UTCTime.{UTCTime}
use Rattle.yasna_times.proofs.GeneralText.{general_spells_one}
use Rattle.yasna_times.proofs.UtcTime.{utc_spells_one}
use Rattle.asn1show_printer.specs.Contents.{AreOfKind, IsLocalTime, InNone, OnlyInBer, DiagnosesOf, is_of_ber, is_of_canonical}
use Rattle.asn1show_printer.specs.Conformance.{excludes}
use Rattle.asn1show_printer.specs.declared.asn_type.Characters.{Characters}
use Rattle.asn1show_printer.specs.declared.asn_type.AsnType.{AsnType}
use Rattle.asn1show_printer.specs.declared.asn_type.AsnType.TheVariants.{Boolean, GeneralizedTime as OfGeneralizedTime, Text, UtcTime as OfUtcTime, Whole}
use Rattle.asn1show_printer.specs.declared.diagnostic.Diagnostic.{Diagnostic}
use Rattle.asn1show_printer.specs.declared.diagnostic.Diagnostic.TheVariants.{Truth, Time, Local, NoTime}

-- ---- BOOLEAN

all_ones : (m : BERMode) → EncodesTrue m 255
all_ones Ber = λ e. omega (arith, e)
all_ones Der = refl
all_ones Cer = refl

only_ones : (m : BERMode) (x : ℕ) → IsCanonicalMode m → EncodesTrue m x → x ≡ 255
only_ones Ber x can h = absurd can
only_ones Der x can h = h
only_ones Cer x can h = h

other_truth : (m : BERMode) (v : Bool) (x : ℕ) → IsCanonicalMode m → (x ≡ 0 → ⊥) → (x ≡ 255 → ⊥) → IsBoolean m v (x ∷ []) → ⊥
other_truth m v x can some other (encodes_false e f) = some (ap (λ z. get_or z 0 0) f)
other_truth m v x can some other (encodes_true y s b e f) = other (ap (λ z. get_or z 0 0) f ∙ only_ones m y can s)

pub truth_diagnosed : (x : ℕ) → IsBytes (x ∷ []) → (x ≡ 0 → ⊥) → (b : Bool) → (b ≡ true → x ≡ 255) → (b ≡ false → x ≡ 255 → ⊥) →
    DiagnosesOf Boolean (x ∷ []) (cond b None (Some Truth))
truth_diagnosed x bytes some true f g = λ m. (true, encodes_true x (subst (EncodesTrue m) (sym (f refl)) (all_ones m)) bytes refl refl)
truth_diagnosed x bytes some false f g = record {
  here = (true, encodes_true x some bytes refl refl);
  not_there = λ m can w. other_truth m w.0 x can some (g refl) w.1;
}

-- ---- contents that conform to each mode or to none

pub none_or_all : (kind : AsnType) (H : Type 0) (s : List ℕ) → ((m : BERMode) → H → AreOfKind kind m s) → ((m : BERMode) → AreOfKind kind m s → H) →
    (b : Bool) → (IsTrue b ↔ H) → (d : Diagnostic) → ((m : BERMode) → excludes d m ≡ true) → DiagnosesOf kind s (cond b None (Some d))
none_or_all kind H s f g true h d is = λ m. f m (h.0 refl)
none_or_all kind H s f g false h d is = rw (is Der) (rw (is Cer) (rw (is Ber) (λ m w. let k = h.1 (g m w) in absurd (cc))))

-- ---- UTCTime

in_ber_utc : (s : List ℕ) (utc : DateTime) → IsUtcText s utc → SpellsUtcTime Ber utc s
in_ber_utc s utc text = record { text = text; canonical = λ k. absurd k }

pub utc_diagnosed : (s : List ℕ) (t : UTCTime) → IsUtcText s (utc_of t) → (b : Bool) → (IsTrue b ↔ s ≡ utc_text (utc_of t)) →
    DiagnosesOf OfUtcTime s (cond b None (Some Time))
utc_diagnosed s t text true h = λ m. (t, record { text = text; canonical = λ can. h.0 refl })
utc_diagnosed s t text false h = record {
  here = (t, in_ber_utc s (utc_of t) text);
  not_there = λ m can w.
      let same = utc_spells_one Ber (utc_of w.0) (utc_of t) s (in_ber_utc s (utc_of w.0) w.1.text) (in_ber_utc s (utc_of t) text) in
      let is = h.1 (w.1.canonical can ∙ ap utc_text same) in
      absurd (cc);
}

pub no_utc_diagnosed : (s : List ℕ) → ((t : UTCTime) → IsUtcText s (utc_of t) → ⊥) → DiagnosesOf OfUtcTime s (Some NoTime)
no_utc_diagnosed s none = λ m w. none w.0 w.1.text

-- ---- GeneralizedTime

not_local : (m : BERMode) (s : List ℕ) → IsCanonicalMode m → IsLocalTime m s → ⊥
not_local Ber s can x = absurd can
not_local Der s can x = x
not_local Cer s can x = x

local_text : (m : BERMode) (s : List ℕ) → IsLocalTime m s → (v : Moment) × IsGeneralText s (Some (pos 0)) v
local_text Ber s x = x
local_text Der s x = absurd x
local_text Cer s x = absurd x

not_canonical : (s : List ℕ) (v : Moment) → IsGeneralText s None v → (IsTrue false ↔ s ≡ general_text v) → (m : BERMode) → IsCanonicalMode m →
    AreOfKind OfGeneralizedTime m s → ⊥
not_canonical s v text h m can (inl w) =
    let same = general_spells_one Ber w.0 v s (record { text = w.1.text; canonical = λ k. absurd k }) (record { text = text; canonical = λ k. absurd k }) in
    let is = h.1 (w.1.canonical can ∙ ap general_text same) in
    absurd (cc)
not_canonical s v text h m can (inr w) = not_local m s can w

pub general_diagnosed : (s : List ℕ) (v : Moment) → IsGeneralText s None v → (b : Bool) → (IsTrue b ↔ s ≡ general_text v) →
    DiagnosesOf OfGeneralizedTime s (cond b None (Some Time))
general_diagnosed s v text true h = λ m. inl (v, record { text = text; canonical = λ can. h.0 refl })
general_diagnosed s v text false h = record {
  here = inl (v, record { text = text; canonical = λ can. absurd can });
  not_there = λ m can w. not_canonical s v text h m can w;
}

pub local_diagnosed : (s : List ℕ) (v : Moment) → ((m : Moment) → IsGeneralText s None m → ⊥) → IsGeneralText s (Some (pos 0)) v →
    DiagnosesOf OfGeneralizedTime s (Some Local)
local_diagnosed s v none text = record {
  here = inr (v, text);
  not_there = λ m can w. elim w [ inl x ↦ none x.0 x.1.text | inr x ↦ not_local m s can x ];
}

pub no_general_diagnosed : (s : List ℕ) → ((m : Moment) → IsGeneralText s None m → ⊥) → ((m : Moment) → IsGeneralText s (Some (pos 0)) m → ⊥) →
    DiagnosesOf OfGeneralizedTime s (Some NoTime)
no_general_diagnosed s none other = λ m w. elim w [ inl x ↦ none x.0 x.1.text | inr x ↦ other (local_text m s x).0 (local_text m s x).1 ]

-- what is reported of a text that is no time in UTC, by what it is where it has no zone
pub other_diagnosed : (s : List ℕ) → ((m : Moment) → IsGeneralText s None m → ⊥) → (local : Option GeneralizedTime) →
    MatchOption local ((m : Moment) → IsGeneralText s (Some (pos 0)) m → ⊥) (λ t. IsGeneralText s (Some (pos 0)) (moment_of t)) →
    DiagnosesOf OfGeneralizedTime s (if is_some local then Some Local else Some NoTime)
other_diagnosed s none None h = no_general_diagnosed s none h
other_diagnosed s none (Some t) h = local_diagnosed s (moment_of t) none h

-- ---- texts that are always primitive

whole_by : (x : Characters) (c : List ℕ) (canonical b : Bool) →
    cond canonical (cond b (InNone (AreOfKind (Text x)) c) (OnlyInBer (AreOfKind (Text x)) c)) ⊥ →
    cond canonical (cond b (InNone (AreOfKind (Whole x)) c) (OnlyInBer (AreOfKind (Whole x)) c)) ⊥
whole_by x c true true d = d
whole_by x c true false d = record { here = d.here; not_there = d.not_there }
whole_by x c false b d = absurd d

-- what is reported of a text's characters doesn't depend on whether it may be cut into segments
pub whole_diagnosed : (x : Characters) (c : List ℕ) (r : Option Diagnostic) → DiagnosesOf (Text x) c r → DiagnosesOf (Whole x) c r
whole_diagnosed x c None d = d
whole_diagnosed x c (Some r) d = whole_by x c (is_of_canonical r) (is_of_ber r) d
