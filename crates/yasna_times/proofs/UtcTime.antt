-- UTCTime: a text says one date-time.
use Rattle.std.proofs.Common.{◌≡◌, ℕ, zero, suc, ◌+◌, ◌/◌, ◌%◌, ◌<◌, List, [], ◌∷◌, ◌++◌, ℤ, pos, negsuc, ◌≤ℤ◌, ◌<ℤ◌, unsigned_abs, length, slice_index, false, arith, refl, sym, ◌∙◌, inl, inr, ap, subst}
use Rattle.std.proofs.lemmas.List.{ext_get_or}
use Rattle.std.proofs.lemmas.Bool.Decides.{nat_tests}
use Rattle.std.proofs.lemmas.Str.Ascii.{IsAscii-nil}
use Rattle.std.specs.Str.{IsAscii}
use Rattle.jiff.proofs.SpanFacts.{signed_arith}
use Rattle.jiff.specs.Types.{DateTime}
use Rattle.yasna_base.specs.declared.mode.BERMode.{BERMode}
use Rattle.yasna_base.specs.Canonical.{IsCanonicalMode}
use Rattle.yasna_base.specs.Digits.{IsBytes}
use Rattle.yasna_times.specs.Decimal.{HasDigits, IsRun, two_at}
use Rattle.yasna_times.specs.Moment.{IsLess, moment_at, after_year}
use Rattle.yasna_times.specs.UtcTime.{IsUtcZone, IsUtcClock, IsUtcText, IsUtcDateTime, HasUtcTime, SpellsUtcTime, utc_year, utc_text}
use Rattle.yasna_times.proofs.Decimal.{run_is, two_spelled, two_before, ascii_two, ascii_cons, ascii_bytes}
use Rattle.yasna_times.proofs.Moment.{clock_is, one_utc, less_none, IsShort, month_short, day_short, after_year_ascii, after_year_digits}
use Rattle.yasna_times.proofs.Zone.{utc_zone_head, utc_zone_is}

-- the digits of a text end with its clock
pub utc_run : (s : List ℕ) (utc : DateTime) (t : IsUtcText s utc) → IsRun s 0 t.end
utc_run s utc t =
    let h = utc_zone_head s t.end t.offset t.zone in
    record { order = omega arith; inside = omega (arith, h.inside); digits = t.clock.digits; stops = λ lt. h.no_digit }

pub utc_clock_is : (s : List ℕ) (p : ℕ) (a b : DateTime) → IsUtcClock s p a → IsUtcClock s p b → a ≡ b
utc_clock_is s p a b x y = clock_is a b _ _ _ _ _ _ _ x.date y.date x.time y.time

-- a text whose digits end at p has its zone and its clock there
pub zone_there : (s : List ℕ) (utc : DateTime) (p : ℕ) → IsRun s 0 p → (t : IsUtcText s utc) → IsUtcZone s p t.offset
zone_there s utc p r t = subst (λ i. IsUtcZone s i t.offset) (run_is s 0 t.end p (utc_run s utc t) r) t.zone

pub clock_there : (s : List ℕ) (utc : DateTime) (p : ℕ) → IsRun s 0 p → (t : IsUtcText s utc) → IsUtcClock s p t.local
clock_there s utc p r t = subst (λ i. IsUtcClock s i t.local) (run_is s 0 t.end p (utc_run s utc t) r) t.clock

-- what it says is the local date-time of this clock less the offset of this zone
pub has_utc : (s : List ℕ) (utc : DateTime) (p : ℕ) (local : DateTime) (offset : ℤ) → IsRun s 0 p → IsUtcClock s p local → IsUtcZone s p offset →
    IsUtcText s utc → HasUtcTime local offset
has_utc s utc p local offset r c z t =
    let l : t.local ≡ local = utc_clock_is s p t.local local (clock_there s utc p r t) c in
    let o : t.offset ≡ offset = utc_zone_is s p t.offset offset (zone_there s utc p r t) z in
    (utc, (t.in_range, subst (λ x. IsLess local x utc) o (subst (λ x. IsLess x t.offset utc) l t.less)))

-- a text says one date-time
pub utc_text_is : (s : List ℕ) (a b : DateTime) → IsUtcText s a → IsUtcText s b → a ≡ b
utc_text_is s a b t u =
    let r = utc_run s b u in
    one_utc t.local u.local a b t.offset u.offset
    (utc_clock_is s u.end t.local u.local (clock_there s a u.end r t) u.clock)
    (utc_zone_is s u.end t.offset u.offset (zone_there s a u.end r t) u.zone)
    t.less u.less

-- the year that the last two digits of a year tell
utc_year_is : (z : ℤ) → pos 1950 ≤ℤ z → z <ℤ pos 2050 → z ≡ pos (utc_year (unsigned_abs z % 100))
utc_year_is (pos n) low high = ap pos (grind (arith, nat_tests))
utc_year_is (negsuc n) low high = absurd (omega arith)

utc_short : (dt : DateTime) → IsShort (moment_at dt false [])
utc_short dt = record { hour = omega (arith, dt.time.hour_in); minute = omega (arith, dt.time.minute_in); second = omega (arith, dt.time.second_in) }

-- the canonical text is ASCII
pub utc_text_ascii : (dt : DateTime) → IsAscii (utc_text dt)
utc_text_ascii dt =
    let m = moment_at dt false [] in
    let end = ascii_cons 90 [] (omega arith) IsAscii-nil in
    ascii_two (unsigned_abs dt.date.year % 100) (after_year m ++ 90 ∷ []) (omega arith) (after_year_ascii m (90 ∷ []) (utc_short dt) end)

utc_text_digits : (dt : DateTime) → HasDigits (utc_text dt) 0 12
utc_text_digits dt =
    let m = moment_at dt false [] in
    two_before (unsigned_abs dt.date.year % 100) (after_year m ++ 90 ∷ []) 10 (omega arith) (after_year_digits m (90 ∷ []) (utc_short dt))

utc_text_clock : (dt : DateTime) → IsUtcDateTime dt → IsUtcClock (utc_text dt) 12 dt
utc_text_clock dt h =
    let year : unsigned_abs dt.date.year % 100 < 100 = omega arith in
    record {
      ends = inr refl;
      digits = utc_text_digits dt;
      date = (
        utc_year_is dt.date.year h.from h.to ∙ ap (λ y. pos (utc_year y)) (sym (two_spelled (unsigned_abs dt.date.year % 100) year)),
        ap pos (sym (two_spelled dt.date.month (month_short dt.date))),
        ap pos (sym (two_spelled dt.date.day (day_short dt.date))),
      );
      time = (
        ap pos (sym (two_spelled dt.time.hour (omega (arith, dt.time.hour_in)))),
        ap pos (sym (two_spelled dt.time.minute (omega (arith, dt.time.minute_in)))),
        ap pos (sym (two_spelled dt.time.second (omega (arith, dt.time.second_in)))),
        ap pos h.whole,
      );
    }

-- the canonical text says its date-time
pub utc_text_spells : (dt : DateTime) → IsUtcDateTime dt → IsUtcText (utc_text dt) dt
utc_text_spells dt h =
    record {
      end = 12;
      local = dt;
      clock = utc_text_clock dt h;
      offset = pos 0;
      zone = IsUtcZone.zulu (record { letter = refl; ends = refl }) refl;
      less = less_none dt;
      in_range = h;
    }

-- what the octets of a UTCTime say: one date-time
pub utc_spells_one : (m : BERMode) (v w : DateTime) (s : List ℕ) → SpellsUtcTime m v s → SpellsUtcTime m w s → v ≡ w
utc_spells_one m v w s x y = utc_text_is s v w x.text y.text

-- of the ranges of a UTCTime
pub utc_spells_can : (m : BERMode) (v : DateTime) (s : List ℕ) → SpellsUtcTime m v s → IsUtcDateTime v
utc_spells_can m v s x = x.text.in_range

-- a time is spelled by its canonical text in each mode
pub utc_spells_canonical : (m : BERMode) (v : DateTime) → IsUtcDateTime v → SpellsUtcTime m v (utc_text v)
utc_spells_canonical m v h = record { text = utc_text_spells v h; canonical = λ c. refl }

-- a time is spelled by no other text in a canonical mode
pub utc_spells_only : (m : BERMode) (v : DateTime) (s : List ℕ) → IsCanonicalMode m → SpellsUtcTime m v s → s ≡ utc_text v
utc_spells_only m v s c x = x.canonical c

pub utc_text_bytes : (v : DateTime) → IsBytes (utc_text v)
utc_text_bytes v = ascii_bytes (utc_text v) (utc_text_ascii v)

-- the digits of a pair are those of the number that it spells
pair_is : (s : List ℕ) (i n : ℕ) → HasDigits s 0 12 → i + 1 < 12 → n ≡ two_at s i →
    (slice_index s i ≡ 48 + n / 10) × (slice_index s (i + 1) ≡ 48 + n % 10)
pair_is s i n d h e =
    let p = d i (omega arith) (omega arith) in
    let q = d (i + 1) (omega arith) h in
    (omega (arith, p.0, p.1, q.0, q.1, e), omega (arith, p.0, p.1, q.0, q.1, e))

-- thirteen bytes: the pairs of digits of a date-time, and Z
record IsShown (s : List ℕ) (dt : DateTime) : Type 0 where
  digits : HasDigits s 0 12
  year : unsigned_abs dt.date.year % 100 ≡ two_at s 0
  month : dt.date.month ≡ two_at s 2
  day : dt.date.day ≡ two_at s 4
  hour : dt.time.hour ≡ two_at s 6
  minute : dt.time.minute ≡ two_at s 8
  second : dt.time.second ≡ two_at s 10
  letter : slice_index s 12 ≡ 90

shown_at : (s : List ℕ) (dt : DateTime) → IsShown s dt → (i : ℕ) → i < 13 → slice_index s i ≡ slice_index (utc_text dt) i
shown_at s dt h zero lt = (pair_is s 0 (unsigned_abs dt.date.year % 100) h.digits (omega arith) h.year).0
shown_at s dt h (suc zero) lt = (pair_is s 0 (unsigned_abs dt.date.year % 100) h.digits (omega arith) h.year).1
shown_at s dt h (suc (suc zero)) lt = (pair_is s 2 dt.date.month h.digits (omega arith) h.month).0
shown_at s dt h (suc (suc (suc zero))) lt = (pair_is s 2 dt.date.month h.digits (omega arith) h.month).1
shown_at s dt h (suc (suc (suc (suc zero)))) lt = (pair_is s 4 dt.date.day h.digits (omega arith) h.day).0
shown_at s dt h (suc (suc (suc (suc (suc zero))))) lt = (pair_is s 4 dt.date.day h.digits (omega arith) h.day).1
shown_at s dt h (suc (suc (suc (suc (suc (suc zero)))))) lt = (pair_is s 6 dt.time.hour h.digits (omega arith) h.hour).0
shown_at s dt h (suc (suc (suc (suc (suc (suc (suc zero))))))) lt = (pair_is s 6 dt.time.hour h.digits (omega arith) h.hour).1
shown_at s dt h (suc (suc (suc (suc (suc (suc (suc (suc zero)))))))) lt = (pair_is s 8 dt.time.minute h.digits (omega arith) h.minute).0
shown_at s dt h (suc (suc (suc (suc (suc (suc (suc (suc (suc zero))))))))) lt = (pair_is s 8 dt.time.minute h.digits (omega arith) h.minute).1
shown_at s dt h (suc (suc (suc (suc (suc (suc (suc (suc (suc (suc zero)))))))))) lt = (pair_is s 10 dt.time.second h.digits (omega arith) h.second).0
shown_at s dt h (suc (suc (suc (suc (suc (suc (suc (suc (suc (suc (suc zero))))))))))) lt = (pair_is s 10 dt.time.second h.digits (omega arith) h.second).1
shown_at s dt h (suc (suc (suc (suc (suc (suc (suc (suc (suc (suc (suc (suc zero)))))))))))) lt = h.letter
shown_at s dt h (suc (suc (suc (suc (suc (suc (suc (suc (suc (suc (suc (suc (suc i))))))))))))) lt = absurd (omega arith)

year_back : (y : ℕ) → y < 100 → utc_year y % 100 ≡ y
year_back y h = grind (arith, nat_tests)

-- a text of thirteen bytes is the canonical one
pub utc_thirteen : (s : List ℕ) (utc : DateTime) → IsUtcText s utc → length s ≡ 13 → s ≡ utc_text utc
utc_thirteen s utc t l =
    elim t.zone [
      | IsUtcZone.zulu z o ↦
          let e : t.end ≡ 12 = omega (arith, z.ends) in
          let c : IsUtcClock s 12 t.local = subst (λ i. IsUtcClock s i t.local) e t.clock in
          let low = c.digits 0 (omega arith) (omega arith) in
          let high = c.digits 1 (omega arith) (omega arith) in
          let small : two_at s 0 < 100 = omega (arith, low.0, low.1, high.0, high.1) in
          let same : utc ≡ t.local = one_utc t.local t.local utc t.local t.offset (pos 0) refl o t.less (less_none t.local) in
          let shown : IsShown s t.local = record {
            digits = c.digits;
            year = ap (λ z. unsigned_abs z % 100) c.date.0 ∙ year_back (two_at s 0) small;
            month = omega (arith, signed_arith, c.date.1);
            day = omega (arith, signed_arith, c.date.2);
            hour = omega (arith, signed_arith, c.time.0);
            minute = omega (arith, signed_arith, c.time.1);
            second = omega (arith, signed_arith, c.time.2);
            letter = subst (λ i. slice_index s i ≡ 90) e z.letter;
          } in
          ext_get_or 0 s (utc_text t.local) l (λ i lt. shown_at s t.local shown i (omega (arith, l))) ∙ ap utc_text (sym same)
      | IsUtcZone.signed seconds m o ↦ absurd (elim t.clock.ends [
        | inl e ↦ omega (arith, m.ends)
        | inr e ↦ omega (arith, m.ends)
      ])
    ]
