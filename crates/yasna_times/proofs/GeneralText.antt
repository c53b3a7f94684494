-- GeneralizedTime: the canonical text of a moment says it.
use Rattle.std.proofs.Common.{◌≡◌, ℕ, ◌+◌, ◌-◌, ◌*◌, ◌/◌, ◌%◌, ◌<◌, ◌≤◌, ◌==◌, if◌then◌else◌, List, [], ◌∷◌, ◌++◌, ℤ, pos, negsuc, ◌≤ℤ◌, unsigned_abs}
use Rattle.std.proofs.Common.{Bool, true, false, Option, None, length, length-append, get_or, take, arith, refl, sym, ◌∙◌, inl, inr, ap, subst}
use Rattle.std.proofs.Math.ListN.{get_or-append}
use Rattle.std.proofs.Math.Seq.{get_or-append_seam, get_or-append_right, take-append_seam}
use Rattle.std.proofs.lemmas.Bool.Decides.{nat_tests}
use Rattle.std.proofs.lemmas.Str.{IsAscii-append}
use Rattle.std.proofs.lemmas.Str.Ascii.{IsAscii-nil}
use Rattle.std.specs.Str.{IsAscii}
use Rattle.jiff.specs.Types.{DateTime}
use Rattle.yasna_base.specs.declared.mode.BERMode.{BERMode}
use Rattle.yasna_base.specs.Canonical.{IsCanonicalMode}
use Rattle.yasna_base.specs.Digits.{IsBytes}
use Rattle.yasna_times.specs.Decimal.{AreDigits, HasDigits, two_at, two_digits}
use Rattle.yasna_times.specs.Fraction.{IsReducedFraction}
use Rattle.yasna_times.specs.GeneralizedTime.{IsPart, IsZone, IsLayout, IsGeneralClock, IsGeneralText, IsGeneralMoment, SpellsGeneralizedTime, is_leap, part_digits, point_digits, clock_digits, general_text}
use Rattle.yasna_times.specs.Moment.{Moment, moment_at, after_year}
use Rattle.yasna_base.specs.Text.{IsDigit}
use Rattle.yasna_times.proofs.Decimal.{two_spelled, two_before, ascii_cons, ascii_two, ascii_bytes}
use Rattle.yasna_times.proofs.Fraction.{first_digit, later_digits}
use Rattle.yasna_times.proofs.GeneralizedTime.{general_text_is}
use Rattle.yasna_times.proofs.Moment.{IsShort, less_none, month_short, day_short, century_short, after_year_ascii, after_year_digits}

digits_ascii : (ds : List ℕ) → AreDigits ds → IsAscii ds
digits_ascii [] d = IsAscii-nil
digits_ascii (c ∷ ds) d = let h = first_digit c ds d in ascii_cons c ds (omega (arith, h)) (digits_ascii ds (later_digits c ds d))

tail_ascii : (f : List ℕ) → AreDigits f → IsAscii (point_digits f ++ 90 ∷ [])
tail_ascii [] d = ascii_cons 90 [] (omega arith) IsAscii-nil
tail_ascii (c ∷ f) d =
    ascii_cons 46 ((c ∷ f) ++ 90 ∷ []) (omega arith)
    (IsAscii-append (c ∷ f) (90 ∷ []) (digits_ascii (c ∷ f) d) (ascii_cons 90 [] (omega arith) IsAscii-nil))

pub short : (m : Moment) → IsGeneralMoment m → IsShort m
short m h = record { hour = omega (arith, h.hour); minute = omega (arith, h.minute); second = omega (arith, h.second) }

-- the canonical text is ASCII
pub general_text_ascii : (m : Moment) → IsGeneralMoment m → IsAscii (general_text m)
general_text_ascii m h =
    let tail = point_digits m.fraction ++ 90 ∷ [] in
    let years = unsigned_abs m.date.year % 100 in
    ascii_two (unsigned_abs m.date.year / 100) (two_digits years ++ (after_year m ++ tail)) (century_short m.date)
    (ascii_two years (after_year m ++ tail) (omega arith) (after_year_ascii m tail (short m h) (tail_ascii m.fraction h.digits)))

-- the text of a moment with other digits
abbrev text_with : Moment → List ℕ → List ℕ
text_with m f = clock_digits m ++ (point_digits f ++ 90 ∷ [])

clock_digits_there : (m : Moment) (f : List ℕ) → IsShort m → HasDigits (text_with m f) 0 14
clock_digits_there m f h =
    let tail = point_digits f ++ 90 ∷ [] in
    let years = unsigned_abs m.date.year % 100 in
    two_before (unsigned_abs m.date.year / 100) (two_digits years ++ (after_year m ++ tail)) 12 (century_short m.date)
    (two_before years (after_year m ++ tail) 10 (omega arith) (after_year_digits m tail h))

-- the layout of a text, and its digits
record HasLayout (s : List ℕ) (given : Option ℤ) (f : List ℕ) : Type 0 where
  zone : ℕ
  layout : IsLayout s given 14 zone (pos 0)
  digits : part_digits s 14 zone ≡ f

text_length : (m : Moment) (f : List ℕ) → length (text_with m f) ≡ 14 + length (point_digits f ++ 90 ∷ [])
text_length m f = length-append (clock_digits m) (point_digits f ++ 90 ∷ [])

has_layout : (m : Moment) (f : List ℕ) (given : Option ℤ) → IsShort m → AreDigits f → HasLayout (text_with m f) given f
has_layout m [] given h d =
    record {
      zone = 14;
      layout =
          record {
            ends = inr (inr refl);
            clock = record {
              order = omega arith;
              inside = omega (arith, text_length m []);
              digits = clock_digits_there m [] h;
              stops = λ lt e. omega (arith, e);
            };
            part = IsPart.none refl;
            at_end = IsZone.zulu (record { letter = refl; ends = refl }) refl;
          };
      digits = refl;
    }
has_layout m (c ∷ cs) given h d =
    let f : List ℕ = c ∷ cs in
    let s : List ℕ = text_with m f in
    let n : ℕ = length f in
    let prefix : List ℕ = clock_digits m ++ 46 ∷ [] in
    let back : List ℕ = f ++ 90 ∷ [] in
    let some : 0 < n = omega arith in
    let whole : length s ≡ 16 + n = omega (arith, text_length m f, length-append f (90 ∷ [])) in
    let later : (k : ℕ) → 15 ≤ k → get_or s k 0 ≡ get_or back (k - 15) 0 = λ k le. get_or-append_right prefix back k 0 le in
    let last : 15 + n - 15 ≡ n = omega arith in
    let zed : get_or s (15 + n) 0 ≡ 90 = later (15 + n) (omega arith) ∙ ap (λ k. get_or back k 0) last ∙ get_or-append_seam f 90 [] 0 in
    record {
      zone = 15 + n;
      layout =
          record {
            ends = inr (inr refl);
            clock = record { order = omega arith; inside = omega (arith, whole); digits = clock_digits_there m f h; stops = λ lt e. omega (arith, e) };
            part =
                IsPart.some (inl refl) (omega (arith, some))
                (record {
                  order = omega arith;
                  inside = omega (arith, whole);
                  digits = λ k low high.
                      let lt : k - 15 < n = omega arith in
                      subst IsDigit (sym (later k low ∙ get_or-append f (90 ∷ []) 0 (k - 15) lt)) (d (k - 15) lt);
                  stops = λ lt e. let x = subst IsDigit zed e in omega (arith, x);
                });
            at_end = IsZone.zulu (record { letter = zed; ends = omega (arith, whole) }) refl;
          };
      digits = ap (λ k. take k back) last ∙ take-append_seam f (90 ∷ []);
    }

-- second 60 is kept as the one before
abbrev clock_second : ℕ → ℕ
clock_second second = if second == 60 then 59 else second

second_below : (second : ℕ) → second ≤ 60 → clock_second second < 60
second_below second h = grind (arith, nat_tests)

second_again : (second : ℕ) → second ≡ (if second == 60 then 60 else clock_second second)
second_again second = grind (arith, nat_tests)

date_time : (m : Moment) → IsGeneralMoment m → DateTime
date_time m h =
    record {
      date = m.date;
      time =
          record {
            hour = m.hour;
            minute = m.minute;
            second = clock_second m.second;
            subsec_nanosecond = 0;
            hour_in = h.hour;
            minute_in = h.minute;
            second_in = second_below m.second h.second;
            subsec_in = omega arith;
          };
    }

year_again : (z : ℤ) → pos 0 ≤ℤ z → z ≡ pos (unsigned_abs z / 100 * 100 + unsigned_abs z % 100)
year_again (pos n) h = let e : n ≡ n / 100 * 100 + n % 100 = omega arith in ap pos e
year_again (negsuc n) h = absurd (omega arith)

text_clock : (m : Moment) (h : IsGeneralMoment m) → IsGeneralClock (general_text m) 14 0 (date_time m h)
unfolding date_time
text_clock m h =
    let century = two_spelled (unsigned_abs m.date.year / 100) (century_short m.date) in
    let years = two_spelled (unsigned_abs m.date.year % 100) (omega arith) in
    let second = two_spelled m.second (omega (arith, h.second)) in
    record {
      date = (
        year_again m.date.year h.in_years ∙ ap (λ n. pos (n * 100 + unsigned_abs m.date.year % 100)) (sym century)
            ∙ ap (λ n. pos (two_at (general_text m) 0 * 100 + n)) (sym years),
        ap pos (sym (two_spelled m.date.month (month_short m.date))),
        ap pos (sym (two_spelled m.date.day (day_short m.date))),
      );
      time = (
        ap pos (sym (two_spelled m.hour (omega (arith, h.hour)))),
        ap pos (sym (two_spelled m.minute (omega (arith, h.minute)))),
        ap (λ n. pos (clock_second n)) (sym second),
        refl,
      );
    }

-- the canonical text says its moment
pub general_text_spells : (m : Moment) → IsGeneralMoment m → (given : Option ℤ) → IsGeneralText (general_text m) given m
unfolding date_time
general_text_spells m h given =
    let l = has_layout m m.fraction given (short m h) h.digits in
    let second = two_spelled m.second (omega (arith, h.second)) in
    let exact : IsReducedFraction 1 m.fraction 0 m.fraction = record { equation = omega arith; below = omega arith; digits = h.digits; trimmed = h.trimmed } in
    record {
      end = 14;
      zone = l.zone;
      offset = pos 0;
      layout = l.layout;
      seconds = 0;
      exact = subst (λ (ds : List ℕ). IsReducedFraction 1 ds 0 m.fraction) (sym l.digits) exact;
      utc = date_time m h;
      reading = record { local = date_time m h; clock = text_clock m h; less = less_none (date_time m h); in_years = h.in_years; whole = λ e. refl };
      is = ap (λ (s : ℕ). record { date = m.date; hour = m.hour; minute = m.minute; second = s; fraction = m.fraction })
          (second_again m.second ∙ ap (λ n. if n == 60 then 60 else clock_second m.second) (sym second));
    }

at_most_60 : (leap : Bool) (second : ℕ) → second < 60 → (if leap then 60 else second) ≤ 60
at_most_60 true second h = omega arith
at_most_60 false second h = omega arith

-- a text says a moment of these ranges
pub general_ranges : (s : List ℕ) (given : Option ℤ) (m : Moment) → IsGeneralText s given m → IsGeneralMoment m
general_ranges s given m t =
    let leap = is_leap s t.end in
    let here : IsGeneralMoment (moment_at t.utc leap m.fraction) =
    record {
      in_years = t.reading.in_years;
      hour = t.utc.time.hour_in;
      minute = t.utc.time.minute_in;
      second = at_most_60 leap t.utc.time.second t.utc.time.second_in;
      digits = t.exact.digits;
      trimmed = t.exact.trimmed;
    } in
    subst IsGeneralMoment (sym t.is) here

-- what the octets of a GeneralizedTime say: one moment
pub general_spells_one : (m : BERMode) (v w : Moment) (s : List ℕ) → SpellsGeneralizedTime m v s → SpellsGeneralizedTime m w s → v ≡ w
general_spells_one m v w s x y = general_text_is s None v w x.text y.text

-- of the ranges of a GeneralizedTime
pub general_spells_can : (m : BERMode) (v : Moment) (s : List ℕ) → SpellsGeneralizedTime m v s → IsGeneralMoment v
general_spells_can m v s x = general_ranges s None v x.text

-- a time is spelled by its canonical text in each mode
pub general_spells_canonical : (m : BERMode) (v : Moment) → IsGeneralMoment v → SpellsGeneralizedTime m v (general_text v)
general_spells_canonical m v h = record { text = general_text_spells v h None; canonical = λ c. refl }

-- a time is spelled by no other text in a canonical mode
pub general_spells_only : (m : BERMode) (v : Moment) (s : List ℕ) → IsCanonicalMode m → SpellsGeneralizedTime m v s → s ≡ general_text v
general_spells_only m v s c x = x.canonical c

pub general_text_bytes : (v : Moment) → IsGeneralMoment v → IsBytes (general_text v)
general_text_bytes v h = ascii_bytes (general_text v) (general_text_ascii v h)
