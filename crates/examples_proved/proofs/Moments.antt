-- Times that are made of the parts of others.
use Rattle.std.proofs.Common.{◌≡◌, ◌∙◌, ◌<◌, ap, refl, ℕ, ◌+◌, ◌/◌, ◌%◌, List, pos, Bool, true, false, [], ◌∷◌, ◌++◌, ◌==◌, if◌then◌else◌, arith}
use Rattle.std.proofs.lemmas.Bool.Decides.{nat_tests}
use Rattle.std.proofs.lemmas.Int.{ints}
use Rattle.yasna.specs.time.declared.models.generalized_time.GeneralizedTime.{GeneralizedTime}
use Rattle.yasna.specs.time.Fraction.{nine_digits, trimmed}
use Rattle.yasna.specs.time.GeneralizedTime.{IsInYears}
use Rattle.yasna.specs.Words.{moment_of}
use Rattle.yasna.specs.time.Models.{DateTime, IsTimeAt}
use Rattle.yasna.specs.time.Moment.{IsLess, moment, moment_at}
use Rattle.yasna.specs.time.UtcTime.{IsUtcDateTime}
use Rattle.yasna.proofs.time.Fraction.{trimmed_is}
use Rattle.yasna.proofs.time.Moment.{one_utc, less_none}
use Rattle.examples_proved.specs.Times.{to_the_second, with_second_59, four_digits, with_tenths}

-- a date-time less nothing is itself
pub less_nothing : (a b : DateTime) → IsLess a (pos 0) b → b ≡ a
less_nothing a b h = one_utc a a b a (pos 0) (pos 0) refl refl h (less_none a)

-- a date-time of a UTCTime is in the years of a GeneralizedTime
pub in_years : (dt : DateTime) → IsUtcDateTime dt → IsInYears dt
in_years dt h = omega (arith, ints, h.from)

-- times of the same parts have one moment
same_parts : (t : GeneralizedTime) (utc : DateTime) (digits : List ℕ) → t.datetime ≡ utc → t.sub_nano.items ≡ digits → t.is_leap_second ≡ false →
    moment_of t ≡ moment utc digits false
same_parts t utc digits d s f = cc

-- a time of a whole second
pub at_second : (utc : DateTime) (t : GeneralizedTime) → utc.time.subsec_nanosecond ≡ 0 → IsTimeAt utc (pos 0) [] t → moment_of t ≡ to_the_second utc
at_second utc t whole h =
    same_parts t utc [] (less_nothing utc t.datetime h.less) h.digits h.flag ∙ ap (λ n. moment_at utc false (trimmed (nine_digits n ++ []))) whole

second_59 : (leap : Bool) (s : ℕ) → s < 60 → (leap ≡ true → s ≡ 59) →
    s ≡ (if (if leap then 60 else s) == 60 then 59 else (if leap then 60 else s))
second_59 true s below h = h refl
second_59 false s below h = grind (arith, nat_tests)

-- a time without its flag of second 60
pub unflagged : (t u : GeneralizedTime) → IsTimeAt t.datetime (pos 0) (trimmed t.sub_nano.items) u → moment_of u ≡ with_second_59 (moment_of t)
unflagged t u h =
    let m = moment_of t in
    let second = second_59 t.is_leap_second t.datetime.time.second t.datetime.time.second_in t.flagged in
    same_parts u t.datetime t.sub_nano.items (less_nothing t.datetime u.datetime h.less) (h.digits ∙ trimmed_is t.sub_nano.items t.trimmed) h.flag
    ∙ ap (λ s. record { date = m.date; hour = m.hour; minute = m.minute; second = s; fraction = m.fraction }) second

-- four digits by their numbers
pub four_of : (n a b c d : ℕ) (ds : List ℕ) → a ≡ 48 + n / 1000 % 10 → b ≡ 48 + n / 100 % 10 → c ≡ 48 + n / 10 % 10 → d ≡ 48 + n % 10 →
    ds ≡ a ∷ b ∷ c ∷ d ∷ [] → ds ≡ four_digits n
four_of n a b c d ds ea eb ec ed e = cc

-- a time of tenths of a picosecond
pub at_tenths : (utc : DateTime) (tenths : ℕ) (t : GeneralizedTime) → IsTimeAt utc (pos 0) (trimmed (four_digits tenths)) t →
    moment_of t ≡ with_tenths utc tenths
at_tenths utc tenths t h =
    same_parts t utc (trimmed (four_digits tenths)) (less_nothing utc t.datetime h.less) h.digits h.flag
