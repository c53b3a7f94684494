-- Contents, and those in DER of the same value.
use Rattle.std.proofs.Common.{◌≡◌, ◌↔◌, ℕ, ℤ, List, None, refl, sym, ap, ◌∙◌, subst}
use Rattle.std.specs.List.{AllByRecursion}
use Rattle.std.specs.Char.Utf16.{utf16_lossy_chars}
use Rattle.std.specs.Str.{IsUtf8, chars}
use Rattle.yasna_base.specs.Digits.{IsBytes}
use Rattle.yasna_base.specs.Integer.{IsInteger, IsMinimal, twos}
use Rattle.yasna_base.specs.Text.{InNumeric, InPrintable, InIa5, InVisible, units}
use Rattle.yasna_base.specs.declared.mode.BERMode.{BERMode}
use Rattle.yasna_base.specs.declared.mode.BERMode.TheVariants.{Ber, Der}
use Rattle.yasna_base.proofs.Texts.{class_means, class_only, utf8_means, utf8_only, numeric_below, printable_below, ia5_below, visible_below}
use Rattle.yasna_bytes.specs.Text.{MayHold}
use Rattle.yasna_bytes.specs.declared.bytes.text.Class.TheVariants.{Utf8, Numeric, Printable, Ia5, Visible, Bmp}
use Rattle.yasna_times.specs.GeneralizedTime.{IsGeneralText, SpellsGeneralizedTime, general_text}
use Rattle.yasna_times.specs.Models.{DateTime}
use Rattle.yasna_times.specs.Moment.{Moment}
use Rattle.yasna_times.specs.UtcTime.{IsUtcText, SpellsUtcTime, utc_text}
use Rattle.yasna_times.proofs.GeneralText.{general_spells_one, general_spells_can, general_spells_canonical, general_spells_only, general_text_bytes}
use Rattle.yasna_times.proofs.UtcTime.{utc_spells_one, utc_spells_can, utc_spells_canonical, utc_spells_only, utc_text_bytes}
use Rattle.asn1_contents.specs.Contents.{ArePlain, HasContents, IsTextOf, IsPlainOf, IsUtcTimeOf, IsGeneralizedTimeOf}
use Rattle.asn1_contents.specs.Laws.{ContentsAreExact}
use Rattle.asn1_contents.specs.declared.contents_type.ContentsType.{ContentsType}
use Rattle.asn1_contents.specs.declared.contents_type.ContentsType.TheVariants.{Number, Nothing, Subidentifiers, Text, UtcTime, GeneralizedTime, Octets}

-- ---- plain contents

-- octets are a number in the fewest exactly if they are minimal
pub number_is : (c : List ℕ) → IsBytes c → IsMinimal c ↔ ((z : ℤ) × IsInteger z c)
number_is c bytes = (λ h. (twos c, record { in_bytes = bytes; minimal = h; number = refl }), λ x. x.1.minimal)

-- octets are a text exactly if the class may hold them, and in UTF-8 if they are well formed
pub text_is : (c : List ℕ) → IsUtf8 c ↔ IsTextOf Utf8 c
text_is c = (λ h. (chars c, utf8_means Der c h), λ x. (utf8_only _ Der x.0 c x.1).0)

pub numeric_is : (c : List ℕ) → AllByRecursion InNumeric c ↔ IsTextOf Numeric c
numeric_is c = (λ h. (c, class_means InNumeric numeric_below Der c h), λ x. (class_only InNumeric numeric_below Der x.0 c x.1).1)

pub printable_is : (c : List ℕ) → AllByRecursion InPrintable c ↔ IsTextOf Printable c
printable_is c = (λ h. (c, class_means InPrintable printable_below Der c h), λ x. (class_only InPrintable printable_below Der x.0 c x.1).1)

pub ia5_is : (c : List ℕ) → AllByRecursion InIa5 c ↔ IsTextOf Ia5 c
ia5_is c = (λ h. (c, class_means InIa5 ia5_below Der c h), λ x. (class_only InIa5 ia5_below Der x.0 c x.1).1)

pub visible_is : (c : List ℕ) → AllByRecursion InVisible c ↔ IsTextOf Visible c
visible_is c = (λ h. (c, class_means InVisible visible_below Der c h), λ x. (class_only InVisible visible_below Der x.0 c x.1).1)

pub bmp_is : (c : List ℕ) → MayHold Bmp c ↔ IsTextOf Bmp c
bmp_is c = (λ h. (utf16_lossy_chars (units c), record { even = h; spelled = refl }), λ x. x.1.even)

-- what one test says, and another of it
pub both : {P Q R : Type 0} → P ↔ Q → Q ↔ R → P ↔ R
both f g = (λ p. g.0 (f.0 p), λ r. f.1 (g.1 r))

-- plain contents are their own in DER
pub plain_has : (k : ContentsType) (s c : List ℕ) → s ≡ c → ArePlain k s → HasContents k Ber c c
plain_has UtcTime s c e x = absurd x
plain_has GeneralizedTime s c e x = absurd x
plain_has Number s c e x = record { same = refl; plain = subst (ArePlain Number) e x }
plain_has Nothing s c e x = record { same = refl; plain = subst (ArePlain Nothing) e x }
plain_has Subidentifiers s c e x = record { same = refl; plain = subst (ArePlain Subidentifiers) e x }
plain_has (Text class) s c e x = record { same = refl; plain = subst (ArePlain (Text class)) e x }
plain_has Octets s c e x = record { same = refl; plain = tt }

-- other contents but times have none
pub plain_none : (k : ContentsType) (s c : List ℕ) → (k ≡ UtcTime → ⊥) → (k ≡ GeneralizedTime → ⊥) → s ≡ c → (ArePlain k s → ⊥) → (d : List ℕ) →
    HasContents k Ber d c → ⊥
plain_none UtcTime s c f g e none d x = f refl
plain_none GeneralizedTime s c f g e none d x = g refl
plain_none Number s c f g e none d x = none (subst (ArePlain Number) (sym e) x.plain)
plain_none Nothing s c f g e none d x = none (subst (ArePlain Nothing) (sym e) x.plain)
plain_none Subidentifiers s c f g e none d x = none (subst (ArePlain Subidentifiers) (sym e) x.plain)
plain_none (Text class) s c f g e none d x = none (subst (ArePlain (Text class)) (sym e) x.plain)
plain_none Octets s c f g e none d x = none tt

-- ---- times

-- a UTCTime by its date-time, and one that is in DER
pub utc_same : (m : BERMode) (v : DateTime) (c : List ℕ) → SpellsUtcTime m v c → IsUtcTimeOf m (utc_text v) c
utc_same m v c x = record { value = v; read = x; written = utc_spells_canonical Der v (utc_spells_can m v c x) }

pub general_same : (m : BERMode) (v : Moment) (c : List ℕ) → SpellsGeneralizedTime m v c → IsGeneralizedTimeOf m (general_text v) c
general_same m v c x = record { value = v; read = x; written = general_spells_canonical Der v (general_spells_can m v c x) }

-- a text that says a time, and what it stays or becomes
pub no_utc : (s c : List ℕ) → s ≡ c → ((v : DateTime) → IsUtcText s v → ⊥) → (d : List ℕ) → IsUtcTimeOf Ber d c → ⊥
no_utc s c e none d x = none x.value (subst (λ z. IsUtcText z x.value) (sym e) x.read.text)

pub utc_becomes : (s c d : List ℕ) (v : DateTime) → s ≡ c → IsUtcText s v → d ≡ utc_text v → IsUtcTimeOf Ber d c
utc_becomes s c d v e t f =
    let text = subst (λ z. IsUtcText z v) e t in
    subst (λ z. IsUtcTimeOf Ber z c) (sym f) (utc_same Ber v c (record { text = text; canonical = λ k. absurd k }))

pub utc_stays : (s r c : List ℕ) (v : DateTime) → s ≡ c → r ≡ c → IsUtcText s v → (IsUtcText r v → r ≡ utc_text v) → IsUtcTimeOf Ber c c
utc_stays s r c v e g t f = utc_becomes s c c v e t (sym g ∙ f (subst (λ z. IsUtcText z v) (e ∙ sym g) t))

pub no_general : (s c : List ℕ) → s ≡ c → ((v : Moment) → IsGeneralText s None v → ⊥) → (d : List ℕ) → IsGeneralizedTimeOf Ber d c → ⊥
no_general s c e none d x = none x.value (subst (λ z. IsGeneralText z None x.value) (sym e) x.read.text)

pub general_becomes : (s c d : List ℕ) (v : Moment) → s ≡ c → IsGeneralText s None v → d ≡ general_text v → IsGeneralizedTimeOf Ber d c
general_becomes s c d v e t f =
    let text = subst (λ z. IsGeneralText z None v) e t in
    subst (λ z. IsGeneralizedTimeOf Ber z c) (sym f) (general_same Ber v c (record { text = text; canonical = λ k. absurd k }))

pub general_stays : (s r c : List ℕ) (v : Moment) → s ≡ c → r ≡ c → IsGeneralText s None v → r ≡ general_text v → IsGeneralizedTimeOf Ber c c
general_stays s r c v e g t f = general_becomes s c c v e t (sym g ∙ f)

-- the contents in DER are the canonical text
utc_canonical : (m : BERMode) (c d : List ℕ) → (x : IsUtcTimeOf m d c) → d ≡ utc_text x.value
utc_canonical m c d x = utc_spells_only Der x.value d tt x.written

general_canonical : (m : BERMode) (c d : List ℕ) → (x : IsGeneralizedTimeOf m d c) → d ≡ general_text x.value
general_canonical m c d x = general_spells_only Der x.value d tt x.written

-- ---- the laws

pub contents_one : (k : ContentsType) (m : BERMode) (c d e : List ℕ) → HasContents k m d c → HasContents k m e c → d ≡ e
contents_one UtcTime m c d e x y =
    utc_canonical m c d x ∙ ap utc_text (utc_spells_one m x.value y.value c x.read y.read) ∙ sym (utc_canonical m c e y)
contents_one GeneralizedTime m c d e x y =
    general_canonical m c d x ∙ ap general_text (general_spells_one m x.value y.value c x.read y.read) ∙ sym (general_canonical m c e y)
contents_one Number m c d e x y = x.same ∙ sym y.same
contents_one Nothing m c d e x y = x.same ∙ sym y.same
contents_one Subidentifiers m c d e x y = x.same ∙ sym y.same
contents_one (Text k) m c d e x y = x.same ∙ sym y.same
contents_one Octets m c d e x y = x.same ∙ sym y.same

pub contents_canonical : (k : ContentsType) (c d : List ℕ) → HasContents k Der d c → d ≡ c
contents_canonical UtcTime c d x = utc_canonical Der c d x ∙ sym (utc_spells_only Der x.value c tt x.read)
contents_canonical GeneralizedTime c d x = general_canonical Der c d x ∙ sym (general_spells_only Der x.value c tt x.read)
contents_canonical Number c d x = x.same
contents_canonical Nothing c d x = x.same
contents_canonical Subidentifiers c d x = x.same
contents_canonical (Text k) c d x = x.same
contents_canonical Octets c d x = x.same

plain_again : (k : ContentsType) (c d : List ℕ) → IsPlainOf k d c → IsPlainOf k d d
plain_again k c d x = record { same = refl; plain = subst (ArePlain k) (sym x.same) x.plain }

pub contents_again : (k : ContentsType) (m o : BERMode) (c d : List ℕ) → HasContents k m d c → HasContents k o d d
contents_again UtcTime m o c d x =
    let e = utc_canonical m c d x in
    record {
      value = x.value;
      read = subst (SpellsUtcTime o x.value) (sym e) (utc_spells_canonical o x.value (utc_spells_can m x.value c x.read));
      written = x.written;
    }
contents_again GeneralizedTime m o c d x =
    let e = general_canonical m c d x in
    record {
      value = x.value;
      read = subst (SpellsGeneralizedTime o x.value) (sym e) (general_spells_canonical o x.value (general_spells_can m x.value c x.read));
      written = x.written;
    }
contents_again Number m o c d x = plain_again Number c d x
contents_again Nothing m o c d x = plain_again Nothing c d x
contents_again Subidentifiers m o c d x = plain_again Subidentifiers c d x
contents_again (Text k) m o c d x = plain_again (Text k) c d x
contents_again Octets m o c d x = plain_again Octets c d x

pub contents_bytes : (k : ContentsType) (m : BERMode) (c d : List ℕ) → IsBytes c → HasContents k m d c → IsBytes d
contents_bytes UtcTime m c d h x = subst IsBytes (sym (utc_canonical m c d x)) (utc_text_bytes x.value)
contents_bytes GeneralizedTime m c d h x =
    subst IsBytes (sym (general_canonical m c d x)) (general_text_bytes x.value (general_spells_can m x.value c x.read))
contents_bytes Number m c d h x = subst IsBytes (sym x.same) h
contents_bytes Nothing m c d h x = subst IsBytes (sym x.same) h
contents_bytes Subidentifiers m c d h x = subst IsBytes (sym x.same) h
contents_bytes (Text k) m c d h x = subst IsBytes (sym x.same) h
contents_bytes Octets m c d h x = subst IsBytes (sym x.same) h

pub exact : ContentsAreExact
exact = record { one = contents_one; canonical = contents_canonical; again = contents_again; in_bytes = contents_bytes }
