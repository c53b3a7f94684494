-- The conformance of blocks of PEM, which are listed one after the other.
use Rattle.std.proofs.Common.{◌≡◌, ◌⊎◌, ◌↔◌, inl, inr, ◌∙◌, ℕ, ◌≤◌, arith, refl, List, [], ◌∷◌, length, ap, sym, subst, Bool, true, false, Option, Some, None, Result, Ok, Err}
use Rattle.std.specs.Global.{Global}
use Rattle.std.specs.Prelude.{IsTrue, ◌&&◌, OnOk, unwrap_or, Vec}
use Rattle.std.specs.Result.{result_ok}
use Rattle.yasna_base.specs.declared.mode.BERMode.{BERMode}
use Rattle.yasna_base.specs.declared.mode.BERMode.TheVariants.{Ber, Der, Cer}
use Rattle.asn1_input.specs.Blocks.{lines_of, DecodeBlocks}
use Rattle.asn1_input.specs.Input.{HoldsEach}
use Rattle.asn1_input.specs.Reader.{has_any, open_lines, Awaits, BlockHolds, DecodeRest, IsFirstError, TakesLine}
use Rattle.asn1_input.specs.Text.{text_of}
use Rattle.asn1_input.specs.declared.input_format.InputFormat.TheVariants.{Pem}
use Rattle.asn1_input.specs.declared.pem.PemReader.{PemReader}
use Rattle.asn1_input.proofs.Rest.{decode_block, decode_line, same_any}
use Rattle.asn1show_walk.specs.declared.error.WalkError.{WalkError}
use Rattle.asn1show_printer.specs.Conformance.{conforms, AreMet}
use Rattle.asn1show_printer.specs.Reports.{IsConformanceOf}
use Rattle.asn1show_printer.specs.declared.diagnostic.Conformance.{Conformance}
use Rattle.asn1show_lines.specs.Conformance.{IsConformanceIn, MeetsLine, MeetsRest}

both : (a b : Bool) → IsTrue (a && b) ↔ (IsTrue a × IsTrue b)
both true b = ((λ e. (refl, e)), (λ x. x.1))
both false b = ((λ e. absurd (cc)), (λ x. absurd (let e = x.0 in cc)))

both_of : (a b c : Bool) → c ≡ a && b → IsTrue c ↔ (IsTrue a × IsTrue b)
both_of a b c e = subst (λ z. IsTrue z ↔ (IsTrue a × IsTrue b)) (sym e) (both a b)

-- a conformance is to the modes that both are to of which it was made
met : (a b c : Conformance) → AreMet a b c → (m : BERMode) → IsTrue (conforms c m) ↔ (IsTrue (conforms a m) × IsTrue (conforms b m))
met a b c x Ber = both_of a.ber b.ber c.ber x.ber
met a b c x Der = both_of a.der b.der c.der x.der
met a b c x Cer = both_of a.cer b.cer c.cer x.cer

-- ---- one line
module _ (mode : BERMode) (old new : PemReader) (line : List ℕ) where
  pub after_line : (c : Conformance) → TakesLine old line None new → MeetsLine mode old line new c c
  after_line c t rest all x = record {
    blocks = x.blocks;
    decode = decode_line old new line rest x.blocks t x.decode;
    some = subst (λ z. (z ≡ true) ⊎ (1 ≤ length x.blocks)) (same_any old new line rest x.blocks t) x.some;
    each = x.each;
    of_each = x.of_each;
    modes = x.modes;
  }

  pub after_block : (before further after : Conformance) (r : Result (Vec ℕ Global) WalkError) → TakesLine old line (Some r) new →
      BlockHolds (λ bytes. IsConformanceOf mode bytes further) r → AreMet before further after → MeetsLine mode old line new before after
  after_block before further after (Err f) t is m rest all x = absurd is
  after_block before further after (Ok bytes) t is m rest all x = record {
    blocks = bytes.items ∷ x.blocks;
    decode = decode_block old new line rest x.blocks bytes t x.decode;
    some = inr (omega arith);
    each = further ∷ x.each;
    of_each = (is, x.of_each);
    modes = λ mode. (
      λ h. let w = (x.modes mode).0 h in let z = (met before further after m mode).0 w.0 in (z.0, (z.1, w.1)),
      λ w. (x.modes mode).1 ((met before further after m mode).1 (w.0, w.1.0), w.1.1),
    );
  }

-- ---- line by line
abbrev ok_of : {A : Type 0} → A → Result A WalkError
ok_of x = Ok x

same_ok : {A : Type 0} (x y : A) → ok_of x ≡ ok_of y → x ≡ y
same_ok x y e = ap (λ r. unwrap_or (result_ok r) x) e

some_left : (any : Bool) (n : ℕ) → any ≡ false → (any ≡ true) ⊎ (1 ≤ n) → 1 ≤ n
some_left any n e (inl y) = absurd (cc)
some_left any n e (inr x) = x

-- what an input holds is what its lines are awaited to hold
pub begins_awaiting : (P : List ℕ → Type 0) (input : List ℕ) (reader : PemReader) → open_lines reader ≡ None → has_any reader ≡ false →
    HoldsEach P Pem input ↔ Awaits P reader (lines_of (text_of input))
begins_awaiting P input reader none any = (
  λ h. record {
    blocks = h.0;
    decode = subst (λ z. DecodeRest z h.0 (lines_of (text_of input))) (sym none) h.1.decode;
    some = inr h.1.some;
    all = h.2;
  },
  λ w. (
    w.blocks,
    record {
      decode = subst (λ z. DecodeRest z w.blocks (lines_of (text_of input))) none w.decode;
      some = some_left (has_any reader) (length w.blocks) any w.some;
    },
    w.all,
  ),
)

module _ (plain : Type 0) (mode : BERMode) (input : List ℕ) where
  -- what the conformance of the blocks before becomes by the lines that are left is that of the input, unless there was an error
  abbrev pub StillMeets : Option WalkError → PemReader → List (List ℕ) → Conformance → Type 0
  StillMeets first reader lines c = first ≡ None → plain → (all : Conformance) → MeetsRest mode reader lines c all → IsConformanceIn mode Pem input all

  pub begins_meeting : (reader : PemReader) (c : Conformance) → open_lines reader ≡ None → has_any reader ≡ false → ((m : BERMode) → conforms c m ≡ true) →
      (all : Conformance) → MeetsRest mode reader (lines_of (text_of input)) c all → IsConformanceIn mode Pem input all
  begins_meeting reader c none any is all x = (
    x.blocks,
    record {
      decode = subst (λ z. DecodeRest z x.blocks (lines_of (text_of input))) none x.decode;
      some = some_left (has_any reader) (length x.blocks) any x.some;
    },
    record {
      each = x.each;
      of_each = x.of_each;
      modes = λ m. (
        λ h. ((x.modes m).0 h).1,
        λ w. (x.modes m).1 (is m, w),
      );
    },
  )

  pub meets_on : (old new : PemReader) (line : List ℕ) (rest : List (List ℕ)) (before after : Conformance) (first next : Option WalkError)
      (outcome : Result (Unit {0}) WalkError) → StillMeets first old (line ∷ rest) before → (plain → OnOk outcome (MeetsLine mode old line new before after)) →
      IsFirstError first outcome (Ok next) → StillMeets next new rest after
  meets_on old new line rest before after first next (Ok u) i on e = λ none p all x. i (sym (same_ok next first e) ∙ none) p all (on p rest all x)
  meets_on old new line rest before after first None (Err f) i on e = absurd e
  meets_on old new line rest before after first (Some g) (Err f) i on e = λ none. absurd (cc)

  pub ends_meeting : (reader : PemReader) (first : Option WalkError) (c : Conformance) (outcome : Result (Unit {0}) WalkError) → StillMeets first reader [] c →
      OnOk outcome ((open_lines reader ≡ None) × (has_any reader ≡ true)) → IsFirstError first outcome (Ok None) → plain → IsConformanceIn mode Pem input c
  unfolding DecodeBlocks
  ends_meeting reader first c (Err f) i on e p = absurd e
  ends_meeting reader first c (Ok u) i on e p = i (sym (same_ok None first e)) p c (record {
    blocks = [];
    decode = subst (λ z. DecodeRest z [] []) (sym on.0) tt;
    some = inl on.1;
    each = [];
    of_each = tt;
    modes = λ m. ((λ h. (h, tt)), (λ w. w.0));
  })
