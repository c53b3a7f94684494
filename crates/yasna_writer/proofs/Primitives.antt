-- A primitive element that is one append.
use Rattle.std.proofs.Common.{◌≡◌, ℕ, ◌<◌, ◌≤◌, ◌-◌, List, [], ◌∷◌, ◌++◌, length, length-drop, get_or, drop, refl, None, Some, ap, ap₂, sym, ◌∙◌, arith, append_assoc}
use Rattle.std.specs.Prelude.{Result, MatchResult, Option}
use Rattle.std.proofs.lemmas.Result.{MatchResult-weaker}
use Rattle.yasna_base.specs.declared.error.ASN1Error.{ASN1Error}
use Rattle.yasna_base.specs.declared.error.ASN1ErrorKind.TheVariants.{OutOfMemory}
use Rattle.yasna_base.specs.declared.mode.BERMode.{BERMode}
use Rattle.yasna_base.specs.declared.tag.Tag.{Tag}
use Rattle.yasna_base.specs.declared.tag.PCBit.TheVariants.{Primitive}
use Rattle.yasna_base.specs.Error.{kind_of}
use Rattle.yasna_base.specs.Identifier.{leading_byte}
use Rattle.yasna_base.specs.Canonical.{canonical_element, definite_element}
use Rattle.yasna_base.proofs.Identifier.{identifier_short}
use Rattle.yasna_base.proofs.Length.{short_length}
use Rattle.yasna_writer.specs.State.{Appended}
use Rattle.yasna_writer.specs.View.{Written, Wrote}

-- where the tag's number is below 31 and the contents are short, identifier and length are one byte each
pub short_element :
    (m : BERMode) (t : Tag) (c : List ℕ) → t.tag_number < 31 → length c < 128
    → canonical_element m t Primitive c ≡ leading_byte t Primitive t.tag_number ∷ length c ∷ c
unfolding canonical_element definite_element
short_element m t c h k = ap₂ (λ i l. i ++ (l ++ c)) (identifier_short t Primitive h) (short_length (length c) k)

-- an element with a short tag and short contents is two bytes, and the contents
pub short_bytes :
    (m : BERMode) (t : Tag) (first count : ℕ) (c : List ℕ) → t.tag_number < 31 → length c < 128 → first ≡ leading_byte t Primitive t.tag_number
    → count ≡ length c → first ∷ count ∷ c ≡ canonical_element m t Primitive c
short_bytes m t first count c h k e f = ap₂ (λ x y. x ∷ y ∷ c) e f ∙ sym (short_element m t c h k)

-- what one append leaves, where nothing was sticky and the tag is used up before it
pub wrote_by :
    (piece bs : List ℕ) (old mid new : Written) (r : Result (Unit {0}) ASN1Error)
    → old.failed ≡ None → mid ≡ record old { tag = None } → piece ≡ bs → MatchResult r (λ _. new ≡ record mid { bytes = mid.bytes ++ piece })
    (λ e. (kind_of e ≡ OutOfMemory) × (new.failed ≡ Some e)) → Wrote bs old new r
wrote_by piece bs old mid new r none taken e h =
    rw none
    (MatchResult-weaker r h
    (λ _ f. f ∙ ap₂ (λ (w : Written) x. record w { bytes = w.bytes ++ x }) taken e
    ∙ ap (λ (k : Option ASN1Error). record old { bytes = old.bytes ++ bs; tag = None; failed = k }) none)
    (λ k f. f))

-- what two appends leave
pub appended_both :
    (w mid new : Written) (r : Result (Unit {0}) ASN1Error) (xs ys : List ℕ) → mid ≡ record w { bytes = w.bytes ++ xs } → Appended ys mid new r
    → Appended (xs ++ ys) w new r
appended_both w mid new r xs ys e h =
    MatchResult-weaker r h
    (λ _ f. f ∙ ap (λ (v : Written). record v { bytes = v.bytes ++ ys }) e ∙ ap (λ x. record w { bytes = x }) (append_assoc w.bytes xs ys)) (λ k f. f)

-- eight bytes one by one
abbrev pub singly : List ℕ → List ℕ
singly b = get_or b 0 0 ∷ get_or b 1 0 ∷ get_or b 2 0 ∷ get_or b 3 0 ∷ get_or b 4 0 ∷ get_or b 5 0 ∷ get_or b 6 0 ∷ get_or b 7 0 ∷ []

eight_bytes : (b : List ℕ) → length b ≡ 8 → b ≡ singly b
eight_bytes (a ∷ b ∷ c ∷ d ∷ e ∷ f ∷ g ∷ h ∷ []) l = refl
eight_bytes (a ∷ b ∷ c ∷ d ∷ e ∷ f ∷ g ∷ h ∷ i ∷ x) l = absurd (omega arith)
eight_bytes [] l = absurd (omega arith)
eight_bytes (a ∷ []) l = absurd (omega arith)
eight_bytes (a ∷ b ∷ []) l = absurd (omega arith)
eight_bytes (a ∷ b ∷ c ∷ []) l = absurd (omega arith)
eight_bytes (a ∷ b ∷ c ∷ d ∷ []) l = absurd (omega arith)
eight_bytes (a ∷ b ∷ c ∷ d ∷ e ∷ []) l = absurd (omega arith)
eight_bytes (a ∷ b ∷ c ∷ d ∷ e ∷ f ∷ []) l = absurd (omega arith)
eight_bytes (a ∷ b ∷ c ∷ d ∷ e ∷ f ∷ g ∷ []) l = absurd (omega arith)

-- what one append leaves of identifier, length and the last bytes
pub appended_last :
    (w new : Written) (r : Result (Unit {0}) ASN1Error) (P : ASN1Error → Type 0) (t : Tag) (first from k : ℕ) (b c : List ℕ) → t.tag_number < 31
    → first ≡ leading_byte t Primitive t.tag_number → k ≡ length c → k < 128 → drop from b ≡ c
    → MatchResult r (λ _. new ≡ record w { bytes = w.bytes ++ (first ∷ k ∷ c) }) P
    → MatchResult r (λ _. new ≡ record w { bytes = w.bytes ++ canonical_element w.mode t Primitive (drop from b) }) P
appended_last w new r P t first from k b c h f l s d m =
    MatchResult-weaker r m
    (λ _ e. e ∙ ap (λ x. record w { bytes = w.bytes ++ x })
    (short_bytes w.mode t first k c h (omega arith) f l ∙ ap (canonical_element w.mode t Primitive) (sym d)))
    (λ e i. i)

-- as `appended_last`, where the last bytes are `k` of eight, one by one
pub appended_few :
    (w new : Written) (r : Result (Unit {0}) ASN1Error) (P : ASN1Error → Type 0) (t : Tag) (first count k : ℕ) (b : List ℕ) → length b ≡ 8 → k ≤ 8
    → count ≡ k → t.tag_number < 31 → first ≡ leading_byte t Primitive t.tag_number
    → MatchResult r (λ _. new ≡ record w { bytes = w.bytes ++ (first ∷ k ∷ drop (8 - k) (singly b)) }) P
    → MatchResult r (λ _. new ≡ record w { bytes = w.bytes ++ canonical_element w.mode t Primitive (drop (8 - count) b) }) P
appended_few w new r P t first count k b eight few e h f m =
    let last = drop (8 - k) (singly b) in
    appended_last w new r P t first (8 - count) k b last h f (omega (arith, length-drop (8 - k) (singly b))) (omega arith)
    (ap₂ (λ n x. drop (8 - n) x) e (eight_bytes b eight)) m
