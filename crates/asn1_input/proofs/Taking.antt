-- What a reader of PEM awaits after a line that it takes.
use Rattle.std.proofs.Common.{◌≡◌, ◌≢◌, ◌⊎◌, inl, inr, ◌↔◌, ℕ, ◌≤◌, List, [], ◌∷◌, ◌++◌, length, refl, ap, ◌∙◌, sym, subst, arith, Bool, true, false, Option, Some, None, Result, Ok, Err}
use Rattle.std.specs.Global.{Global}
use Rattle.std.specs.Prelude.{OnOk, unwrap_or, Vec}
use Rattle.std.specs.List.{concat, list_any}
use Rattle.std.proofs.lemmas.List.{map-append}
use Rattle.yasna_base.specs.declared.error.ASN1ErrorKind.{ASN1ErrorKind}
use Rattle.asn1show_walk.specs.Errors.{IsExternal, WalkFails}
use Rattle.asn1show_walk.specs.declared.error.WalkError.{WalkError}
use Rattle.asn1show_walk.specs.declared.error.WalkError.TheVariants.{Malformed, Memory, Output, ClosedOutput}
use Rattle.asn1_input.specs.Blocks.{says_encrypted, BeginsBlock, BlockDecodes, DecodeBlocks, EndsBlock}
use Rattle.asn1_input.specs.Text.{IsBase64, IsMemoryError}
use Rattle.asn1_input.specs.Reader.{texts, AwaitsFrom, Awaits, BlockHolds, BlockLacks, IsCutOff, IsDecoded, NoBlock, TakesLine, next_offset}
use Rattle.asn1_input.specs.Reader.{open_lines, has_any, outside, begins, within, ends, cuts, no_blank, encrypted, no_body, no_base64}
use Rattle.asn1_input.specs.declared.block.TextLine.{TextLine}
use Rattle.asn1_input.specs.declared.pem.PemReader.{PemReader}
use Rattle.asn1_input.proofs.Body.{any_found, any_text}
use Rattle.asn1_input.proofs.Malformed.{never_malformed}
use Rattle.asn1_input.proofs.Blocks.{awaits_outside, awaits_begun, awaits_within, awaits_ended, awaits_nothing, awaits_cut, none_left}

-- ---- both clauses of an Ok
pub on_ok_both : {T E : Type 0} (r : Result T E) {A B C : Type 0} → OnOk r A → OnOk r B → (A → B → C) → OnOk r C
on_ok_both (Ok x) a b f = f a b
on_ok_both (Err e) a b f = tt

-- ---- `OutOfMemory` is of the device
is_external : (f : WalkError) → IsMemoryError f → IsExternal f
is_external f e = subst IsExternal (sym e) tt

-- an error is of the device, or of the input
pub by_origin : (f : WalkError) → WalkFails IsExternal (λ o k. IsExternal f → ⊥) f
by_origin (Malformed o k e) = inr (λ x. x)
by_origin Memory = inl tt
by_origin Output = inl tt
by_origin ClosedOutput = inl tt

-- ---- a block that encodes nothing
not_both : {b : Bool} → b ≡ true → b ≡ false → ⊥
not_both e f = absurd (cc)

pub decodes_nothing : (lines : List TextLine) (end o : ℕ) (k : ASN1ErrorKind) → NoBlock lines end o k → (bytes : List ℕ) → BlockDecodes (texts lines) bytes → ⊥
decodes_nothing lines end o k (no_body (no_blank h b p q)) bytes x = not_both (x.headers_end h) b
decodes_nothing lines end o k (no_body (encrypted headers header e found p q)) bytes x =
    not_both (any_text says_encrypted headers ∙ any_found (λ l. says_encrypted l.text.now) headers header found)
    (ap (λ z. list_any says_encrypted z) e ∙ x.is_plain)
decodes_nothing lines end o k (no_base64 body b n) bytes x = n.none bytes (subst (λ z. IsBase64 (concat z) bytes) (sym b.same) x.decodes)

-- ---- one line
pub last_text : (lines : List TextLine) (last : TextLine) (line : List ℕ) → last.text.now ≡ line → texts (lines ++ (last ∷ [])) ≡ texts lines ++ (line ∷ [])
last_text lines last line e = map-append (λ l. l.text.now) lines (last ∷ []) ∙ ap (λ z. texts lines ++ (z ∷ [])) e

pub same_block : (r s : Result (Vec ℕ Global) WalkError) → Some r ≡ Some s → s ≡ r
same_block r s e = ap (λ z. unwrap_or z r) (sym e)

module _ (P : List ℕ → Type 0) (old new : PemReader) (line : List ℕ) (rest : List (List ℕ)) where
  by_state : (d e : Option (List TextLine)) → open_lines old ≡ d → open_lines new ≡ e → has_any new ≡ has_any old →
      (AwaitsFrom P d (has_any old) (line ∷ rest) ↔ AwaitsFrom P e (has_any old) rest) → Awaits P old (line ∷ rest) ↔ Awaits P new rest
  by_state d e f g a x =
      subst (λ z. AwaitsFrom P z (has_any old) (line ∷ rest) ↔ AwaitsFrom P (open_lines new) (has_any new) rest) (sym f)
      (subst (λ z. AwaitsFrom P d (has_any old) (line ∷ rest) ↔ AwaitsFrom P z (has_any new) rest) (sym g)
      (subst (λ z. AwaitsFrom P d (has_any old) (line ∷ rest) ↔ AwaitsFrom P e z rest) (sym a) x))

  pub goes_on : TakesLine old line None new → Awaits P old (line ∷ rest) ↔ Awaits P new rest
  goes_on (outside f none s g a) = by_state None None f g a (awaits_outside P line rest (has_any old) none)
  goes_on (begins f begun s g a) = by_state None (Some []) f g a (awaits_begun P line rest (has_any old) begun)
  goes_on (within lines last f inner s t o g a) =
      by_state (Some lines) _ f g a (awaits_within P line rest lines _ (has_any old) (last_text lines last line t) inner)
  goes_on (ends lines r f end s d g a) = absurd (cc)
  goes_on (cuts lines r f none is s c g a) = absurd (cc)

  -- what is awaited, where a block ends that has these bytes
  ended : (lines : List TextLine) (bytes : List ℕ) → open_lines old ≡ Some lines → EndsBlock line → BlockDecodes (texts lines) bytes → open_lines new ≡ None →
      has_any new ≡ true → Awaits P old (line ∷ rest) ↔ (P bytes × Awaits P new rest)
  ended lines bytes f end d g a =
      subst (λ z. AwaitsFrom P z (has_any old) (line ∷ rest) ↔ (P bytes × AwaitsFrom P (open_lines new) (has_any new) rest)) (sym f)
      (subst (λ z. AwaitsFrom P (Some lines) (has_any old) (line ∷ rest) ↔ (P bytes × AwaitsFrom P z (has_any new) rest)) (sym g)
      (subst (λ z. AwaitsFrom P (Some lines) (has_any old) (line ∷ rest) ↔ (P bytes × AwaitsFrom P None z rest)) (sym a)
      (awaits_ended P line rest lines bytes (has_any old) end d)))

  pub goes_on_after : (r : Result (Vec ℕ Global) WalkError) → TakesLine old line (Some r) new → BlockHolds P r → Awaits P old (line ∷ rest) ↔ Awaits P new rest
  goes_on_after (Err f) t holds = absurd holds
  goes_on_after (Ok bytes) (outside f none s g a) holds = absurd (cc)
  goes_on_after (Ok bytes) (begins f begun s g a) holds = absurd (cc)
  goes_on_after (Ok bytes) (within lines last f inner s t o g a) holds = absurd (cc)
  goes_on_after (Ok bytes) (ends lines r f end s d g a) holds =
      let x = ended lines bytes.items f end (subst (IsDecoded lines (next_offset old)) (same_block (Ok bytes) r s) d) g a in
      ((λ w. (x.0 w).1), (λ w. x.1 (holds, w)))
  goes_on_after (Ok bytes) (cuts lines r f none is s c g a) holds = absurd (subst (IsCutOff (next_offset old)) (same_block (Ok bytes) r s) c)

  by_cut : (lines : List TextLine) → open_lines old ≡ Some lines → (EndsBlock line → ⊥) → BeginsBlock line → Awaits P old (line ∷ rest) → ⊥
  by_cut lines f none is w = awaits_cut P line rest lines (has_any old) none is (subst (λ z. AwaitsFrom P z (has_any old) (line ∷ rest)) f w)

  by_error : (lines : List TextLine) (f : WalkError) → WalkFails IsMemoryError (NoBlock lines (next_offset old)) f → (IsExternal f → ⊥) →
      open_lines old ≡ Some lines → EndsBlock line → Awaits P old (line ∷ rest) → ⊥
  by_error lines f (inl e) none o end w = none (is_external f e)
  by_error lines f (inr x) none o end w =
      never_malformed (NoBlock lines (next_offset old)) f x (λ p k n. awaits_nothing P line rest lines (has_any old) end (decodes_nothing lines (next_offset old) p k n)
      (subst (λ z. AwaitsFrom P z (has_any old) (line ∷ rest)) o w))

  pub ends_there : (r : Result (Vec ℕ Global) WalkError) → TakesLine old line (Some r) new → BlockLacks P r → Awaits P old (line ∷ rest) → ⊥
  ends_there r (outside f none s g a) lacks w = absurd (cc)
  ends_there r (begins f begun s g a) lacks w = absurd (cc)
  ends_there r (within lines last f inner s t o g a) lacks w = absurd (cc)
  ends_there r (cuts lines q f none is s c g a) lacks w = by_cut lines f none is w
  ends_there (Ok bytes) (ends lines q f end s d g a) lacks w =
      lacks ((ended lines bytes.items f end (subst (IsDecoded lines (next_offset old)) (same_block (Ok bytes) q s) d) g a).0 w).0
  ends_there (Err e) (ends lines q f end s d g a) lacks w =
      by_error lines e (subst (IsDecoded lines (next_offset old)) (same_block (Err e) q s) d) lacks f end w

-- ---- no line is left
none_awaited : {any : Bool} {blocks : List (List ℕ)} → any ≡ false → blocks ≡ [] → (any ≡ true) ⊎ (1 ≤ length blocks) → ⊥
none_awaited n e (inl y) = absurd (cc)
none_awaited n e (inr x) = omega (arith, ap length e, x)

-- nothing more is awaited
pub nothing_awaited : (P : List ℕ → Type 0) (reader : PemReader) → open_lines reader ≡ None → has_any reader ≡ true → Awaits P reader []
unfolding DecodeBlocks
nothing_awaited P reader d a =
    subst (λ z. AwaitsFrom P z (has_any reader) []) (sym d) (subst (λ z. AwaitsFrom P None z []) (sym a)
    (record { blocks = []; decode = tt; some = inl refl; all = tt }))

-- more is awaited, and no line is left
pub awaited_in_vain : (P : List ℕ → Type 0) (reader : PemReader) → (open_lines reader ≢ None) ⊎ (has_any reader ≡ false) → Awaits P reader [] → ⊥
awaited_in_vain P reader (inl n) w = n (none_left (open_lines reader) w.blocks w.decode).0
awaited_in_vain P reader (inr n) w = none_awaited n (none_left (open_lines reader) w.blocks w.decode).1 w.some
