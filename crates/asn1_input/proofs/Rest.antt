-- The blocks in the lines that are left to a reader, and those in a line before them.
use Rattle.std.proofs.Common.{◌≡◌, ℕ, List, [], ◌∷◌, sym, subst, Option, Some, None, Ok}
use Rattle.std.specs.Global.{Global}
use Rattle.std.specs.Prelude.{Vec}
use Rattle.asn1_input.specs.Blocks.{BlockDecodes, EndsBlock}
use Rattle.asn1_input.specs.Reader.{texts, DecodeRest, IsCutOff, IsDecoded, TakesLine, next_offset}
use Rattle.asn1_input.specs.Reader.{open_lines, has_any, outside, begins, within, ends, cuts}
use Rattle.asn1_input.specs.declared.block.TextLine.{TextLine}
use Rattle.asn1_input.specs.declared.pem.PemReader.{PemReader}
use Rattle.asn1_input.proofs.Blocks.{decode_before, decode_ended, decode_from_opened, decode_from_within}
use Rattle.asn1_input.proofs.Taking.{last_text, same_block}

module _ (old new : PemReader) (line : List ℕ) (rest blocks : List (List ℕ)) where
  by_state : (d e : Option (List TextLine)) → open_lines old ≡ d → open_lines new ≡ e → (DecodeRest e blocks rest → DecodeRest d blocks (line ∷ rest)) →
      DecodeRest (open_lines new) blocks rest → DecodeRest (open_lines old) blocks (line ∷ rest)
  by_state d e f g x w = subst (λ z. DecodeRest z blocks (line ∷ rest)) (sym f) (x (subst (λ z. DecodeRest z blocks rest) g w))

  -- a line after which no block ends adds none
  pub decode_line : TakesLine old line None new → DecodeRest (open_lines new) blocks rest → DecodeRest (open_lines old) blocks (line ∷ rest)
  decode_line (outside f none s g a) = by_state None None f g (decode_before blocks line rest none)
  decode_line (begins f begun s g a) = by_state None (Some []) f g (decode_from_opened blocks line rest begun)
  decode_line (within lines last f inner s t o g a) = by_state (Some lines) _ f g (decode_from_within lines _ line rest (last_text lines last line t) blocks inner)
  decode_line (ends lines r f end s d g a) = absurd (cc)
  decode_line (cuts lines r f none is s c g a) = absurd (cc)

  pub same_any : TakesLine old line None new → has_any new ≡ has_any old
  same_any (outside f none s g a) = a
  same_any (begins f begun s g a) = a
  same_any (within lines last f inner s t o g a) = a
  same_any (ends lines r f end s d g a) = absurd (cc)
  same_any (cuts lines r f none is s c g a) = absurd (cc)

  ended : (lines : List TextLine) (bytes : List ℕ) → open_lines old ≡ Some lines → EndsBlock line → BlockDecodes (texts lines) bytes → open_lines new ≡ None →
      DecodeRest (open_lines new) blocks rest → DecodeRest (open_lines old) (bytes ∷ blocks) (line ∷ rest)
  ended lines bytes f end d g w =
      subst (λ z. DecodeRest z (bytes ∷ blocks) (line ∷ rest)) (sym f)
      (decode_ended lines line rest bytes blocks end d (subst (λ z. DecodeRest z blocks rest) g w))

  -- a line that ends a block adds its bytes
  pub decode_block : (bytes : Vec ℕ Global) → TakesLine old line (Some (Ok bytes)) new → DecodeRest (open_lines new) blocks rest →
      DecodeRest (open_lines old) (bytes.items ∷ blocks) (line ∷ rest)
  decode_block bytes (outside f none s g a) w = absurd (cc)
  decode_block bytes (begins f begun s g a) w = absurd (cc)
  decode_block bytes (within lines last f inner s t o g a) w = absurd (cc)
  decode_block bytes (ends lines r f end s d g a) w =
      ended lines bytes.items f end (subst (IsDecoded lines (next_offset old)) (same_block (Ok bytes) r s) d) g w
  decode_block bytes (cuts lines r f none is s c g a) w = absurd (subst (IsCutOff (next_offset old)) (same_block (Ok bytes) r s) c)
