-- What holds of contents in DER.
use Rattle.std.specs.Prelude.{◌≡◌, ℕ, List}
use Rattle.yasna_base.specs.Digits.{IsBytes}
use Rattle.yasna_base.specs.declared.mode.BERMode.{BERMode}
use Rattle.yasna_base.specs.declared.mode.BERMode.TheVariants.{Der}
use Rattle.asn1_contents.specs.Contents.{HasContents}
use Rattle.asn1_contents.specs.declared.contents_type.ContentsType.{ContentsType}

-- contents have one form in DER, which is their own if they are in DER; that form encodes itself in each mode; and it is octets
pub record ContentsAreExact : Type 0 where
  pub one : (k : ContentsType) (m : BERMode) (c d e : List ℕ) → HasContents k m d c → HasContents k m e c → d ≡ e
  pub canonical : (k : ContentsType) (c d : List ℕ) → HasContents k Der d c → d ≡ c
  pub again : (k : ContentsType) (m o : BERMode) (c d : List ℕ) → HasContents k m d c → HasContents k o d d
  pub in_bytes : (k : ContentsType) (m : BERMode) (c d : List ℕ) → IsBytes c → HasContents k m d c → IsBytes d
