-- What a parse does that says where it failed.
use Rattle.std.specs.Fmt.{decimal}
use Rattle.std.specs.Prelude.{Err, IfErr, List, Ok, Result, codes, length, ℕ, ◌++◌, ◌≡◌, ◌≤◌}
use Rattle.yasna_base.specs.Error.{error_text}
use Rattle.yasna_base.specs.Grammar.{max_depth}
use Rattle.yasna_base.specs.declared.error.ASN1Error.{ASN1Error}
use Rattle.yasna_base.specs.declared.mode.BERMode.{BERMode}
use Rattle.yasna_reader.specs.Parse.{Parses, parsed}
use Rattle.yasna_reader.specs.State.{Reading, Does}
use Rattle.yasna_reader.specs.declared.located.Located.{Located}

-- a place in the bytes s or at their end, and at most as many elements around it as may be around one
pub record IsPlaceIn (s : List ℕ) (l : Located) : Type 0 where
  pub offset : l.offset ≤ length s
  pub depth : l.depth ≤ max_depth

-- l is the error e with a place in the bytes s or at their end
pub record IsLocated (e : ASN1Error) (s : List ℕ) (l : Located) : Type 0 where
  pub error : l.error ≡ e
  pub place : IsPlaceIn s l

-- the result without the place
abbrev pub without_place : {A : Type 0} → Result A Located → Result A ASN1Error
without_place (Ok v) = Ok v
without_place (Err l) = Err l.error

-- what a parse of s returns where its callback returned own and left z
pub record IsParsedWithPlace {A : Type 0} (own : Result A ASN1Error) (z : Reading) (s : List ℕ) (r : Result A Located) : Type 0 where
  pub returned : without_place r ≡ parsed own z
  pub place : IfErr r (λ l. IsPlaceIn s l)

-- a parse of s in the mode m as Callback says; where it fails, at a place in s or at its end
pub record LocatesParse {A : Type 0} (Callback : Does A) (m : BERMode) (s : List ℕ) (r : Result A Located) : Type 0 where
  pub parses : Parses Callback m s (without_place r)
  pub place : IfErr r (λ l. IsPlaceIn s l)

-- the line that prints it
abbrev pub located_text : Located → List ℕ
located_text l = error_text l.error ++ codes " at offset " ++ decimal l.offset ++ codes ", depth " ++ decimal l.depth
