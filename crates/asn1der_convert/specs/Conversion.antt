-- The results of the conversion from BER to DER.
use Rattle.std.specs.Prelude.{◌≡◌, ℕ, ◌≤◌, List, length, map}
use Rattle.std.specs.List.{concat}
use Rattle.yasna_base.specs.Grammar.{max_depth}
use Rattle.yasna_base.specs.Pieces.{Each, Pieces}
use Rattle.yasna_base.specs.declared.mode.BERMode.TheVariants.{Ber, Der}
use Rattle.asn1der_convert.specs.Tree.{Tree, HasTree, der_encoding, SameTree}

-- s is elements in BER, one or more, and d their encodings in DER, one after the other
pub record Converts (s d : List ℕ) : Type 0 where
  pub trees : List (Tree max_depth)
  pub some : 1 ≤ length trees
  pub read : Pieces (HasTree max_depth Ber) trees s
  pub written : d ≡ concat (map (der_encoding max_depth) trees)

-- s is elements in BER, d elements in DER, and one by one they encode the same value
pub record EncodesTheSame (s d : List ℕ) : Type 0 where
  pub old : List (Tree max_depth)
  pub new : List (Tree max_depth)
  pub read : Pieces (HasTree max_depth Ber) old s
  pub written : Pieces (HasTree max_depth Der) new d
  pub same : Each (SameTree max_depth) old new
