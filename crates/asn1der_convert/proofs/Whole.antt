-- Inputs and outputs as a whole.
use Rattle.std.proofs.Common.{◌≡◌, ℕ, ◌^◌, ◌<◌, ◌≤◌, List, [], ◌∷◌, ◌++◌, length, map, sym, ap, ◌∙◌, subst, append-nil, None, arith}
use Rattle.std.specs.List.{concat}
use Rattle.yasna_base.specs.Header.{definite_end}
use Rattle.yasna_base.specs.Pieces.{Each, Pieces}
use Rattle.yasna_base.specs.Raw.{IsRaw, IsJoining}
use Rattle.yasna_base.specs.Set.{SetPart, parts_bytes}
use Rattle.yasna_base.specs.declared.mode.BERMode.{BERMode}
use Rattle.yasna_base.specs.declared.mode.BERMode.TheVariants.{Ber, Der}
use Rattle.asn1der_convert.specs.Conversion.{Converts, EncodesTheSame}
use Rattle.asn1der_convert.specs.Parts.{TakesPartsTo, AppendsParts}
use Rattle.asn1der_convert.specs.Tree.{Tree, tree_tag, HasTree, der_encoding, SameTree}
use Rattle.asn1der_convert.specs.Ambiguity.{first_place, MeetsTo, AreTheAmbiguities}
use Rattle.asn1der_convert.specs.declared.ambiguity.Ambiguities.{Ambiguities}
use Rattle.asn1der_convert.specs.declared.ambiguity.Ambiguity.{Ambiguity}
use Rattle.asn1der_convert.proofs.Ambiguities.{Inside, are_the_ambiguities}
use Rattle.asn1der_convert.proofs.Exact.{trees_exact}
use Rattle.asn1der_convert.proofs.Encodings.{CanonicalEach, canonical_each, all_canonical, canonical}
use Rattle.asn1der_convert.proofs.Raw.{pieces_raw, tree_raw}

some_pieces : {A : Type 0} (R : A → List ℕ → Type 0) (vs : List A) (c : List ℕ) → Pieces R vs c → 1 ≤ length c → 1 ≤ length vs
some_pieces R [] c x h = absurd (go x.pieces x.each x.joined)
  where
    go : (bs : List (List ℕ)) → Each R [] bs → c ≡ concat bs → ⊥
    go [] p e = omega (arith, h, ap length e)
    go (b ∷ bs) p e = absurd p
some_pieces R (v ∷ vs) c x h = omega arith

some_each : {A B : Type 0} (E : A → B → Type 0) (vs : List A) (ws : List B) → Each E vs ws → 1 ≤ length vs → 1 ≤ length ws
some_each E [] ws p h = absurd (omega (arith, h))
some_each E (v ∷ vs) [] p h = absurd p
some_each E (v ∷ vs) (w ∷ ws) p h = omega arith

-- an input that was read to its end was converted
pub converts : (s r d : List ℕ) (ps : List SetPart) → TakesPartsTo 101 Ber s (definite_end []) ps r → 1 ≤ length s → d ≡ concat (parts_bytes ps) → Converts s d
converts s r d ps x some e =
    let whole : s ≡ x.prefix = x.joined ∙ ap (λ z. x.prefix ++ z) (x.ends.0) ∙ append-nil x.prefix in
    let read = subst (λ z. Pieces (HasTree 101 Ber) x.parts.trees z) (sym whole) x.parts.read in
    record {
      trees = x.parts.trees;
      some = some_pieces (HasTree 101 Ber) x.parts.trees s read some;
      read = read;
      written = e ∙ ap concat x.parts.encodings;
    }

-- an input whose elements were appended to nothing was converted
pub converted : (n : ℕ) (m : BERMode) (s t r out d : List ℕ) → n ≡ 101 → m ≡ Ber → s ≡ t → AppendsParts n m s (definite_end []) r out d → 1 ≤ length t → out ≡ [] → Converts t d
converted n m s t r out d e f g x some none =
    let one = subst (λ k. TakesPartsTo k m s (definite_end []) x.parts r) e x.taken in
    let two = subst (λ (k : BERMode). TakesPartsTo 101 k s (definite_end []) x.parts r) f one in
    let three = subst (λ k. TakesPartsTo 101 Ber k (definite_end []) x.parts r) g two in
    converts t r d x.parts three some (x.added ∙ ap (λ z. z ++ concat (parts_bytes x.parts)) none)

-- its ambiguities were met
pub converted_met : (n : ℕ) (m : BERMode) (s t r out d : List ℕ) (old new : Ambiguities) → n ≡ 101 → m ≡ Ber → s ≡ t → AppendsParts n m s (definite_end []) r out d →
    MeetsTo n m s (definite_end []) r old new → ((a : Ambiguity) → first_place a old ≡ None) → AreTheAmbiguities t new
converted_met n m s t r out d old new e f g x met none =
    let one = subst (λ k. Inside k x.parts r old new m s (definite_end [])) e (x.taken, met) in
    let two = subst (λ (k : BERMode). Inside 101 x.parts r old new k s (definite_end [])) f one in
    let three = subst (λ k. Inside 101 x.parts r old new Ber k (definite_end [])) g two in
    are_the_ambiguities t r x.parts old new three.0 three.1 none

-- what is written is canonical
abbrev Written : List (Tree 101) → Type 0
Written vs = CanonicalEach (HasTree 101) (SameTree 101) (der_encoding 101) (tree_tag 101) vs

written : (s d : List ℕ) → (x : Converts s d) → length d < 2 ^ 64 → Written x.trees
written s d x short =
    canonical_each (HasTree 101) (SameTree 101) (der_encoding 101) (tree_tag 101) x.trees
    (all_canonical (HasTree 101) (SameTree 101) (der_encoding 101) (tree_tag 101) (canonical 101) x.trees x.read.pieces x.read.each)
    (subst (λ z. length z < 2 ^ 64) x.written short)

-- it says the same
pub encodes_same : (s d : List ℕ) → Converts s d → length d < 2 ^ 64 → EncodesTheSame s d
encodes_same s d x short =
    let y = written s d x short in
    record {
      old = x.trees;
      new = y.trees;
      read = x.read;
      written = record { pieces = map (der_encoding 101) x.trees; each = y.read Der tt; joined = x.written };
      same = y.same;
    }

-- it is raw elements in DER
pub encodes_raw : (s d : List ℕ) → EncodesTheSame s d → IsJoining (IsRaw Der 101) d
encodes_raw s d x = pieces_raw (IsRaw Der 101) (HasTree 101 Der) (tree_raw 101) x.new d x.written

-- converting elements in DER again changes nothing
pub converts_again : (s d : List ℕ) → Converts s d → length d < 2 ^ 64 → Converts d d
converts_again s d x short =
    let y = written s d x short in
    record {
      trees = y.trees;
      some = some_each (SameTree 101) x.trees y.trees y.same x.some;
      read = record { pieces = map (der_encoding 101) x.trees; each = y.read Ber tt; joined = x.written };
      written = x.written ∙ ap concat (sym y.encoding);
    }

-- an input is converted in one way
pub converts_once : (s d e : List ℕ) → Converts s d → Converts s e → e ≡ d
converts_once s d e x y =
    let same = trees_exact 101 Ber x.trees y.trees s x.read y.read in
    y.written ∙ ap (λ vs. concat (map (der_encoding 101) vs)) (sym same) ∙ sym x.written
