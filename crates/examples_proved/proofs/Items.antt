-- An INTEGER or a NULL, and what distinguishes them.
use Rattle.std.proofs.Common.{◌≡◌, ℕ, List, ◌++◌, refl, ap, sym, inl, inr, false, arith}
use Rattle.std.specs.Prelude.{ℤ, Option, Some, None, Result}
use Rattle.std.specs.Int.{w64}
use Rattle.yasna.specs.Words.{BERMode, Tag, SameEither, IsCoding, Any, Primitively, BeginsWithTag, IsSigned, integer_tag, null_tag}
use Rattle.yasna.specs.Words.{EncodesSigned, IsNull, EncodesNull, ASN1Error, NeverAllocates, Decodes, Reads, NoLevel, Reading, IsFresh}
use Rattle.yasna.proofs.Laws.{along, unambiguous_by_tags, choice, equal_same, primitively_begins, same_as, signed_coding, unit_coding}
use Rattle.yasna.proofs.Closures.{chosen, found_other, leaf_by, seen}
use Rattle.examples_proved.specs.Items.{as_either, EncodesItem, AnyItem}

number_begins : (m : BERMode) (n : ℕ) (b : List ℕ) → Any (EncodesSigned w64) m n b → BeginsWithTag integer_tag b
number_begins m n b x = primitively_begins (IsSigned w64) integer_tag m n b x

null_begins : (m : BERMode) (n : ℕ) (b : List ℕ) → Any EncodesNull m n b → BeginsWithTag null_tag b
null_begins m n b x = primitively_begins IsNull null_tag m n b x

two_tags : integer_tag ≡ null_tag → ⊥
two_tags e = let f = ap (λ (t : Tag). t.tag_number) e in omega arith

item_same : (v w : Option ℤ) → SameEither (λ x y. x ≡ y) (λ x y. x ≡ y) (as_either v) (as_either w) → v ≡ w
item_same (Some v) (Some w) e = ap Some e
item_same (Some v) None e = absurd e
item_same None (Some w) e = absurd e
item_same None None e = refl

-- an item satisfies the laws
pub item_coding : IsCoding (λ v w. v ≡ w) EncodesItem AnyItem
item_coding = same_as (λ v w. v ≡ w) equal_same item_same
    (along as_either (choice (signed_coding w64) unit_coding (unambiguous_by_tags integer_tag null_tag two_tags number_begins null_begins)))

-- where a NULL's tag is there, an item is a NULL
pub only_null : (m : BERMode) (n : ℕ) (s : List ℕ) → BeginsWithTag null_tag s → (b r : List ℕ) → s ≡ b ++ r → AnyItem m n b → Any EncodesNull m n b
only_null m n s x b r e (inl p) = absurd (found_other null_tag integer_tag s b r x (number_begins m n b p) e (λ f. two_tags (sym f)))
only_null m n s x b r e (inr p) = p

-- where another tag is there, it is an INTEGER
pub only_number : (t : Tag) (m : BERMode) (n : ℕ) (s : List ℕ) → BeginsWithTag t s → (t ≡ null_tag → ⊥) → (b r : List ℕ) → s ≡ b ++ r → AnyItem m n b →
    Any (EncodesSigned w64) m n b
only_number t m n s x other b r e (inl p) = p
only_number t m n s x other b r e (inr p) = absurd (found_other t null_tag s b r x (null_begins m n b p) e other)

-- a NULL says that there is no number
abbrev pub no_number : Unit {0} → Option ℤ
no_number u = None

-- a NULL that is read where one's tag is there
pub null_read : (s : Reading) → IsFresh s → BeginsWithTag null_tag s.left → (x : Result (Unit {0}) ASN1Error) (s' : Reading) →
    Reads (Primitively IsNull) NoLevel NeverAllocates null_tag s x s' → Decodes false EncodesItem AnyItem s (seen no_number x) s'
null_read s fresh found x s' h =
    chosen false false EncodesNull (Any EncodesNull) EncodesItem AnyItem no_number (λ m n u b p. p) (λ e. e) s
    (λ b r e k. only_null s.mode s.levels s.left found b r e k) x s' ((leaf_by (Primitively IsNull) 5 (λ e. omega arith)).decodes s x s' fresh h)

-- an INTEGER that is read where another tag is there
pub number_read : (t : Tag) (s : Reading) → IsFresh s → BeginsWithTag t s.left → (t ≡ null_tag → ⊥) → (x : Result ℤ ASN1Error) (s' : Reading) →
    Reads (Primitively (IsSigned w64)) NoLevel NeverAllocates integer_tag s x s' → Decodes false EncodesItem AnyItem s (seen Some x) s'
number_read t s fresh found other x s' h =
    chosen false false (EncodesSigned w64) (Any (EncodesSigned w64)) EncodesItem AnyItem Some (λ m n v b p. p) (λ e. e) s
    (λ b r e k. only_number t s.mode s.levels s.left found other b r e k) x s'
    ((leaf_by (Primitively (IsSigned w64)) 2 (λ e. omega arith)).decodes s x s' fresh h)
