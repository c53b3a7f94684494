-- Tuples of seven parts and more: six parts and those after them, as pairs one inside the other (X.690, 8.9).
use Rattle.std.specs.Prelude.{Bool, ◌||◌}
use Rattle.std.specs.Borrow.{Bor}
use Rattle.yasna_base.specs.Grammar.{Grammar, Members, Encoding}
use Rattle.yasna_base.specs.Sequence.{PartOf, AnyPart, part_encoding, part_can}

-- whether reading six parts, or those after them, may allocate
abbrev pub six_may_allocate : Bool → Bool → Bool → Bool → Bool → Bool → Bool → Bool
six_may_allocate a b c d e f others = a || (b || (c || (d || (e || (f || others)))))

-- contents encode some values of six parts and of those after them
abbrev pub AnySixParts : Members → Members → Members → Members → Members → Members → Members → Members
AnySixParts a b c d e f others = AnyPart a (AnyPart b (AnyPart c (AnyPart d (AnyPart e (AnyPart f others)))))

module _ {A B C D E F W : Type 0} where
  -- six values and those after them, as pairs
  abbrev pub in_pairs : (A × B × C × D × E × F) × W → A × (B × (C × (D × (E × (F × W)))))
  in_pairs v = (v.0.0, (v.0.1, (v.0.2, (v.0.3, (v.0.4, (v.0.5, v.1))))))

  -- the values of six references and those after them, as pairs
  abbrev pub values_in_pairs : Bor A × Bor B × Bor C × Bor D × Bor E × Bor F → W → A × (B × (C × (D × (E × (F × W)))))
  values_in_pairs six others = (six.0.now, (six.1.now, (six.2.now, (six.3.now, (six.4.now, (six.5.now, others))))))

  -- contents encode six parts and those after them
  abbrev pub SixPartsOf : Grammar A → Grammar B → Grammar C → Grammar D → Grammar E → Grammar F → Grammar W → Grammar (A × (B × (C × (D × (E × (F × W))))))
  SixPartsOf a b c d e f others = PartOf a (PartOf b (PartOf c (PartOf d (PartOf e (PartOf f others)))))

  -- the encodings of six parts and of those after them, one after the other
  abbrev pub six_encoding : Encoding A → Encoding B → Encoding C → Encoding D → Encoding E → Encoding F → Encoding W → Encoding (A × (B × (C × (D × (E × (F × W))))))
  six_encoding a b c d e f others = part_encoding a (part_encoding b (part_encoding c (part_encoding d (part_encoding e (part_encoding f others)))))

  -- six parts and those after them can be written where each can
  abbrev pub six_can : (A → Type 0) → (B → Type 0) → (C → Type 0) → (D → Type 0) → (E → Type 0) → (F → Type 0) → (W → Type 0) → A × (B × (C × (D × (E × (F × W))))) → Type 0
  six_can a b c d e f others = part_can a (part_can b (part_can c (part_can d (part_can e (part_can f others)))))
