-- Tags of the class PRIVATE (X.680, 8.1).
use Rattle.std.proofs.Common.{◌≡◌, ℕ, ap, arith}
use Rattle.yasna_base.specs.declared.tag.Tag.{Tag}
use Rattle.yasna_base.specs.declared.tag.TagClass.TheVariants.{Private}
use Rattle.yasna_base.specs.Identifier.{class_number, end_tag}

-- the tag that a module writes as [PRIVATE number]
abbrev pub private : ℕ → Tag
private number = record { tag_class = Private; tag_number = number }

-- a tag of that class isn't that of the end of contents
pub private_not_end : (k : ℕ) → private k ≡ end_tag → ⊥
private_not_end k e = let c = ap (λ (t : Tag). class_number t.tag_class) e in absurd (omega arith)
