-- An element whose header was read, as contracts see it.
use Rattle.std.specs.Prelude.{ℕ, List}
use Rattle.yasna_base.specs.Header.{ContentsEnd, definite_end, indefinite_end}
use Rattle.yasna_base.specs.declared.tag.PCBit.{PCBit}
use Rattle.yasna_bytes.specs.declared.bytes.header.ContentsEnd.{ContentsEnd as EndFound}
use Rattle.yasna_bytes.specs.declared.bytes.header.ContentsEnd.TheVariants.{Definite, Indefinite}

-- whether the contents are elements, the contents or where their length is indefinite all bytes that are left, and where they end
pub record Opening : Type 0 where
  pub bit : PCBit
  pub contents : List ℕ
  pub end : ContentsEnd

-- where contents end whose length has this form
abbrev pub end_found : EndFound → ContentsEnd
end_found (Definite a) = definite_end a.now
end_found Indefinite = indefinite_end

-- what is seen of an element whose header was read
abbrev pub opening : PCBit → List ℕ → EndFound → Opening
opening bit c e = record { bit = bit; contents = c; end = end_found e }
