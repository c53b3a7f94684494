-- The parts of a SET and the tags that they begin with.
use Rattle.std.proofs.Common.{◌≡◌, ℕ, List, [], ◌∷◌, ◌++◌, length, sym, ap, ◌∙◌, subst, Vec, arith}
use Rattle.std.proofs.lemmas.List.{map-append}
use Rattle.std.proofs.lemmas.List.Folds.{flat_map-map}
use Rattle.std.specs.Global.{Global}
use Rattle.std.specs.List.{AllByRecursion, flat_map}
use Rattle.yasna_base.specs.declared.tag.Tag.{Tag}
use Rattle.yasna_base.specs.Order.{in_order}
use Rattle.yasna_base.specs.Set.{SetPart, HasItsTag, part_cmp, parts_bytes, SetContents}
use Rattle.yasna_writer.specs.declared.tagged_part.TaggedPart.{TaggedPart}
use Rattle.yasna_writer.specs.Parts.{bytes_each, set_part_of, parts_of}
use Rattle.yasna_writer.specs.Set.{AreTagged}
use Rattle.yasna_writer.proofs.Sets.{flat_concat}

all_joined : {X : Type 0} (P : X → Type 0) (xs ys : List X) → AllByRecursion P xs → AllByRecursion P ys → AllByRecursion P (xs ++ ys)
all_joined P [] ys a b = b
all_joined P (x ∷ xs) ys a b = (a.0, all_joined P xs ys a.1 b)

-- the tag of one more part was found
pub tagged_more : (done : List (Vec ℕ Global)) (ts : List TaggedPart) (v : Vec ℕ Global) (t : Tag) → AreTagged (bytes_each done) (parts_of ts) →
    HasItsTag (record { tag = t; bytes = v.items }) → AreTagged (bytes_each (done ++ (v ∷ []))) (parts_of (ts ++ (record { tag = t; bytes = v } ∷ [])))
tagged_more done ts v t h i =
    let more : List TaggedPart = record { tag = t; bytes = v } ∷ [] in
    let e : parts_of (ts ++ more) ≡ parts_of ts ++ parts_of more = map-append set_part_of ts more in (
      subst (λ ps. AllByRecursion HasItsTag ps) (sym e) (all_joined HasItsTag (parts_of ts) (parts_of more) h.0 (i, tt)),
      ap parts_bytes e ∙ map-append (λ (p : SetPart). p.bytes) (parts_of ts) (parts_of more) ∙ ap (λ bs. bs ++ (v.items ∷ [])) h.1 ∙
          sym (map-append (λ (w : Vec ℕ Global). w.items) done (v ∷ [])),
    )

-- parts of which one begins with no identifier have no tags
pub not_tagged : (done : List (Vec ℕ Global)) (v : Vec ℕ Global) (rest : List (Vec ℕ Global)) →
    ((t : Tag) → HasItsTag (record { tag = t; bytes = v.items }) → ⊥) → (ts : List SetPart) → AreTagged (bytes_each (done ++ (v ∷ rest))) ts → ⊥
not_tagged [] v rest none [] h = omega (arith, ap length h.1)
not_tagged [] v rest none (t ∷ ts) h =
    let e : t.bytes ≡ v.items = let f = h.1 in cc in
    none t.tag (subst (λ b. HasItsTag (record { tag = t.tag; bytes = b })) e h.0.0)
not_tagged (d ∷ done) v rest none [] h = omega (arith, ap length h.1)
not_tagged (d ∷ done) v rest none (t ∷ ts) h =
    let e : parts_bytes ts ≡ bytes_each (done ++ (v ∷ rest)) = let f = h.1 in cc in
    not_tagged done v rest none ts (h.0.1, e)

-- parts in order of their tags make the contents of a SET
pub set_contents : (ps : List (List ℕ)) (ts us : List TaggedPart) → AreTagged ps (parts_of ts) → parts_of us ≡ in_order part_cmp (parts_of ts) →
    SetContents ps (flat_map (λ (p : TaggedPart). p.bytes.items) us)
set_contents ps ts us h e = record {
  tagged = parts_of ts;
  tags = h.0;
  same = h.1;
  joined = sym (flat_map-map (λ (p : SetPart). p.bytes) set_part_of us) ∙ ap (λ qs. flat_map (λ (p : SetPart). p.bytes) qs) e ∙
      flat_concat (λ (p : SetPart). p.bytes) (in_order part_cmp (parts_of ts));
}
