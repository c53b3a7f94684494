-- Reading by a grammar, from reading by one with fewer values for the same bytes.
use Rattle.std.proofs.Common.{List, Bool, ℕ, Option, Some, None, Result}
use Rattle.yasna_base.specs.declared.error.ASN1Error.{ASN1Error}
use Rattle.yasna_base.specs.declared.mode.BERMode.{BERMode}
use Rattle.yasna_base.specs.declared.tag.Tag.{Tag}
use Rattle.yasna_base.specs.Grammar.{Grammar, Members}
use Rattle.yasna_reader.specs.State.{Reading, untagged}
use Rattle.yasna_reader.proofs.Tuples.{decodes_map}
use Rattle.yasna_notation.specs.Notation.{ReadsAs}

pub reads_map : {A : Type 0} {tags_known : Bool} {ts : List Tag} {retagged may_allocate : Bool} (B D : Option Tag → Grammar A) (S : Option Tag → Members) →
    ((u : Option Tag) (m : BERMode) (n : ℕ) (v : A) (b : List ℕ) → B u m n v b → D u m n v b) → (s : Reading) (r : Result A ASN1Error) (s' : Reading) →
    ReadsAs tags_known ts retagged may_allocate B S s r s' → ReadsAs tags_known ts retagged may_allocate D S s r s'
reads_map {may_allocate = may_allocate} B D S obeys s r s' h = record {
  fresh = λ fresh.
      let d = h.fresh fresh in
      record { decodes = decodes_map may_allocate (B None) (D None) (S None) (obeys None) s r s' d.decodes; no_match = d.no_match };
  replaced = λ may t not range failed waits.
      let d = h.replaced may t not range failed waits in
      record {
        decodes = decodes_map may_allocate (B (Some t)) (D (Some t)) (S (Some t)) (obeys (Some t)) (untagged s) r (untagged s') d.decodes;
        no_match = d.no_match;
      };
  repeats = h.repeats;
}
