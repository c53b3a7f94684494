use Rattle.std.proofs.Common.{◌≡◌, ◌++◌, ◌∷◌, [], rules, inr, subst, List, append_assoc, ◌∙◌, sym, ap}
use Rattle.std.specs.Vec.Iter.{into_iter_items}
use Rattle.yasna_base.specs.declared.error.ASN1ErrorKind.TheVariants.{Invalid}
use Rattle.yasna_base.specs.Error.{kind_of}
use Rattle.yasna_base.specs.Set.{HasItsTag}
use Rattle.yasna_writer.specs.declared.tagged_part.TaggedPart.{TaggedPart}
use Rattle.yasna_writer.specs.Parts.{bytes_each, parts_of}
use Rattle.yasna_writer.specs.Set.{AreTagged}
use Rattle.yasna_writer.proofs.SetParts.{tagged_more, not_tagged}
use Rattle.yasna_writer.proofs.tagged_part.tag_parts.Goals as goal

pub returns-in_default-first_tag : goal.returns-in_default-first_tag
returns-in_default-first_tag c =
    let kind : kind_of c.new-in_default-first_tag.result ≡ Invalid = search rules in
    let part = c.in-Some.bytes in
    let rest = into_iter_items c.next.new.self in
    let steps : into_iter_items c.loop-bytes.bytes-iterator ≡ part ∷ rest = c.in-Some.ensures.steps.0 in
    let all = c.loop-bytes.invariant.1 ∙ ap (λ vs. c.loop-bytes.yielded ++ vs) steps in
    inr (
      kind,
      λ ts h.
          not_tagged c.loop-bytes.yielded part rest
          (λ t i. c.in_default-first_tag.ensures {u = tt} t (subst (λ b. HasItsTag (record { tag = t; bytes = b })) (sym c.deref.ensures.value) i)) ts
          (subst (λ vs. AreTagged (bytes_each vs) ts) all h),
    )

pub loop-bytes-preserved : goal.loop-bytes-preserved
loop-bytes-preserved c =
    let part = c.in-Some.bytes in
    let rest = into_iter_items c.next.new.self in
    let steps : into_iter_items c.loop-bytes.bytes-iterator ≡ part ∷ rest = c.in-Some.ensures.steps.0 in
    let tag = c.in-Some-first_tag.tag in
    let has = subst (λ b. HasItsTag (record { tag = tag; bytes = b })) c.deref.ensures.value (c.in-Some-first_tag.ensures {u = tt}) in (
      subst (λ (ts : List TaggedPart). AreTagged (bytes_each (c.loop-bytes.yielded ++ (part ∷ []))) (parts_of ts)) (sym ((c.in-Ok-push.ensures {u = tt}).items))
          (tagged_more c.loop-bytes.yielded c.loop-bytes.tagged.items part tag c.loop-bytes.invariant.0 has),
      c.loop-bytes.invariant.1 ∙ ap (λ vs. c.loop-bytes.yielded ++ vs) steps ∙ sym (append_assoc c.loop-bytes.yielded (part ∷ []) rest),
    )
