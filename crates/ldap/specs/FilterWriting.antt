-- The meaning of a filter satisfies the laws of writing.
use Rattle.std.proofs.Common.{None, Box, arith}
use Rattle.std.specs.Global.{Global}
use Rattle.yasna_base.specs.Canonical.{IsWritten}
use Rattle.yasna_notation.specs.Canonical.{represented_written, choice_written_as}
use Rattle.yasna_notation.specs.Notation.{Meaning, IsWrittenMeaning}
use Rattle.yasna_notation.specs.Writing.{set_of_written, under_context, explicit_written, alternative_written, non_empty_set_written}
use Rattle.ldap.specs.declared.filter.Filter.{Filter}
use Rattle.ldap.specs.declared.filter_item.FilterItem.{FilterItem}
use Rattle.ldap.specs.Filters.{parted_of, depth_of, parted_means, filter_step, filter_means}
use Rattle.ldap.specs.Recursion.{IsStep}
use Rattle.ldap.specs.RecursionWriting.{means_written}

module _ (item : Meaning FilterItem) (laws : IsWritten item.same (item.under None) (item.encoding_under None) item.depth item.can) where
  step_written : (x : Meaning Filter) → IsWrittenMeaning x → IsWrittenMeaning (filter_step item x)
  step_written x k =
      represented_written parted_of
      (choice_written_as (parted_means item x).encoding_under
      (alternative_written (under_context 0 (omega arith) (non_empty_set_written (set_of_written k.own))).own
      (alternative_written (under_context 1 (omega arith) (non_empty_set_written (set_of_written k.own))).own
      (alternative_written (explicit_written (represented_written (λ (v : Box Filter Global). v.value) k).own 2 (omega arith)).own laws))))

  pub filter_written : IsStep (filter_step item) depth_of → IsWrittenMeaning (filter_means item)
  filter_written step = means_written step step_written
