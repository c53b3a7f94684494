-- The laws of filters.
use Rattle.std.proofs.Common.{refl}
use Rattle.yasna_notation.specs.Notation.{MeaningKeepsLaws, IsNonEmptyEncoding, IsWrittenMeaning}
use Rattle.ldap.specs.contracts.filter_item.FilterItemNotation.TheImpl.Laws.{lawful-law as item_lawful, non_empty-law as item_non_empty}
use Rattle.ldap.specs.contracts.filter_item.FilterItemCanonicalNotation.TheImpl.Laws.{written-law as item_written}
use Rattle.ldap.specs.Filters.{item_means, the_filter, filter_step, depth_of}
use Rattle.ldap.specs.Recursion.{IsStep}
use Rattle.ldap.specs.FilterLaws.{filter_is_step, filter_lawful, filter_non_empty}
use Rattle.ldap.specs.FilterWriting.{filter_written}

pub the_filter_lawful : MeaningKeepsLaws the_filter
the_filter_lawful = filter_lawful item_means (item_lawful refl).own refl refl refl

pub the_step : IsStep (filter_step item_means) depth_of
the_step = filter_is_step item_means (item_lawful refl).own refl refl refl

pub the_filter_non_empty : IsNonEmptyEncoding the_filter
the_filter_non_empty = filter_non_empty item_means item_non_empty

pub the_filter_written : IsWrittenMeaning the_filter
the_filter_written = filter_written item_means (item_written refl).own the_step
