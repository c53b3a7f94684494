-- A word with which no type begins is none of each kind.
use Rattle.std.proofs.Common.{ℕ, List, Option, Some, None, ⊎_elim}
use Rattle.std.specs.Prelude.{MatchOption}
use Rattle.asn1_types.specs.declared.builtins.Builtin.{Builtin}
use Rattle.asn1_types.specs.declared.builtins.Builtin.TheVariants.{Boolean, Null, Integer, ObjectIdentifier, OctetString, BitString, Enumerated, Text, UtcTime, GeneralizedTime, Any, Octets, Elements}
use Rattle.asn1_types.specs.declared.model.TextKind.{TextKind}
use Rattle.asn1_types.specs.Words.{IsNoPlainWord, IsNoWord, IsNotUnread, IsTextWord, IsWordOf}

module _ {word : List ℕ} (plain : IsNoPlainWord word) (text : (k : TextKind) → IsTextWord k word → ⊥) where
  no_word : IsNotUnread word → IsNoWord word
  no_word unread Boolean is = plain.boolean is
  no_word unread Null is = plain.null is
  no_word unread Integer is = plain.integer is
  no_word unread ObjectIdentifier is = plain.object is
  no_word unread OctetString is = plain.octet is
  no_word unread BitString is = plain.bit is
  no_word unread Enumerated is = plain.enumerated is
  no_word unread (Text kind) is = text kind is
  no_word unread UtcTime is = plain.utc_time is
  no_word unread GeneralizedTime is = plain.generalized_time is
  no_word unread Any is = plain.any is
  no_word unread (Octets number what) is = ⊎_elim (λ string. unread.strings number string.1) (λ contained. unread.contained number contained.1) is
  no_word unread (Elements number) is = unread.elements number is

  pub builtin_or_none : (found : Option Builtin) → MatchOption found (IsNotUnread word) (λ b. IsWordOf b word) →
      MatchOption found (IsNoWord word) (λ b. IsWordOf b word)
  builtin_or_none (Some builtin) is = is
  builtin_or_none None unread = no_word unread
