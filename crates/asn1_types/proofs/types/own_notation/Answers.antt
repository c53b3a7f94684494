use Rattle.std.proofs.Common.{◌≡◌, Some, refl, rules, subst}
use Rattle.std.specs.List.{slice_get}
use Rattle.asn1_types.specs.declared.builtins.Builtin.{Builtin}
use Rattle.asn1_types.specs.Notations.{builtin, enumerated}
use Rattle.asn1_types.specs.Context.{context_of}
use Rattle.asn1_types.specs.Words.{IsWordOf}
use Rattle.asn1_types.proofs.Growing.{continues_unchanged}
use Rattle.asn1_types.proofs.Steps.{as_left_open}
use Rattle.asn1_types.proofs.types.own_notation.Goals as goal

pub returns-in_ok-index-in-Enumerated-clause-own : goal.returns-in_ok-index-in-Enumerated-clause-own
returns-in_ok-index-in-Enumerated-clause-own c =
    let first : slice_get c.args.plain.now.words.items 0 ≡ Some c.in-Some.word = search rules in
    enumerated first (subst (λ (b : Builtin). IsWordOf b c.in-Some.word.text.now) c.in-Enumerated.is c.in-Some-builtin_of.ensures) refl
    c.in_ok-index-in-Enumerated.ensures.enumerated

pub returns-in_ok-notation-in_default-builtin : goal.returns-in_ok-notation-in_default-builtin
returns-in_ok-notation-in_default-builtin c =
    let first : slice_get c.args.plain.now.words.items 0 ≡ Some c.in-Some.word = search rules in
    record {
      continues = continues_unchanged c.in_ok-notation-in_default-builtin.ensures.unchanged;
      own = builtin first c.in-Some-builtin_of.ensures
          (c.in_ok-notation-in_default-builtin.ensures.builtin c.in_default-builtin.not-Enumerated);
    }

pub returns-in_default-builtin_of-clause-own : goal.returns-in_default-builtin_of-clause-own
returns-in_default-builtin_of-clause-own c =
    let first : slice_get c.args.plain.now.words.items 0 ≡ Some c.in-Some.word = search rules in
    as_left_open (context_of c.open_notation.new.r) c.args.plain.now c.open_notation.result first c.in_default-builtin_of.ensures
    c.open_notation.ensures.left_open
