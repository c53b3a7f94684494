use Rattle.std.proofs.Common.{ap, sym, ◌∙◌}
use Rattle.yasna_notation.specs.declared.choices.Either.TheVariants.{First}
use Rattle.yasna_notation.proofs.Chosen.{second_is}
use Rattle.ldap.proofs.protocol_op.ProtocolOpRepresentsFields.from_value.Goals as goal

pub returns-in-First-First : goal.returns-in-First-First
returns-in-First-First c =
    let x = c.in-First-First in
    sym (x.is ∙ ap (λ z. First z) (x.field-0-is))

pub returns-in-First-Second-First : goal.returns-in-First-Second-First
returns-in-First-Second-First c =
    let x = c.in-First-Second-First in
    sym (x.is ∙ ap (λ z. First z) (second_is x.field-0-is x.field-0-0-is))

pub returns-in-First-Second-Second-First : goal.returns-in-First-Second-Second-First
returns-in-First-Second-Second-First c =
    let x = c.in-First-Second-Second-First in
    sym (x.is ∙ ap (λ z. First z) (second_is x.field-0-is (second_is x.field-0-0-is x.field-0-0-0-is)))

pub returns-in-First-Second-Second-Second-First : goal.returns-in-First-Second-Second-Second-First
returns-in-First-Second-Second-Second-First c =
    let x = c.in-First-Second-Second-Second-First in
    sym (x.is ∙ ap (λ z. First z) (second_is x.field-0-is (second_is x.field-0-0-is (second_is x.field-0-0-0-is x.field-0-0-0-0-is))))

pub returns-in-First-Second-Second-Second-Second-First : goal.returns-in-First-Second-Second-Second-Second-First
returns-in-First-Second-Second-Second-Second-First c =
    let x = c.in-First-Second-Second-Second-Second-First in
    sym (x.is ∙ ap (λ z. First z) (second_is x.field-0-is (second_is x.field-0-0-is (second_is x.field-0-0-0-is (second_is x.field-0-0-0-0-is x.field-0-0-0-0-0-is)))))

pub returns-in-First-Second-Second-Second-Second-Second-First : goal.returns-in-First-Second-Second-Second-Second-Second-First
returns-in-First-Second-Second-Second-Second-Second-First c =
    let x = c.in-First-Second-Second-Second-Second-Second-First in
    sym (x.is ∙ ap (λ z. First z) (second_is x.field-0-is (second_is x.field-0-0-is (second_is x.field-0-0-0-is (second_is x.field-0-0-0-0-is (second_is x.field-0-0-0-0-0-is x.field-0-0-0-0-0-0-is))))))

pub returns-in-First-Second-Second-Second-Second-Second-Second : goal.returns-in-First-Second-Second-Second-Second-Second-Second
returns-in-First-Second-Second-Second-Second-Second-Second c =
    let x = c.in-First-Second-Second-Second-Second-Second-Second in
    sym (x.is ∙ ap (λ z. First z) (second_is x.field-0-is (second_is x.field-0-0-is (second_is x.field-0-0-0-is (second_is x.field-0-0-0-0-is (second_is x.field-0-0-0-0-0-is x.field-0-0-0-0-0-0-is))))))

pub returns-in-Second : goal.returns-in-Second
returns-in-Second c = sym c.in-Second.is
