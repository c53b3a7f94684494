use Rattle.std.proofs.Common.{arith, sym}
use Rattle.yasna_notation.proofs.Chosen.{second_is}
use Rattle.snmp.proofs.v1.object_syntax.ObjectSyntaxRepresentsSides.from_value.Goals as goal

pub returns-in-First : goal.returns-in-First
returns-in-First c = grind arith

pub returns-in-Second-First : goal.returns-in-Second-First
returns-in-Second-First c =
    let x = c.in-Second-First in
    sym (second_is x.is x.field-0-is)

pub returns-in-Second-Second-First : goal.returns-in-Second-Second-First
returns-in-Second-Second-First c =
    let x = c.in-Second-Second-First in
    sym (second_is x.is (second_is x.field-0-is x.field-0-0-is))

pub returns-in-Second-Second-Second-First : goal.returns-in-Second-Second-Second-First
returns-in-Second-Second-Second-First c =
    let x = c.in-Second-Second-Second-First in
    sym (second_is x.is (second_is x.field-0-is (second_is x.field-0-0-is x.field-0-0-0-is)))

pub returns-in-First-others : goal.returns-in-First-others
returns-in-First-others c =
    let w = c.in-Second-Second-Second-Second in
    let x = c.in-First-others in
    sym (second_is w.is (second_is w.field-0-is (second_is w.field-0-0-is (second_is w.field-0-0-0-is x.is))))

pub returns-in-Second-First-others : goal.returns-in-Second-First-others
returns-in-Second-First-others c =
    let w = c.in-Second-Second-Second-Second in
    let x = c.in-Second-First-others in
    sym (second_is w.is (second_is w.field-0-is (second_is w.field-0-0-is (second_is w.field-0-0-0-is (second_is x.is x.field-0-is)))))

pub returns-in-Second-Second-First-others : goal.returns-in-Second-Second-First-others
returns-in-Second-Second-First-others c =
    let w = c.in-Second-Second-Second-Second in
    let x = c.in-Second-Second-First-others in
    sym (second_is w.is (second_is w.field-0-is (second_is w.field-0-0-is (second_is w.field-0-0-0-is (second_is x.is
    (second_is x.field-0-is x.field-0-0-is))))))

pub returns-in-Second-Second-Second-First-others : goal.returns-in-Second-Second-Second-First-others
returns-in-Second-Second-Second-First-others c =
    let w = c.in-Second-Second-Second-Second in
    let x = c.in-Second-Second-Second-First-others in
    sym (second_is w.is (second_is w.field-0-is (second_is w.field-0-0-is (second_is w.field-0-0-0-is (second_is x.is
    (second_is x.field-0-is (second_is x.field-0-0-is x.field-0-0-0-is)))))))

pub returns-in-Second-Second-Second-Second-others : goal.returns-in-Second-Second-Second-Second-others
returns-in-Second-Second-Second-Second-others c =
    let w = c.in-Second-Second-Second-Second in
    let x = c.in-Second-Second-Second-Second-others in
    sym (second_is w.is (second_is w.field-0-is (second_is w.field-0-0-is (second_is w.field-0-0-0-is (second_is x.is
    (second_is x.field-0-is (second_is x.field-0-0-is x.field-0-0-0-is)))))))
