use Rattle.std.proofs.Common.{◌≡◌, ◌∙◌, true, false, inl, inr, sym}
use Rattle.std.specs.Prelude.{Bool, IsTrue}
use Rattle.asn1show_printer.proofs.sets.order_of.Goals as goal

differ : (b : Bool) → b ≡ false → IsTrue b → ⊥
differ b e t = let f : false ≡ true = sym e ∙ t in absurd (cc)

pub returns-in-Ok : goal.returns-in-Ok
returns-in-Ok c = record {
  repeated = c.in-Ok.repeated;
  said = c.order_diagnostic.ensures;
  repeats = c.in-Ok.ensures {u = tt};
  disorder = λ ps are ordered. elim ordered [
    | inl by_tags ↦ differ _ c.if-are_in_order.false ((c.are_in_order.ensures ps are).1 by_tags)
    | inr by_octets ↦ differ _ c.if-are_in_order-2.false ((c.are_in_order-else-are_in_order.ensures ps are).1 by_octets)
  ];
}
