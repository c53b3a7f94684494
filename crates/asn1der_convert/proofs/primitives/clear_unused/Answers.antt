use Rattle.std.proofs.Common.{◌∷◌, [], ◌++◌, sym, ap, ◌∙◌}
use Rattle.yasna_base.specs.Bits.{padded}
use Rattle.asn1der_convert.proofs.Parts.{padded_last}
use Rattle.asn1der_convert.proofs.primitives.clear_unused.Goals as goal

pub returns : goal.returns
returns c =
    (c.in_ok-push.ensures {u = tt}).items ∙ ap (λ b. c.pop.new.self.items ++ (b ∷ [])) c.cleared_byte.ensures ∙
    sym (padded_last c.args.unused c.pop.new.self.items c.in-Some.last) ∙ ap (padded c.args.unused) (sym (c.in-Some.ensures {u = tt}).items)
