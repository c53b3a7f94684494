use Rattle.std.proofs.Common.{◌≡◌, [], ◌∷◌, ◌++◌, arith}
use Rattle.std.proofs.lemmas.Grind.{common_steps}
use Rattle.yasna_times.proofs.models.generalized_time.push_fraction.Goals as goal

pub returns : goal.returns
returns c =
    let point : c.push.new.self.items ≡ c.args.text.now.items ++ (46 ∷ []) = search (c.in_ok-push.ensures {u = tt}).items in
    grind (arith, common_steps)
