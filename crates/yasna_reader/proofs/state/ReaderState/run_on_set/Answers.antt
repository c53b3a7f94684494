use Rattle.yasna_reader.proofs.SetRuns.{takes_set, ran_on_set}
use Rattle.yasna_reader.proofs.state.ReaderState.run_on_set.Goals as goal

pub run-returned-requires : goal.run-returned-requires
run-returned-requires g c p k =
    takes_set g.F.FnOnce c.args.f c.args.self.now c.in-Ok.list c.in-Ok.rest.now c.emptied.result c.requires.takes (c.in-Ok.ensures {u = tt})
    c.emptied.ensures p k

pub returns-in-Ok : goal.returns-in-Ok
returns-in-Ok g c =
    ran_on_set g.F.FnOnce c.args.f c.args.self.now c.in-Ok.list c.in-Ok.rest.now c.emptied.result c.run-returned.result _ c.returned_of_all.result
    c.pass.new.self (c.in-Ok.ensures {u = tt}) c.emptied.ensures c.run-returned.ensures
    c.returned_of_all.ensures c.pass.ensures
