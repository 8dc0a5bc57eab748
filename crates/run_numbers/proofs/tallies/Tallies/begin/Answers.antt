-- A time of the figure goes on, and the others as they did.
use Rattle.std.proofs.Common.{refl}
use Rattle.std.proofs.lemmas.Result.{on_ok_weaker}
use Rattle.run_numbers.proofs.Tallying.{beginning_taken}
use Rattle.run_numbers.proofs.tallies.Tallies.begin.Goals as goal

pub returns : goal.returns
returns c =
    on_ok_weaker c.put.result (λ updates run place are. beginning_taken run c.args.self.now _ c.args.figure.now c.args.time place (λ other. refl) updates.0 are) c.put.ensures
