-- The figure has one value more, and the others those that they had.
use Rattle.std.proofs.Common.{◌∙◌}
use Rattle.std.proofs.lemmas.Result.{on_ok_weaker}
use Rattle.run_numbers.proofs.Tallying.{values_after}
use Rattle.run_numbers.proofs.tallies.Tallies.add.Goals as goal

pub returns-clause-values : goal.returns-clause-values
returns-clause-values c =
    on_ok_weaker c.put_copy.result
    (λ updates. values_after _ c.args.self.now c.args.figure.now c.args.later.now c.with-tally.result updates.0 (λ points is. c.with-tally.ensures points (c.tally.ensures ∙ is)))
    c.put_copy.ensures
