-- A value, a beginning or an end is taken.
use Rattle.std.proofs.lemmas.Result.{on_ok_weaker}
use Rattle.run_numbers.proofs.Added.{on_ok_both}
use Rattle.run_numbers.proofs.Tallying.{value_taken}
use Rattle.run_numbers.proofs.tallies.Tallies.take.Goals as goal

pub returns-in-Value : goal.returns-in-Value
returns-in-Value c =
    rw c.in-Value.is
    (on_ok_both c.add.result
    (λ values times run are. value_taken run c.args.self.now c.add.new.self c.in-Value.figure (record { value = c.in-Value.value; place = c.args.place }) values times are)
    c.add.ensures.values c.add.ensures.times)

pub returns-in-Begins : goal.returns-in-Begins
returns-in-Begins c = rw c.in-Begins.is (on_ok_weaker c.begin.result (λ begins run are. begins run c.args.place are) c.begin.ensures)

pub returns-in-Ends : goal.returns-in-Ends
returns-in-Ends c = rw c.in-Ends.is c.end.ensures
