-- One observation more each time.
use Rattle.std.proofs.Common.{arith}
use Rattle.run_numbers.proofs.Taking.{all_taken, one_more_taken}
use Rattle.run_numbers.proofs.numbers.take_all.Goals as goal

pub loop-observation-init : goal.loop-observation-init
loop-observation-init c = λ run are. are

pub loop-observation-preserved : goal.loop-observation-preserved
loop-observation-preserved c =
    one_more_taken c.args.place c.args.observed.now c.loop-observation.observation-index c.observation-item.result c.args.tallies.now c.loop-observation.tallies _ c.loop-observation-test.true
    c.observation-item.is c.loop-observation.invariant c.in_ok-take.ensures

pub returns : goal.returns
returns c = all_taken c.args.place c.args.observed.now c.loop-observation.observation-index c.args.tallies.now c.loop-observation.tallies (omega arith) c.loop-observation.invariant
