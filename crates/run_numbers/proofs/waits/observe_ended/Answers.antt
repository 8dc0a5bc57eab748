-- The end of one wait more each time.
use Rattle.std.proofs.Common.{arith}
use Rattle.run_numbers.specs.Waits.{ended_of}
use Rattle.run_numbers.proofs.Added.{all_of, none_added, one_more}
use Rattle.run_numbers.proofs.waits.observe_ended.Goals as goal

pub loop-who-init : goal.loop-who-init
loop-who-init c = none_added c.args.observed.now.items

pub loop-who-preserved : goal.loop-who-preserved
loop-who-preserved c =
    let moment = c.args.moment.now in
    one_more (ended_of moment.part moment.clock.now.cores moment.state.now moment.is_tick) c.args.woken.now c.loop-who.who-index c.who-item.result c.args.observed.now.items c.loop-who.observed.items _
    c.loop-who-test.true c.who-item.is c.loop-who.invariant c.in_ok-observe_named.ensures

pub returns : goal.returns
returns c =
    let moment = c.args.moment.now in
    all_of (ended_of moment.part moment.clock.now.cores moment.state.now moment.is_tick) c.args.woken.now c.loop-who.who-index c.args.observed.now.items c.loop-who.observed.items (omega arith)
    c.loop-who.invariant
