-- A tick is one of the core.
use Rattle.std.proofs.Common.{◌∙◌, ◌+◌, ◌-◌, ◌^◌, ap, min}
use Rattle.apex_machine.specs.State.{time_of}
use Rattle.run_numbers.proofs.Ended.{one_tick_more}
use Rattle.run_numbers.proofs.waits.end_time.Goals as goal

pub returns-then-is_tick : goal.returns-then-is_tick
returns-then-is_tick c =
    rw c.if-is_tick.true
    (one_tick_more (time_of c.args.clock.now.cores c.args.core) c.saturating_add.result (c.saturating_add.ensures ∙ ap (λ time. min (time + 1) (2 ^ 64 - 1)) c.now.ensures))
