use Rattle.std.proofs.Common.{◌≡◌}
use Rattle.crossbeam_channel.specs.Claims.{view, IsSeatAt}
use Rattle.crossbeam_channel.specs.Ends.{receives_on}
use Rattle.core_intake.specs.Relay.{log}
use Rattle.core_intake.specs.Batches.{AreAtHand}
use Rattle.core_intake.proofs.lane.receive.Given as goal

abbrev pub invariant-loop : goal.invariant-loop
invariant-loop g l = IsSeatAt (receives_on l.receiver) l.side
    × (view l.side ≡ log (view l.initial.side).sends (view l.initial.side).receives (view l.initial.side).sent (view l.side).received)
    × AreAtHand (view l.initial.side).received l.initial.hand (view l.side).received l.hand
