use Rattle.std.proofs.Common.{◌≡◌, drop}
use Rattle.verdict_merge.specs.Logs.{claimant}
use Rattle.verdict_merge.proofs.log.find_claimant.Given as goal

abbrev pub invariant-loop-event : goal.invariant-loop-event
invariant-loop-event l = claimant (drop l.event-index l.log) l.number ≡ claimant l.log l.number
