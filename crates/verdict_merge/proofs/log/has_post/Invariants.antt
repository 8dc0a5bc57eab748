use Rattle.std.proofs.Common.{◌≡◌, drop}
use Rattle.verdict_merge.specs.Logs.{is_posted}
use Rattle.verdict_merge.proofs.log.has_post.Given as goal

abbrev pub invariant-loop-event : goal.invariant-loop-event
invariant-loop-event l = is_posted (drop l.event-index l.log) l.number ≡ is_posted l.log l.number
