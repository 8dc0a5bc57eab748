use Rattle.std.proofs.Common.{◌≡◌, true, false, []}
use Rattle.crossbeam_channel.specs.Claims.{view, IsSeatAt}
use Rattle.crossbeam_channel.specs.Ends.{sends_on}
use Rattle.core_intake.specs.Relay.{log}
use Rattle.core_intake.specs.Batches.{all_answers}
use Rattle.core_intake.proofs.Chains.{Leads}
use Rattle.core_intake.proofs.feed.send_all.Given as goal

abbrev pub invariant-loop : goal.invariant-loop
invariant-loop g l = IsSeatAt (sends_on l.sender) l.side × (view l.side ≡ log true false (view l.side).sent []) × (l.source.stopped ≡ false)
    × Leads g.R.TextSource.can_fail l.initial.source.left (all_answers (view l.side).sent) l.source.left
