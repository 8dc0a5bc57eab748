use Rattle.std.proofs.Common.{◌-◌, ◌≤◌, length}
use Rattle.run_view.proofs.message_links.LinkedThing.keep_count.Given as goal

abbrev pub decreases-unknown : goal.decreases-unknown
decreases-unknown l = l.count - length l.self.held.items

abbrev pub invariant-ended : goal.invariant-ended
invariant-ended l = l.count ≤ length l.self.held.items

abbrev pub decreases-ended : goal.decreases-ended
decreases-ended l = length l.self.held.items
