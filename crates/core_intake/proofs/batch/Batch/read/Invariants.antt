use Rattle.std.proofs.Common.{◌≡◌, ◌≤◌, false, deque_len, deque_capacity}
use Rattle.core_intake.specs.Batches.{records_answered}
use Rattle.core_intake.proofs.Chains.{Leads}
use Rattle.core_intake.proofs.batch.Batch.read.Given as goal

abbrev pub invariant-loop : goal.invariant-loop
invariant-loop g l = (l.source.stopped ≡ false) × Leads g.R.TextSource.can_fail l.initial.source.left (records_answered l.records.items) l.source.left
    × (deque_len l.records ≡ l.counter) × (l.fn.length ≤ deque_capacity l.records)
