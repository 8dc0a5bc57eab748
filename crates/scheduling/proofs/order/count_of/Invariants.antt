use Rattle.std.proofs.Common.{◌≡◌, ◌≤◌, ◌+◌, drop}
use Rattle.scheduling.specs.Due.{count_of}
use Rattle.scheduling.proofs.order.count_of.Given as goal

abbrev pub invariant-loop-who : goal.invariant-loop-who
invariant-loop-who l = record {
  so_far : l.count + count_of l.part (drop l.who-index l.named) ≡ count_of l.part l.named;
  below : l.count ≤ l.who-index;
}
