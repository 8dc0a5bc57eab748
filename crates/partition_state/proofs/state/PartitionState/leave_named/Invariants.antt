use Rattle.std.proofs.Common.{◌≡◌, take}
use Rattle.apex_laws.specs.PartSets.{named_left}
use Rattle.partition_state.proofs.state.PartitionState.leave_named.Given as goal

abbrev pub invariant-loop-who : goal.invariant-loop-who
invariant-loop-who l = l.self ≡ named_left l.part l.fn.self.table (take l.who-index l.named) l.fn.self
