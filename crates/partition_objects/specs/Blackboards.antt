-- The blackboard after each operation.
use Rattle.std.specs.Prelude.{List, []}
use Rattle.apex_types.specs.declared.operation.{BlackboardOperation.BlackboardOperation}
use Rattle.apex_types.specs.declared.record.Claim.{Claim}
use Rattle.apex_machine.specs.declared.state.Entry.{Entry}
use Rattle.apex_machine.specs.Objects.{blackboard_effect}
use Rattle.apex_machine.specs.State.{Blackboard}
use Rattle.wait_set.specs.declared.object.Actor.{Actor}
use Rattle.wait_set.specs.Actors.{joined_by, left_by}

-- the processes that wait to read after an operation: READ_BLACKBOARD adds a caller that waits
abbrev pub readers_after : Actor → BlackboardOperation → Claim → List Entry → List Entry
readers_after actor (BlackboardOperation.Display length message) claim entries = left_by claim entries
readers_after actor (BlackboardOperation.Read time_out) claim entries = joined_by actor claim [] entries
readers_after actor BlackboardOperation.Clear claim entries = left_by claim entries

-- the blackboard after an operation
abbrev pub after : Actor → BlackboardOperation → Claim → Blackboard → Blackboard
after actor operation claim found = record (blackboard_effect operation found).next { readers = readers_after actor operation claim found.readers }
