-- The event after each operation.
use Rattle.std.specs.Prelude.{List, []}
use Rattle.apex_types.specs.declared.operation.{EventOperation.EventOperation}
use Rattle.apex_types.specs.declared.record.Claim.{Claim}
use Rattle.apex_machine.specs.declared.state.Entry.{Entry}
use Rattle.apex_machine.specs.Objects.{event_effect}
use Rattle.apex_machine.specs.State.{Event}
use Rattle.wait_set.specs.declared.object.Actor.{Actor}
use Rattle.wait_set.specs.Actors.{joined_by, left_by}

-- the processes that wait after an operation: WAIT_EVENT adds a caller that waits
abbrev pub waiters_after : Actor → EventOperation → Claim → List Entry → List Entry
waiters_after actor EventOperation.Set claim entries = left_by claim entries
waiters_after actor EventOperation.Reset claim entries = left_by claim entries
waiters_after actor (EventOperation.Wait time_out) claim entries = joined_by actor claim [] entries

-- the event after an operation
abbrev pub after : Actor → EventOperation → Claim → Event → Event
after actor operation claim found = record (event_effect operation found).next { waiters = waiters_after actor operation claim found.waiters }
