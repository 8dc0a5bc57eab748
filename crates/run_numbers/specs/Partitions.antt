-- What a record gives to the figures of the processes and mutexes of a partition.
use Rattle.std.specs.Prelude.{ℕ, List, [], ◌++◌, Bool, true, false, nat_eq, ◌&&◌}
use Rattle.std.specs.List.{flat_map}
use Rattle.apex_types.specs.declared.error.ErrorCode.{ErrorCode}
use Rattle.apex_types.specs.declared.error.ErrorCode.TheVariants as error
use Rattle.apex_types.specs.declared.record.Body.{Body}
use Rattle.apex_types.specs.declared.record.Body.TheVariants.{Arrive, Call, Depart, Disp, Error, Ret, Tick}
use Rattle.apex_types.specs.declared.record.ErrorReport.{ErrorReport}
use Rattle.apex_machine.specs.declared.state.CoreState.{CoreState}
use Rattle.apex_machine.specs.State.{Partition}
use Rattle.run_numbers.specs.declared.figure.Figure.TheVariants.{Missed}
use Rattle.run_numbers.specs.declared.observation.Observation.{Observation}
use Rattle.run_numbers.specs.declared.observation.Observation.TheVariants.{Value}
use Rattle.run_numbers.specs.Activities.{spent}
use Rattle.run_numbers.specs.Calls.{called}
use Rattle.run_numbers.specs.Observed.{when}
use Rattle.run_numbers.specs.Releases.{ran}
use Rattle.run_numbers.specs.Waits.{ended_of}

abbrev pub is_missed_deadline : ErrorCode → Bool
is_missed_deadline error.DeadlineMissed = true
is_missed_deadline other = false

-- the report of a missed deadline of a process of this partition
abbrev pub reported : ℕ → ErrorReport → List Observation
reported part report = when (nat_eq report.who.part part && is_missed_deadline report.error) (Value (Missed report.who) 1)

-- what a record of a core gives, by the cores and the partition before it
abbrev pub observed_of_partition : ℕ → List CoreState → ℕ → Partition → Body → List Observation
observed_of_partition part cores core partition (Tick woken) =
    flat_map (spent part cores core) partition.table ++ flat_map (ended_of part cores partition true) woken
observed_of_partition part cores core partition (Disp who) = ran part cores core partition.table who
observed_of_partition part cores core partition (Call call) =
    called part cores core partition call ++ flat_map (ended_of part cores partition false) call.claim.woken
observed_of_partition part cores core partition (Arrive crossing) = flat_map (ended_of part cores partition false) crossing.woken
observed_of_partition part cores core partition (Depart crossing) = flat_map (ended_of part cores partition false) crossing.woken
observed_of_partition part cores core partition (Error report) = reported part report
observed_of_partition part cores core partition (Ret ret) = []
