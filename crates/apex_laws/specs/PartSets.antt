-- The waiting sets of a sound partition, for code that changes them one after another: by a call, by one process that leaves, and by the
-- processes that a tick names. Each law is the contract of a function in `src/lib.rt`.
use Rattle.std.specs.Prelude.{◌≡◌, ℕ, List, [], ◌∷◌, ◌++◌, Option, Some, None, IsTrue, IsFalse, nat_eq, if◌then◌else◌}
use Rattle.apex_types.specs.declared.record.Body.TheVariants.{Call, Tick}
use Rattle.apex_types.specs.declared.record.Call.{Call as CallRecord}
use Rattle.apex_types.specs.declared.record.Who.{Who}
use Rattle.apex_machine.specs.declared.state.Entry.{Entry}
use Rattle.apex_machine.specs.declared.state.Process.{Process}
use Rattle.apex_machine.specs.declared.state.WaitingSet.{WaitingSet}
use Rattle.apex_machine.specs.After.{each_set, sets_left}
use Rattle.apex_machine.specs.State.{Partition, Table, is_named, item_at}
use Rattle.apex_machine.specs.Waiting.{enters, entry_of, is_restart, set_after, stop_of, without}
use Rattle.apex_laws.specs.Laws.{entries_at}
use Rattle.apex_laws.specs.PartLaws.{IsSoundPart}
use Rattle.apex_laws.specs.PartObjects.{left_by, without_one}

-- calls

-- a call that is no STOP and no restart takes the processes that it names out of a waiting set, and no others; its caller enters at the
-- end, if it waits in that set
abbrev pub NamedLeave : Type 0
NamedLeave =
    (place : ℕ) (call : CallRecord) (wanted : WaitingSet) (entries : List Entry) → stop_of call.request ≡ None → IsFalse (is_restart call)
    → (IsTrue (enters call wanted)
    → set_after place (Call call) wanted entries ≡ without (λ who. is_named who call.claim.woken) entries ++ entry_of place call ∷ [])
    × (IsFalse (enters call wanted) → set_after place (Call call) wanted entries ≡ without (λ who. is_named who call.claim.woken) entries)

-- one process

-- a process of a sound partition has an entry in no waiting set but the one that its wait names, which may be that of the lock: once it leaves
-- that set, it has left all sets
abbrev pub LeavesEverySet : Type 0
LeavesEverySet =
    (number place : ℕ) (partition : Partition) (who : Who) (process : Process) → IsSoundPart number place partition
    → item_at partition.table who.proc ≡ Some process
    → ((wanted : WaitingSet) → entries_at (left_by who process.wait partition) wanted ≡ without_one who (entries_at partition wanted))
    × ((left_by who process.wait partition).lock.waiters ≡ without_one who partition.lock.waiters)
    × (left_by who process.wait partition ≡ each_set (λ wanted entries. without_one who entries) (record partition { lock = (left_by who process.wait partition).lock }))

-- ticks

-- the partition after this process leaves the waiting set that its wait names, if there is such a process
abbrev pub left_if_there : Who → Option Process → Partition → Partition
left_if_there who None partition = partition
left_if_there who (Some process) partition = left_by who process.wait partition

-- the partition after each process of a list that is of this partition leaves, one after another, the waiting set that its wait names
abbrev pub named_left : ℕ → Table → List Who → Partition → Partition
named_left number table [] partition = partition
named_left number table (who ∷ others) partition =
    named_left number table others (if nat_eq who.part number then left_if_there who (item_at table who.proc) partition else partition)

-- a tick changes the waiting sets of a sound partition in this way: each process that it names leaves the set that its wait names, in the
-- order in which they are named
abbrev pub EachNamedLeaves : Type 0
EachNamedLeaves =
    (number place : ℕ) (partition : Partition) (woken : List Who) → IsSoundPart number place partition
    → named_left number partition.table woken partition ≡ sets_left place (Tick woken) partition
