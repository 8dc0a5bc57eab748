-- What a call makes of the objects of its caller's partition: the one object that it names changes, with its waiting sets, and all others
-- stay.
use Rattle.std.specs.Prelude.{◌≡◌, ℕ, ℤ, IsFalse, IsTrue, List, [], ◌∷◌, ◌++◌, Some, if◌then◌else◌}
use Rattle.apex_types.specs.declared.object_kind.ObjectKind.{ObjectKind}
use Rattle.apex_types.specs.declared.record.Body.TheVariants.{Call, Tick}
use Rattle.apex_types.specs.declared.record.Call.{Call as CallRecord}
use Rattle.apex_types.specs.declared.record.Who.{Who}
use Rattle.apex_types.specs.declared.operation.{ProcessOperation.ProcessOperation, SamplingOperation.SamplingOperation}
use Rattle.apex_types.specs.declared.request.Request.{Request}
use Rattle.apex_types.specs.declared.request.Request.TheVariants as request
use Rattle.apex_types.specs.declared.shape.End.{End}
use Rattle.apex_types.specs.Requested.{kind_of}
use Rattle.apex_types.specs.Shapes.{kind_used}
use Rattle.apex_machine.specs.declared.state.CoreState.{CoreState}
use Rattle.apex_machine.specs.declared.state.Entry.{Entry}
use Rattle.apex_machine.specs.declared.state.Process.{Process}
use Rattle.apex_machine.specs.declared.state.Wait.{Wait}
use Rattle.apex_machine.specs.declared.state.Wait.TheVariants as wait
use Rattle.apex_machine.specs.declared.state.WaitingSet.{WaitingSet}
use Rattle.apex_machine.specs.After.{is_done, is_valid, lock_called, new_object, numbered_if, objects_called, sets_left, with_sets}
use Rattle.apex_machine.specs.Arguments.{natural_of}
use Rattle.apex_machine.specs.Configuration.{Configuration}
use Rattle.apex_machine.specs.Locks.{lock_stopped}
use Rattle.apex_machine.specs.Objects.{object_effect}
use Rattle.apex_machine.specs.Pieces.{stops_some}
use Rattle.apex_machine.specs.Services.{peer}
use Rattle.apex_machine.specs.State.{Lock, ObjectOf, Partition, Port, Table, change_at, created, is_named, is_same, is_same_end, objects_of, with_ends, with_objects}
use Rattle.apex_machine.specs.Waiting.{is_in, is_no_error, set_after, without}
use Rattle.apex_laws.specs.Laws.{entries_at}
use Rattle.apex_laws.specs.PartLaws.{IsOwnCall, IsSoundPart}

-- an object of a kind after the call: if the call is done, its content is as its rule leaves it; its waiting sets change by the processes
-- whose waits the call ends and by the one that enters
abbrev pub used_by : (kind : ObjectKind) → ℕ → CallRecord → ℕ → (ObjectOf kind → ObjectOf kind) → ObjectOf kind → ObjectOf kind
used_by kind place call number rule found = with_sets kind (set_after place (Call call)) number (if is_done call.claim.out then rule found else found)

-- the partition with the one object changed that a request names, or with what the request creates; any other request leaves all objects
-- unchanged
abbrev pub objects_changed : Configuration → ℕ → CallRecord → Request → Partition → Partition
objects_changed configuration place call (request.Object number operation) partition =
    with_objects (kind_used operation)
    (change_at (natural_of number) (used_by (kind_used operation) place call (natural_of number) (λ found. (object_effect call.who.proc operation found).next))
    (objects_of partition (kind_used operation))) partition
objects_changed configuration place call (request.Create name object) partition =
    let before = objects_of partition (kind_of object) in
    with_objects (kind_of object)
    (if is_done call.claim.out then before ++ numbered_if call.claim.val (new_object configuration call.who.part name object) else before) partition
objects_changed configuration place call (request.SamplingPort port SamplingOperation.Read) partition = record partition {
  sampling_ports = if is_done call.claim.out
      then change_at (natural_of port) (λ (found : Port). record found { valid = is_valid call.claim.val }) partition.sampling_ports
      else partition.sampling_ports;
}
objects_changed configuration place call _ partition = partition

-- an own call that stops no process changes the one object that it names or adds the one that it creates, and leaves all other objects and
-- ports unchanged
abbrev pub OneObjectChanges : Type 0
OneObjectChanges =
    (configuration : Configuration) (number place core : ℕ) (cores : List CoreState) (partition : Partition) (call : CallRecord)
    → IsOwnCall configuration number place core cores partition call → IsFalse (stops_some call)
    → (asked : Request) → call.request ≡ asked → objects_called configuration place call partition ≡ objects_changed configuration place call asked partition

-- an own call that is not done leaves all objects, waiting sets and ports unchanged
abbrev pub RefusedLeavesObjects : Type 0
RefusedLeavesObjects =
    (configuration : Configuration) (number place core : ℕ) (cores : List CoreState) (partition : Partition) (call : CallRecord)
    → IsOwnCall configuration number place core cores partition call → IsFalse (is_done call.claim.out) → objects_called configuration place call partition ≡ partition

-- a STOP that is done

-- a change of the entries at one end
abbrev pub at_end : End → (List Entry → List Entry) → End → List Entry → List Entry
at_end changed change end entries = if is_same_end changed end then change entries else entries

-- the partition with one waiting set of its objects changed
abbrev pub with_set : WaitingSet → (List Entry → List Entry) → Partition → Partition
with_set wanted change partition =
    with_objects wanted.kind (change_at wanted.number (with_ends wanted.kind (at_end wanted.end change)) (objects_of partition wanted.kind)) partition

-- a waiting set without this process
abbrev pub without_one : Who → List Entry → List Entry
without_one who entries = without (λ other. is_same other who) entries

-- the partition after this process leaves the waiting set that its wait names, if it names one
abbrev pub left_by : Who → Wait → Partition → Partition
left_by who (wait.At wanted due) partition = with_set wanted (without_one who) partition
left_by who wait.ForLock partition = record partition { lock = record partition.lock { waiters = without_one who partition.lock.waiters } }
left_by who _ partition = partition

-- the lock after a stop of this process that ends the waits of these: an owner gives it up
abbrev pub stopped_lock : ℕ → List Who → Lock → Lock
stopped_lock number woken lock = record (lock_stopped number lock) { waiters = without (λ who. is_named who woken) lock.waiters }

-- a STOP that is done takes its target out of the one waiting set that its wait names: no other process leaves or enters the set of an
-- object, and all other objects and ports stay. If the target owns the lock, it gives the lock up
abbrev pub StoppedLeaves : Type 0
StoppedLeaves =
    (configuration : Configuration) (number place core : ℕ) (cores : List CoreState) (partition : Partition) (call : CallRecord)
    → IsOwnCall configuration number place core cores partition call → (process : ℤ) → call.request ≡ request.Process process ProcessOperation.Stop → IsTrue (is_no_error call.claim.out)
    → (target : Process) → created partition.table process ≡ Some target
    → ((wanted : WaitingSet) → set_after place (Call call) wanted (entries_at partition wanted) ≡ without_one (peer call.who process) (entries_at partition wanted))
    × ((wanted : WaitingSet) → IsFalse (is_in wanted target.wait) → set_after place (Call call) wanted (entries_at partition wanted) ≡ entries_at partition wanted)
    × (record (objects_called configuration place call partition) { lock = lock_called place call partition.lock }
    ≡ left_by (peer call.who process) target.wait (record partition { lock = stopped_lock (natural_of process) call.claim.woken partition.lock }))

-- ticks

-- the partition after each process of a table that is named leaves, one after another, the waiting set that its wait names
abbrev pub all_left : ℕ → List Who → Table → Partition → Partition
all_left number woken [] partition = partition
all_left number woken (entry ∷ entries) partition =
    let who : Who = record { part = number; proc = entry.0 } in
    all_left number woken entries (if is_named who woken then left_by who entry.1.wait partition else partition)

-- a tick changes the waiting sets of a sound partition in this way: each process that is named leaves the set that its wait names
abbrev pub EachLeavesItsSet : Type 0
EachLeavesItsSet =
    (number place : ℕ) (partition : Partition) (woken : List Who) → IsSoundPart number place partition
    → sets_left place (Tick woken) partition ≡ all_left number woken partition.table partition
