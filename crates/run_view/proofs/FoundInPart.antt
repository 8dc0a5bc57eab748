-- What is found in a partition: its mode, its processes, its lock, and its objects kind by kind.
use Rattle.std.proofs.Common.{◌⊎◌, inl, inr, ℕ, List, [], refl, arith}
use Rattle.std.proofs.lemmas.List.Elements.{All-nil}
use Rattle.apex_types.specs.declared.object_kind.ObjectKind.{ObjectKind}
use Rattle.apex_types.specs.declared.object_kind.ObjectKind.TheVariants as kind
use Rattle.apex_machine.specs.State.{Partition}
use Rattle.run_view.specs.declared.change.Change.{Change}
use Rattle.run_view.specs.Adds.{Adds}
use Rattle.run_view.specs.ObjectChanges.{IsFoundInKind}
use Rattle.run_view.specs.Objects.{IsShown, ShowsKind}
use Rattle.run_view.specs.ProcessChanges.{IsFoundInProcesses}
use Rattle.run_view.specs.Seen.{IsFoundInLock, IsFoundInMode, IsFoundInPartition, PieceSeen, objects_of}
use Rattle.run_view.proofs.AddsExactly.{adds_same}

-- what was found of a partition, one thing after another
abbrev pub IsFoundInTurn : ℕ → PieceSeen → PieceSeen → Change → Type 0
IsFoundInTurn part before after change =
    (((((((IsFoundInMode part before.mode after.mode change ⊎ IsFoundInProcesses part before.processes after.processes change)
    ⊎ IsFoundInLock part before.lock after.lock change) ⊎ IsFoundInKind part kind.Buffer before.buffers after.buffers change)
    ⊎ IsFoundInKind part kind.Blackboard before.blackboards after.blackboards change) ⊎ IsFoundInKind part kind.Semaphore before.semaphores after.semaphores change)
    ⊎ IsFoundInKind part kind.Event before.events after.events change) ⊎ IsFoundInKind part kind.Mutex before.mutexes after.mutexes change)

in_partition : (part : ℕ) (before after : PieceSeen) (change : Change) → IsFoundInTurn part before after change → IsFoundInPartition part before after change
in_partition part before after change (inr found) = inr (inr (inr (kind.Mutex, found)))
in_partition part before after change (inl (inr found)) = inr (inr (inr (kind.Event, found)))
in_partition part before after change (inl (inl (inr found))) = inr (inr (inr (kind.Semaphore, found)))
in_partition part before after change (inl (inl (inl (inr found)))) = inr (inr (inr (kind.Blackboard, found)))
in_partition part before after change (inl (inl (inl (inl (inr found))))) = inr (inr (inr (kind.Buffer, found)))
in_partition part before after change (inl (inl (inl (inl (inl (inr found)))))) = inr (inr (inl found))
in_partition part before after change (inl (inl (inl (inl (inl (inl (inr found))))))) = inr (inl found)
in_partition part before after change (inl (inl (inl (inl (inl (inl (inl found))))))) = inl found

-- nothing is found among no objects
none_of_kind : (part : ℕ) (kind : ObjectKind) (change : Change) → IsFoundInKind part kind [] [] change → ⊥
none_of_kind part kind change (inl found) = absurd (omega (arith, found.1.1))
none_of_kind part kind change (inr found) = absurd (omega (arith, found.1.1))

kind_in_turn : (part : ℕ) (before after : PieceSeen) (change : Change) (kind : ObjectKind) → IsFoundInKind part kind (objects_of before kind) (objects_of after kind) change
    → IsFoundInTurn part before after change
kind_in_turn part before after change kind.Buffer found = inl (inl (inl (inl (inr found))))
kind_in_turn part before after change kind.Blackboard found = inl (inl (inl (inr found)))
kind_in_turn part before after change kind.Semaphore found = inl (inl (inr found))
kind_in_turn part before after change kind.Event found = inl (inr found)
kind_in_turn part before after change kind.Mutex found = inr found
kind_in_turn part before after change kind.SamplingPort found = absurd (none_of_kind part kind.SamplingPort change found)
kind_in_turn part before after change kind.QueuingPort found = absurd (none_of_kind part kind.QueuingPort change found)

in_turn : (part : ℕ) (before after : PieceSeen) (change : Change) → IsFoundInPartition part before after change → IsFoundInTurn part before after change
in_turn part before after change (inl found) = inl (inl (inl (inl (inl (inl (inl found))))))
in_turn part before after change (inr (inl found)) = inl (inl (inl (inl (inl (inl (inr found))))))
in_turn part before after change (inr (inr (inl found))) = inl (inl (inl (inl (inl (inr found)))))
in_turn part before after change (inr (inr (inr found))) = kind_in_turn part before after change found.0 found.1

-- what is found one thing after another is what is found in the partition
pub adds_of_partition : (part : ℕ) (before after : PieceSeen) {old new : List Change} → Adds (IsFoundInTurn part before after) old new → Adds (IsFoundInPartition part before after) old new
adds_of_partition part before after {old} {new} adds =
    adds_same {IsSo = IsFoundInTurn part before after} {AlsoIs = IsFoundInPartition part before after} (in_partition part before after) (in_turn part before after) adds

-- the objects of each kind are shown, if those of the kinds that hold something are
pub each_kind : (partition : Partition) (seen : PieceSeen) → ShowsKind kind.Buffer partition seen.buffers → ShowsKind kind.Blackboard partition seen.blackboards
    → ShowsKind kind.Semaphore partition seen.semaphores → ShowsKind kind.Event partition seen.events → ShowsKind kind.Mutex partition seen.mutexes → (kind : ObjectKind)
    → ShowsKind kind partition (objects_of seen kind)
each_kind partition seen buffers blackboards semaphores events mutexes kind.Buffer = buffers
each_kind partition seen buffers blackboards semaphores events mutexes kind.Blackboard = blackboards
each_kind partition seen buffers blackboards semaphores events mutexes kind.Semaphore = semaphores
each_kind partition seen buffers blackboards semaphores events mutexes kind.Event = events
each_kind partition seen buffers blackboards semaphores events mutexes kind.Mutex = mutexes
each_kind partition seen buffers blackboards semaphores events mutexes kind.SamplingPort = record { numbers = refl; each = All-nil (IsShown kind.SamplingPort partition) }
each_kind partition seen buffers blackboards semaphores events mutexes kind.QueuingPort = record { numbers = refl; each = All-nil (IsShown kind.QueuingPort partition) }
