-- What an object and the lock of a partition hold after a call.
use Rattle.std.specs.Prelude.{ℕ, List, [], ◌∷◌, ◌++◌, Option, Some, None, length, nat_eq, if◌then◌else◌}
use Rattle.std.specs.Option.{option_map_or}
use Rattle.apex_types.specs.declared.object_kind.ObjectKind.{ObjectKind}
use Rattle.apex_types.specs.declared.operation.{LockOperation.LockOperation, ObjectOperation.ObjectOperation}
use Rattle.apex_types.specs.declared.operation.ObjectOperation.TheVariants as on
use Rattle.apex_types.specs.declared.record.Call.{Call as CallRecord}
use Rattle.apex_types.specs.declared.record.Out.{Out}
use Rattle.apex_types.specs.declared.request.Request.{Request}
use Rattle.apex_types.specs.declared.request.Request.TheVariants as request
use Rattle.apex_types.specs.declared.shape.AllowedWait.{AllowedWait}
use Rattle.apex_types.specs.declared.shape.End.{End}
use Rattle.apex_types.specs.Shapes.{kind_used, shape_on}
use Rattle.apex_machine.specs.State.{Partition, entries_at_end, item_at, objects_of}
use Rattle.apex_machine.specs.Waiting.{is_waiting}
use Rattle.partition_objects.specs.Numbers.{number_of}
use Rattle.run_numbers.specs.declared.figure.Figure.TheVariants.{Messages, Waiters}
use Rattle.run_numbers.specs.declared.figure.Thing.{Thing}
use Rattle.run_numbers.specs.declared.figure.Thing.TheVariants as thing
use Rattle.run_numbers.specs.declared.observation.Observation.{Observation}
use Rattle.run_numbers.specs.declared.observation.Observation.TheVariants.{Value}
use Rattle.run_numbers.specs.Figures.{thing_of}
use Rattle.run_numbers.specs.Observed.{when}

-- how many processes wait at an end of the object of this kind and number
abbrev pub waiters_at : Partition → ObjectKind → ℕ → End → ℕ
waiters_at partition kind number end =
    option_map_or (λ object. length (entries_at_end kind end object)) (item_at (objects_of partition kind) number) 0

-- so many processes wait where one has begun to
abbrev pub joined_at : ℕ → Option Thing → List Observation
joined_at waiting None = []
joined_at waiting (Some thing) = Value (Waiters thing) waiting ∷ []

-- how many processes wait where the caller of an operation waits, if it may
abbrev pub joined_if : ℕ → Partition → ℕ → ObjectKind → Option AllowedWait → List Observation
joined_if part partition number kind None = []
joined_if part partition number kind (Some allowed) = joined_at (waiters_at partition kind number allowed.end) (thing_of part kind number)

-- the same, if it waits
abbrev pub joined_object : ℕ → Partition → ℕ → ObjectOperation → Out → List Observation
joined_object part partition number operation claimed =
    if is_waiting claimed then joined_if part partition number (kind_used operation) (shape_on operation).wait else []

-- how many messages a buffer holds
abbrev pub held_of_object : ℕ → Partition → ℕ → ObjectOperation → List Observation
held_of_object part partition number (on.Buffer operation) =
    option_map_or (λ buffer. Value (Messages (thing.Buffer part number)) (length buffer.messages) ∷ []) (item_at partition.buffers number) []
held_of_object part partition number other = []

-- how many processes wait for the lock, if the caller does
abbrev pub joined_lock : ℕ → Partition → Out → List Observation
joined_lock part partition claimed = when (is_waiting claimed) (Value (Waiters (thing.Lock part)) (length partition.lock.waiters))

abbrev pub used_through : ℕ → Partition → Out → Request → List Observation
used_through part partition claimed (request.Object given operation) =
    option_map_or (λ number. joined_object part partition number operation claimed ++ held_of_object part partition number operation) (number_of given) []
used_through part partition claimed (request.Preemption LockOperation.Lock) = joined_lock part partition claimed
used_through part partition claimed other = []

-- what the object or the lock holds that a call uses, after the call, if its caller is of this partition
abbrev pub object_used : ℕ → Partition → CallRecord → List Observation
object_used part partition call = if nat_eq call.who.part part then used_through part partition call.claim.out call.request else []
