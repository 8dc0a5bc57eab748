-- The error conditions of CREATE_BUFFER and its counterparts for the other kinds.
use Rattle.std.specs.Prelude.{ℕ, List, [], ◌++◌, length, Bool, false, not, nat_le}
use Rattle.apex_types.specs.declared.object_kind.ObjectKind.{ObjectKind}
use Rattle.apex_types.specs.declared.object_kind.ObjectKind.TheVariants as kind
use Rattle.apex_types.specs.declared.operation.{NewObject.NewObject}
use Rattle.apex_types.specs.Requested.{kind_of}
use Rattle.apex_machine.specs.declared.condition.Condition.{Condition}
use Rattle.apex_machine.specs.declared.condition.Condition.TheVariants as condition
use Rattle.apex_machine.specs.Arguments.{is_capacity, is_discipline, is_maximum, is_priority, is_size, suits_maximum}
use Rattle.apex_machine.specs.Channels.{queuing_port, sampling_port}
use Rattle.apex_machine.specs.Conditions.{creation_conditions, is_taken, when}
use Rattle.apex_machine.specs.Configuration.{Configuration, object_limit}
use Rattle.apex_machine.specs.PortConditions.{is_queuing_port, is_sampling_port}
use Rattle.apex_machine.specs.State.{Partition, name_in, objects_of}

-- whether as many objects of a kind are created as are configured; ports have no such limit, since each configured port may be created once
abbrev pub is_full : Configuration → ℕ → Partition → ObjectKind → Bool
is_full configuration number partition kind.Buffer = nat_le (object_limit configuration (λ limits. limits.buffers) number) (length partition.buffers)
is_full configuration number partition kind.Blackboard =
    nat_le (object_limit configuration (λ limits. limits.blackboards) number) (length partition.blackboards)
is_full configuration number partition kind.Semaphore = nat_le (object_limit configuration (λ limits. limits.semaphores) number) (length partition.semaphores)
is_full configuration number partition kind.Event = nat_le (object_limit configuration (λ limits. limits.events) number) (length partition.events)
is_full configuration number partition kind.Mutex = nat_le (object_limit configuration (λ limits. limits.mutexes) number) (length partition.mutexes)
is_full configuration number partition kind.SamplingPort = false
is_full configuration number partition kind.QueuingPort = false

-- the parameters of a creation: for a buffer a size, a capacity and a discipline in range; for a blackboard a size; for a semaphore a
-- maximum and a discipline, and a value that suits the maximum; for a mutex a priority and a discipline; for a port what is configured
abbrev pub parameter_conditions : Configuration → ℕ → List ℕ → NewObject → List Condition
parameter_conditions configuration number name (NewObject.Buffer size capacity discipline) =
    when (not (is_size size)) condition.SizeOutOfRange
    ++ when (not (is_capacity capacity)) condition.CapacityOutOfRange
    ++ when (not (is_discipline discipline)) condition.DisciplineOutOfRange
parameter_conditions configuration number name (NewObject.Blackboard size) = when (not (is_size size)) condition.SizeOutOfRange
parameter_conditions configuration number name (NewObject.Semaphore value maximum discipline) =
    when (not (is_maximum maximum)) condition.MaximumOutOfRange
    ++ when (not (suits_maximum maximum value)) condition.ValueOutOfRange
    ++ when (not (is_discipline discipline)) condition.DisciplineOutOfRange
parameter_conditions configuration number name NewObject.Event = []
parameter_conditions configuration number name (NewObject.Mutex priority discipline) =
    when (not (is_priority priority)) condition.PriorityOutOfRange ++ when (not (is_discipline discipline)) condition.DisciplineOutOfRange
parameter_conditions configuration number name (NewObject.SamplingPort size direction refresh) =
    when (not (is_sampling_port (sampling_port configuration number name) size direction refresh)) condition.NotAsConfigured
parameter_conditions configuration number name (NewObject.QueuingPort size capacity direction discipline) =
    when (not (is_queuing_port (queuing_port configuration number name) size capacity direction discipline)) condition.NotAsConfigured

-- CREATE_BUFFER and its counterparts: the conditions of every creation, and those on its parameters
abbrev pub create_conditions : Configuration → ℕ → Partition → List ℕ → NewObject → List Condition
create_conditions configuration number partition name object =
    creation_conditions partition (is_taken (name_in (kind_of object)) name (objects_of partition (kind_of object)))
    (is_full configuration number partition (kind_of object))
    ++ parameter_conditions configuration number name object
