-- What a table configures: a walk over its keys in a fixed order, which ends at the first refusal.
use Rattle.std.specs.Prelude.{ℕ, ◌+◌, ◌-◌, List, [], ◌∷◌, Option, Result, Ok, Err, Bool, pos, nat_le, nat_lt, ◌&&◌, if◌then◌else◌}
use Rattle.toml.specs.Data.{Data, integer, Items, no_items, item, Members}
use Rattle.apex_types.specs.declared.limits.TheConstants.{GREATEST_PARTITION, MOST_CORES, MOST_OBJECTS, MOST_PROCESSES}
use Rattle.apex_machine.specs.Channels.{in_order}
use Rattle.apex_machine.specs.Configuration.{Configuration, PartitionLimits, Window}
use Rattle.module_config.specs.declared.fault.ConfigFault.{ConfigFault}
use Rattle.module_config.specs.declared.fault.ConfigFault.TheVariants.{OutOfRange}
use Rattle.module_config.specs.declared.keys.ItemType.TheVariants as of
use Rattle.module_config.specs.declared.place.ConfigKey.TheVariants as key
use Rattle.module_config.specs.declared.place.ConfigTable.{ConfigTable}
use Rattle.module_config.specs.declared.place.ConfigTable.TheVariants as table
use Rattle.module_config.specs.declared.refusal.ConfigRefusal.{ConfigRefusal}
use Rattle.module_config.specs.ChannelWalk.{queuing_under, sampling_under}
use Rattle.module_config.specs.Keys.{◌>>=◌, error_policy_at, integer_at, natural_at, ticks_at, some_at, each_item}
use Rattle.module_config.specs.Order.{comes_before, begins_before}
use Rattle.module_config.specs.Places.{at, each_under, item_in}

-- the next core of a partition's list: above those before it, and one of the module's
abbrev pub core_in : ℕ → ℕ → Data → Result ℕ ConfigFault
core_in count least (integer (pos core)) = if nat_le least core && nat_lt core count then Ok core else Err OutOfRange
core_in count least _ = Err OutOfRange

-- the cores of a partition's list, in rising order
abbrev pub rising_cores : ℕ → ℕ → Items → Result (List ℕ) ConfigFault
rising_cores count least no_items = Ok []
rising_cores count least (item value items) =
    core_in count least value >>= (λ core.
    rising_cores count (core + 1) items >>= (λ rest. Ok (core ∷ rest)))

-- the cores of a partition: a list of at least one integer, in rising order, each a core of the module
abbrev pub cores_at : ℕ → Option Data → Result (List ℕ) ConfigFault
cores_at count value = some_at of.Integer value >>= rising_cores count 0

-- how many objects of a kind a partition may create
abbrev pub objects_at : Option Data → Result ℕ ConfigFault
objects_at value = integer_at 0 MOST_OBJECTS value

-- what is read, put in order
abbrev pub put_by : {A : Type 0} → (A → A → Bool) → Result (List A) ConfigRefusal → Result (List A) ConfigRefusal
put_by precedes reading = reading >>= (λ all. Ok (in_order precedes [] all))

-- what the keys of a partition's table configure, in a module of this many cores
abbrev pub partition_by : ℕ → ConfigTable → Members → Result PartitionLimits ConfigRefusal
partition_by count own keys =
    at own keys key.Number (integer_at 0 GREATEST_PARTITION) >>= (λ number.
    at own keys key.Period ticks_at >>= (λ period.
    at own keys key.Cores (cores_at count) >>= (λ cores.
    at own keys key.Processes (integer_at 1 MOST_PROCESSES) >>= (λ processes.
    at own keys key.Buffers objects_at >>= (λ buffers.
    at own keys key.Blackboards objects_at >>= (λ blackboards.
    at own keys key.Semaphores objects_at >>= (λ semaphores.
    at own keys key.Events objects_at >>= (λ events.
    at own keys key.Mutexes objects_at >>= (λ mutexes.
    at own keys key.OnError error_policy_at >>= (λ on_error.
    Ok (record {
      number = number;
      period = period;
      cores = cores;
      processes = processes;
      buffers = buffers;
      blackboards = blackboards;
      semaphores = semaphores;
      events = events;
      mutexes = mutexes;
      on_error = on_error;
    })))))))))))

-- the partition at an index of the list, which must be a table
abbrev pub partition_in : ℕ → ℕ → Data → Result PartitionLimits ConfigRefusal
partition_in count index value = item_in key.Partition value >>= partition_by count (table.Item key.Partition index)

-- the partitions: a list of at least one table, put in the order of their numbers
abbrev pub partitions_under : ℕ → Members → Result (List PartitionLimits) ConfigRefusal
partitions_under count keys = put_by comes_before (at table.Module keys key.Partition (some_at of.Table) >>= each_item (partition_in count))

-- what the keys of a window's table configure; the window ends within the major frame
abbrev pub window_by : ℕ → ℕ → ConfigTable → Members → Result Window ConfigRefusal
window_by count frame own keys =
    at own keys key.Core (integer_at 0 (count - 1)) >>= (λ core.
    at own keys key.Partition (integer_at 0 GREATEST_PARTITION) >>= (λ partition.
    at own keys key.Start natural_at >>= (λ start.
    at own keys key.Length (integer_at 1 (frame - start)) >>= (λ span.
    Ok (record { core = core; partition = partition; start = start; span = span })))))

-- the window at an index of the list, which must be a table
abbrev pub window_in : ℕ → ℕ → ℕ → Data → Result Window ConfigRefusal
window_in count frame index value = item_in key.Window value >>= window_by count frame (table.Item key.Window index)

-- the windows: a list of tables, put in the order of their cores and starts; there are none if the key is missing
abbrev pub windows_under : ℕ → ℕ → Members → Result (List Window) ConfigRefusal
windows_under count frame keys = put_by begins_before (each_under table.Module keys key.Window (window_in count frame))

-- what a table configures, each key judged by itself; the channels are in the order of the text; keys of other names are ignored
abbrev pub walk : Members → Result Configuration ConfigRefusal
walk keys =
    at table.Module keys key.Cores (integer_at 1 MOST_CORES) >>= (λ cores.
    at table.Module keys key.Frame ticks_at >>= (λ frame.
    at table.Module keys key.Skew ticks_at >>= (λ skew.
    partitions_under cores keys >>= (λ partitions.
    windows_under cores frame keys >>= (λ windows.
    sampling_under keys >>= (λ sampling.
    queuing_under keys >>= (λ queuing.
    Ok (record {
      cores = cores;
      frame = frame;
      skew = skew;
      partitions = partitions;
      windows = windows;
      sampling = sampling;
      queuing = queuing;
    }))))))))
