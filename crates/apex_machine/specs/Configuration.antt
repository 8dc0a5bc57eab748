-- What a module's configuration says: cores, frame, skew, partitions with their limits, windows, channels.
use Rattle.std.specs.Prelude.{◌≡◌, IsTrue, ℕ, ◌+◌, ◌%◌, List, [], ◌∷◌, Option, Some, None, Bool, false, ◌&&◌, nat_eq, nat_le, nat_lt, if◌then◌else◌, is_some, ℤ, pos, negsuc}
use Rattle.std.specs.List.{find, list_any}
use Rattle.std.specs.Option.{option_map_or}
use Rattle.apex_types.specs.declared.discipline.Discipline.{Discipline}
use Rattle.apex_machine.specs.declared.state.ErrorPolicy.{ErrorPolicy}

-- a partition's window: in each major frame the core is the partition's from the window's start on, for its length
pub record Window : Type 0 where
  pub core : ℕ
  pub partition : ℕ
  pub start : ℕ
  pub span : ℕ

-- a partition: its period, its cores, the first of which is its first core, how many processes and objects of each kind it may create, and
-- what is done about an error that no handler takes
pub record PartitionLimits : Type 0 where
  pub number : ℕ
  pub period : ℕ
  pub cores : List ℕ
  pub processes : ℕ
  pub buffers : ℕ
  pub blackboards : ℕ
  pub semaphores : ℕ
  pub events : ℕ
  pub mutexes : ℕ
  pub on_error : ErrorPolicy

-- an end of a channel: a partition's port, by its name   (interpartition communication, section 2)
pub record ChannelEnd : Type 0 where
  pub partition : ℕ
  pub port : List ℕ

-- a sampling channel: the greatest size of its message, its refresh period, its source, unless that is outside the module, and its
-- destinations inside
pub record SamplingChannel : Type 0 where
  pub number : ℕ
  pub size : ℕ
  pub refresh : ℕ
  pub source : Option ChannelEnd
  pub destinations : List ChannelEnd

-- a queuing channel: the greatest size of its messages, how many it holds, and its two ends, each with its port's discipline, unless the
-- end is outside the module
pub record QueuingChannel : Type 0 where
  pub number : ℕ
  pub size : ℕ
  pub capacity : ℕ
  pub source : Option ChannelEnd
  pub source_discipline : Discipline
  pub destination : Option ChannelEnd
  pub destination_discipline : Discipline

-- whether an end of a channel is a port of this partition; an end outside is none's
abbrev pub is_end_of : ℕ → Option ChannelEnd → Bool
is_end_of partition None = false
is_end_of partition (Some place) = nat_eq place.partition partition

-- a module, with its partitions in rising order of their numbers
pub record Configuration : Type 0 where
  pub cores : ℕ
  pub frame : ℕ
  pub skew : ℕ
  pub partitions : List PartitionLimits
  pub windows : List Window
  pub sampling : List SamplingChannel
  pub queuing : List QueuingChannel

-- whether a window of this core holds this time within the major frame
abbrev pub is_within : ℕ → ℕ → Window → Bool
is_within core offset window = nat_eq window.core core && (nat_le window.start offset && nat_lt offset (window.start + window.span))

-- the partition of the first of these windows that holds the time within the major frame, if any
abbrev pub window_among : ℕ → ℕ → List Window → Option ℕ
window_among core offset [] = None
window_among core offset (window ∷ windows) = if is_within core offset window then Some window.partition else window_among core offset windows

-- the partition whose window of this core holds the time modulo the major frame, if any   (partition scheduling, section 2)
abbrev pub window_at : Configuration → ℕ → ℕ → Option ℕ
window_at configuration core time = window_among core (time % configuration.frame) configuration.windows

-- the first of these items that has this number, if there is one
abbrev pub numbered : {Item : Type 0} → (Item → ℕ) → ℕ → List Item → Option Item
numbered number_of number items = find (λ item. nat_eq (number_of item) number) items

-- the limits of the partition of this number, if it is configured
abbrev pub limits_of : Configuration → ℕ → Option PartitionLimits
limits_of configuration number = numbered (λ limits. limits.number) number configuration.partitions

-- whether a partition of this number is configured
abbrev pub has_partition : Configuration → ℕ → Bool
has_partition configuration number = is_some (limits_of configuration number)

-- whether a partition is configured and this is one of its cores
abbrev pub has_core : ℕ → Option PartitionLimits → Bool
has_core core found = option_map_or (λ limits. list_any (nat_eq core) limits.cores) found false

-- whether a caller's number is one of the partition's cores
abbrev pub is_core : Configuration → ℕ → ℤ → Bool
is_core configuration number (pos core) = has_core core (limits_of configuration number)
is_core configuration number (negsuc n) = false

-- the first core of a list; a configured partition has at least one
abbrev pub first_of : List ℕ → ℕ
first_of [] = 0
first_of (core ∷ cores) = core

-- the first core of a partition: the initialising process runs there, and each process until its affinity is set
abbrev pub first_core : Configuration → ℕ → ℕ
first_core configuration number = option_map_or (λ limits. first_of limits.cores) (limits_of configuration number) 0

-- how many objects of a kind a partition may create
abbrev pub object_limit : Configuration → (PartitionLimits → ℕ) → ℕ → ℕ
object_limit configuration kind number = option_map_or kind (limits_of configuration number) 0

-- how many processes a partition may create
abbrev pub process_limit : Configuration → ℕ → ℕ
process_limit configuration number = object_limit configuration (λ limits. limits.processes) number

-- a partition's period
abbrev pub period_of : Configuration → ℕ → ℕ
period_of configuration number = option_map_or (λ limits. limits.period) (limits_of configuration number) 1

-- each window is of a configured partition
abbrev pub WindowsAreConfigured : Configuration → Type 0
WindowsAreConfigured configuration =
    (core time partition : ℕ) → window_at configuration core time ≡ Some partition → IsTrue (has_partition configuration partition)
