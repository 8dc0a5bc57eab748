-- What is refused over the whole of a configuration, once each key has been read.
use Rattle.std.specs.Prelude.{ℕ, ◌+◌, List, [], ◌∷◌, length, Option, Some, None, Bool, false, not, ◌&&◌, ◌||◌, nat_eq, nat_lt, if◌then◌else◌}
use Rattle.std.specs.List.{list_any, list_all}
use Rattle.apex_types.specs.declared.limits.TheConstants.{MOST_CHANNELS, MOST_PARTITIONS, MOST_PORTS, MOST_WINDOWS}
use Rattle.apex_machine.specs.Channels.{channel_numbers}
use Rattle.apex_machine.specs.Configuration.{Configuration, PartitionLimits, Window, has_core, numbered}
use Rattle.module_config.specs.declared.ends.Likeness.TheVariants as by
use Rattle.module_config.specs.declared.fault.ConfigFault.{ConfigFault}
use Rattle.module_config.specs.declared.fault.ConfigFault.TheVariants.{TooMany, Duplicate, CoreNotOfPartition, Overlap, ChannelEnds}
use Rattle.module_config.specs.Ends.{are_joined, are_too_many, ends_of, queuing_ends, sampling_ends}

-- more than 256 channels, of both kinds together
abbrev pub has_many_channels : Configuration → Bool
has_many_channels configuration = nat_lt MOST_CHANNELS (length configuration.sampling + length configuration.queuing)

-- a partition has more than 64 sampling ports, or more than 64 queuing ports
abbrev pub has_many_ports : Configuration → Bool
has_many_ports configuration =
    are_too_many by.Partition MOST_PORTS (sampling_ends configuration.sampling)
    || are_too_many by.Partition MOST_PORTS (queuing_ends configuration.queuing)

-- more than 32 partitions, 4,096 windows or 256 channels, or more than 64 ports of a kind in a partition
abbrev pub is_too_large : Configuration → Bool
is_too_large configuration =
    nat_lt MOST_PARTITIONS (length configuration.partitions)
    || nat_lt MOST_WINDOWS (length configuration.windows)
    || has_many_channels configuration
    || has_many_ports configuration

-- two of these items have the same number
abbrev pub has_number_twice : {Item : Type 0} → (Item → ℕ) → List Item → Bool
has_number_twice number_of [] = false
has_number_twice number_of (item ∷ items) =
    list_any (λ other. nat_eq (number_of other) (number_of item)) items || has_number_twice number_of items

-- two ends of channels are the same port
abbrev pub has_port_twice : Configuration → Bool
has_port_twice configuration = are_too_many by.Port 1 (ends_of configuration.sampling configuration.queuing)

-- a partition's number, a channel's number or a partition's port name is given twice; channels of both kinds share their numbers
abbrev pub is_given_twice : Configuration → Bool
is_given_twice configuration =
    has_number_twice (λ limits. limits.number) configuration.partitions
    || has_number_twice (λ number. number) (channel_numbers configuration)
    || has_port_twice configuration

-- the window's partition is configured, and the window's core is one of its cores
abbrev pub is_of_partition : List PartitionLimits → Window → Bool
is_of_partition partitions window = has_core window.core (numbered (λ limits. limits.number) window.partition partitions)

-- each window's core is one of its partition's cores
abbrev pub are_of_partitions : List PartitionLimits → List Window → Bool
are_of_partitions partitions windows = list_all (is_of_partition partitions) windows

-- two windows of one core have a tick in common
abbrev pub shares_tick : Window → Window → Bool
shares_tick window other =
    nat_eq window.core other.core
    && (nat_lt window.start (other.start + other.span) && nat_lt other.start (window.start + window.span))

-- a window and one after it share a tick
abbrev pub has_overlap : List Window → Bool
has_overlap [] = false
has_overlap (window ∷ windows) = list_any (shares_tick window) windows || has_overlap windows

-- the first refusal of a configuration whose parts are not consistent, if there is one
abbrev pub whole_fault : Configuration → Option ConfigFault
whole_fault configuration =
    if is_too_large configuration then Some TooMany
    else if is_given_twice configuration then Some Duplicate
    else if not (are_of_partitions configuration.partitions configuration.windows) then Some CoreNotOfPartition
    else if has_overlap configuration.windows then Some Overlap
    else if not (are_joined configuration) then Some ChannelEnds
    else None
