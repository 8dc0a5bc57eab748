-- The ends of the channels, and what is judged of them over the whole configuration.
use Rattle.std.specs.Prelude.{ℕ, List, ◌++◌, Option, Some, None, count_by, Bool, true, not, ◌&&◌, is_some, nat_eq, nat_lt}
use Rattle.std.specs.List.{flat_map, list_all, list_any}
use Rattle.apex_machine.specs.Channels.{ends_inside, is_port}
use Rattle.apex_machine.specs.Configuration.{ChannelEnd, Configuration, PartitionLimits, QueuingChannel, SamplingChannel, is_end_of, numbered}
use Rattle.module_config.specs.declared.ends.Likeness.{Likeness}
use Rattle.module_config.specs.declared.ends.Likeness.TheVariants as by

-- the ends of a sampling channel
abbrev pub sampling_ends_of : SamplingChannel → List ChannelEnd
sampling_ends_of channel = ends_inside channel.source ++ channel.destinations

-- the ends of sampling channels
abbrev pub sampling_ends : List SamplingChannel → List ChannelEnd
sampling_ends channels = flat_map sampling_ends_of channels

-- the ends of a queuing channel
abbrev pub queuing_ends_of : QueuingChannel → List ChannelEnd
queuing_ends_of channel = ends_inside channel.source ++ ends_inside channel.destination

-- the ends of queuing channels
abbrev pub queuing_ends : List QueuingChannel → List ChannelEnd
queuing_ends channels = flat_map queuing_ends_of channels

-- the ends of channels of both kinds
abbrev pub ends_of : List SamplingChannel → List QueuingChannel → List ChannelEnd
ends_of sampling queuing = sampling_ends sampling ++ queuing_ends queuing

-- an end is alike another: it is of the same partition, or it is the same port of it
abbrev pub is_alike : Likeness → ChannelEnd → ChannelEnd → Bool
is_alike by.Partition place other = nat_eq other.partition place.partition
is_alike by.Port place other = is_port place.partition place.port other

-- how many ends are alike this one
abbrev pub count_alike : Likeness → ChannelEnd → List ChannelEnd → ℕ
count_alike likeness place places = count_by (is_alike likeness place) places

-- more than this many ends are alike this one
abbrev pub is_exceeded : Likeness → ℕ → List ChannelEnd → ChannelEnd → Bool
is_exceeded likeness most places place = nat_lt most (count_alike likeness place places)

-- some end has more than this many alike it, itself among them
abbrev pub are_too_many : Likeness → ℕ → List ChannelEnd → Bool
are_too_many likeness most places = list_any (is_exceeded likeness most places) places

-- one of these partitions has this number
abbrev pub has_number : ℕ → List PartitionLimits → Bool
has_number number partitions = is_some (numbered (λ limits. limits.number) number partitions)

-- a channel from this source may go to a destination: its partition is configured, and is not the source's
abbrev pub goes_to : List PartitionLimits → Option ChannelEnd → ChannelEnd → Bool
goes_to partitions source place = has_number place.partition partitions && not (is_end_of place.partition source)

-- the partition of a source is configured, if the source is inside
abbrev pub has_source : List PartitionLimits → Option ChannelEnd → Bool
has_source partitions None = true
has_source partitions (Some source) = has_number source.partition partitions

-- a channel joins a configured partition with other configured partitions; an end outside is not judged
abbrev pub is_joined : List PartitionLimits → Option ChannelEnd → List ChannelEnd → Bool
is_joined partitions source places = has_source partitions source && list_all (goes_to partitions source) places

-- a sampling channel joins configured partitions
abbrev pub is_sampling_joined : List PartitionLimits → SamplingChannel → Bool
is_sampling_joined partitions channel = is_joined partitions channel.source channel.destinations

-- a queuing channel joins configured partitions
abbrev pub is_queuing_joined : List PartitionLimits → QueuingChannel → Bool
is_queuing_joined partitions channel = is_joined partitions channel.source (ends_inside channel.destination)

-- each channel joins configured partitions
abbrev pub are_joined : Configuration → Bool
are_joined configuration =
    list_all (is_sampling_joined configuration.partitions) configuration.sampling
    && list_all (is_queuing_joined configuration.partitions) configuration.queuing
