-- What the tables of channels configure, read key by key.
use Rattle.std.specs.Prelude.{ℕ, List, Option, Some, None, Result, Ok}
use Rattle.toml.specs.Data.{Data, Items, no_items, Members}
use Rattle.apex_types.specs.declared.discipline.Discipline.{Discipline}
use Rattle.apex_types.specs.declared.discipline.Discipline.TheVariants as discipline
use Rattle.apex_types.specs.declared.limits.TheConstants.{GREATEST_CHANNEL, GREATEST_PARTITION, LONGEST_MESSAGE, MOST_DESTINATIONS, MOST_MESSAGES}
use Rattle.apex_machine.specs.declared.state.Direction.{Direction}
use Rattle.apex_machine.specs.declared.state.Direction.TheVariants as direction
use Rattle.apex_machine.specs.Configuration.{ChannelEnd, QueuingChannel, SamplingChannel}
use Rattle.module_config.specs.declared.fault.ConfigFault.{ConfigFault}
use Rattle.module_config.specs.declared.keys.ItemType.TheVariants as of
use Rattle.module_config.specs.declared.place.ConfigKey.{ConfigKey}
use Rattle.module_config.specs.declared.place.ConfigKey.TheVariants as key
use Rattle.module_config.specs.declared.place.ConfigTable.{ConfigTable}
use Rattle.module_config.specs.declared.place.ConfigTable.TheVariants as table
use Rattle.module_config.specs.declared.refusal.ConfigRefusal.{ConfigRefusal}
use Rattle.module_config.specs.Keys.{◌>>=◌, at_most, discipline_at, each_item, integer_at, name_at, outside_at, some_at, table_at, table_in, ticks_at}
use Rattle.module_config.specs.Places.{at, each_under, item_in, placed}

-- the end of a channel that a table describes: a partition's number, and the name of its port
abbrev pub end_by : ConfigTable → Members → Result ChannelEnd ConfigRefusal
end_by own keys =
    at own keys key.Partition (integer_at 0 GREATEST_PARTITION) >>= (λ partition.
    at own keys key.Port name_at >>= (λ port.
    Ok (record { partition = partition; port = port })))

-- the end under a key of the channel at an index of a list, which must be a table
abbrev pub end_under : ConfigKey → ℕ → Members → ConfigKey → Result ChannelEnd ConfigRefusal
end_under list index keys end = at (table.Item list index) keys end table_at >>= end_by (table.End list index end)

-- one destination of a sampling channel, by its index, which must be a table
abbrev pub destination_in : ℕ → ℕ → Data → Result ChannelEnd ConfigRefusal
destination_in channel index value = placed (table.Item key.Sampling channel) key.Destinations (table_in value) >>= end_by (table.Destination channel index)

-- a list of 1 to 32 tables
abbrev pub some_ends_at : Option Data → Result Items ConfigFault
some_ends_at value = some_at of.Table value >>= at_most MOST_DESTINATIONS

-- the destinations of the sampling channel at an index
abbrev pub destinations_under : ℕ → Members → Result (List ChannelEnd) ConfigRefusal
destinations_under channel keys = at (table.Item key.Sampling channel) keys key.Destinations some_ends_at >>= each_item (destination_in channel)

-- a list of 1 to 32 tables, which may be missing
abbrev pub ends_if_there_at : Option Data → Result Items ConfigFault
ends_if_there_at None = Ok no_items
ends_if_there_at (Some value) = some_ends_at (Some value)

-- the destinations of the sampling channel at an index, whose list may be missing: there are none then
abbrev pub destinations_if_there : ℕ → Members → Result (List ChannelEnd) ConfigRefusal
destinations_if_there channel keys = at (table.Item key.Sampling channel) keys key.Destinations ends_if_there_at >>= each_item (destination_in channel)

-- the source of a sampling channel, of which this end is outside
abbrev pub source_beside : Option Direction → ℕ → Members → Result (Option ChannelEnd) ConfigRefusal
source_beside (Some direction.Source) index keys = Ok None
source_beside _ index keys = end_under key.Sampling index keys key.Source >>= (λ source. Ok (Some source))

-- the destinations of a sampling channel, of which this end is outside
abbrev pub destinations_beside : Option Direction → ℕ → Members → Result (List ChannelEnd) ConfigRefusal
destinations_beside (Some direction.Destination) index keys = destinations_if_there index keys
destinations_beside _ index keys = destinations_under index keys

-- the number of a channel, and the greatest size of its messages
abbrev pub number_and_size : ConfigTable → Members → Result (ℕ × ℕ) ConfigRefusal
number_and_size own keys =
    at own keys key.Channel (integer_at 0 GREATEST_CHANNEL) >>= (λ number.
    at own keys key.Size (integer_at 1 LONGEST_MESSAGE) >>= (λ size. Ok (number, size)))

-- what the keys of a sampling channel's table configure, at an index of the list
abbrev pub sampling_by : ℕ → Members → Result SamplingChannel ConfigRefusal
sampling_by index keys =
    number_and_size (table.Item key.Sampling index) keys >>= (λ channel.
    at (table.Item key.Sampling index) keys key.Refresh ticks_at >>= (λ refresh.
    at (table.Item key.Sampling index) keys key.Outside outside_at >>= (λ outside.
    source_beside outside index keys >>= (λ source.
    destinations_beside outside index keys >>= (λ destinations.
    Ok (record { number = channel.0; size = channel.1; refresh = refresh; source = source; destinations = destinations }))))))

-- the sampling channel at an index of the list, which must be a table
abbrev pub sampling_in : ℕ → Data → Result SamplingChannel ConfigRefusal
sampling_in index value = item_in key.Sampling value >>= sampling_by index

-- the sampling channels: a list of tables, which is empty if the key is missing
abbrev pub sampling_under : Members → Result (List SamplingChannel) ConfigRefusal
sampling_under keys = each_under table.Module keys key.Sampling sampling_in

-- an end of a queuing channel and its port's discipline, each under its key
abbrev pub queuing_end_under : ℕ → Members → ConfigKey → ConfigKey → Result (Option ChannelEnd × Discipline) ConfigRefusal
queuing_end_under index keys end discipline =
    end_under key.Queuing index keys end >>= (λ place.
    at (table.Item key.Queuing index) keys discipline discipline_at >>= (λ own. Ok (Some place, own)))

-- the source of a queuing channel, of which this end is outside; no process waits at an end outside
abbrev pub queuing_source_beside : Option Direction → ℕ → Members → Result (Option ChannelEnd × Discipline) ConfigRefusal
queuing_source_beside (Some direction.Source) index keys = Ok (None, discipline.Fifo)
queuing_source_beside _ index keys = queuing_end_under index keys key.Source key.SourceDiscipline

-- the destination of a queuing channel, of which this end is outside
abbrev pub queuing_destination_beside : Option Direction → ℕ → Members → Result (Option ChannelEnd × Discipline) ConfigRefusal
queuing_destination_beside (Some direction.Destination) index keys = Ok (None, discipline.Fifo)
queuing_destination_beside _ index keys = queuing_end_under index keys key.Destination key.DestinationDiscipline

-- what the keys of a queuing channel's table configure, at an index of the list
abbrev pub queuing_by : ℕ → Members → Result QueuingChannel ConfigRefusal
queuing_by index keys =
    number_and_size (table.Item key.Queuing index) keys >>= (λ channel.
    at (table.Item key.Queuing index) keys key.Capacity (integer_at 1 MOST_MESSAGES) >>= (λ capacity.
    at (table.Item key.Queuing index) keys key.Outside outside_at >>= (λ outside.
    queuing_source_beside outside index keys >>= (λ source.
    queuing_destination_beside outside index keys >>= (λ destination.
    Ok (record {
      number = channel.0;
      size = channel.1;
      capacity = capacity;
      source = source.0;
      source_discipline = source.1;
      destination = destination.0;
      destination_discipline = destination.1;
    }))))))

-- the queuing channel at an index of the list, which must be a table
abbrev pub queuing_in : ℕ → Data → Result QueuingChannel ConfigRefusal
queuing_in index value = item_in key.Queuing value >>= queuing_by index

-- the queuing channels: a list of tables, which is empty if the key is missing
abbrev pub queuing_under : Members → Result (List QueuingChannel) ConfigRefusal
queuing_under keys = each_under table.Module keys key.Queuing queuing_in
