-- What a configuration says of ports and channels, as the code gives it.
use Rattle.std.specs.Prelude.{ℕ, Option, Some, None, is_none, option_map}
use Rattle.apex_machine.specs.Channels as configured
use Rattle.apex_machine.specs.Channels.{queuing_of, sampling_of}
use Rattle.apex_machine.specs.Configuration.{ChannelEnd, Configuration, QueuingChannel, SamplingChannel}
use Rattle.module_config.specs.declared.port.ChannelKind.{ChannelKind}
use Rattle.module_config.specs.declared.port.ChannelKind.TheVariants.{Queuing, Sampling}
use Rattle.module_config.specs.declared.port.QueuingPort.{QueuingPort}
use Rattle.module_config.specs.declared.port.SamplingPort.{SamplingPort}

-- a sampling port as the definitions see it
abbrev pub configured_sampling : SamplingPort → configured.SamplingPort
configured_sampling port = record { channel = port.channel; size = port.size; direction = port.direction; refresh = port.refresh }

-- a queuing port as the definitions see it
abbrev pub configured_queuing : QueuingPort → configured.QueuingPort
configured_queuing port =
    record { channel = port.channel; size = port.size; capacity = port.capacity; direction = port.direction; discipline = port.discipline }

-- the partition at an end, unless the end is outside
abbrev pub partition_at : Option ChannelEnd → Option ℕ
partition_at place = option_map (λ inside. inside.partition) place

-- what is configured of a channel, from the queuing channel and the sampling channel of its number, if there is one
abbrev pub kind_in : Option QueuingChannel → Option SamplingChannel → Option ChannelKind
kind_in (Some channel) other =
    Some (Queuing channel.size channel.capacity channel.source_discipline channel.destination_discipline (partition_at channel.source) (partition_at channel.destination))
kind_in None (Some channel) = Some (Sampling channel.size channel.refresh (is_none channel.source))
kind_in None None = None

-- what is configured of the channel of this number, if there is one
abbrev pub kind_of : Configuration → ℕ → Option ChannelKind
kind_of configuration number = kind_in (queuing_of configuration number) (sampling_of configuration number)
