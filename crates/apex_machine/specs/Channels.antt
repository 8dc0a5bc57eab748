-- What the configuration says of a channel by its number, and of a port by its partition and name.
use Rattle.std.specs.Prelude.{ℕ, List, [], ◌∷◌, Option, Some, None, Bool, false, ◌&&◌, ◌||◌, IsTrue, map, nat_eq, nat_lt, if◌then◌else◌, is_none, is_some, option_map}
use Rattle.std.specs.List.{list_any}
use Rattle.std.specs.Option.{option_map_or}
use Rattle.std.specs.Str.{bytes_eq}
use Rattle.apex_types.specs.declared.discipline.Discipline.{Discipline}
use Rattle.apex_types.specs.declared.discipline.Discipline.TheVariants as discipline
use Rattle.apex_machine.specs.declared.state.Direction.{Direction}
use Rattle.apex_machine.specs.declared.state.Direction.TheVariants as direction
use Rattle.apex_machine.specs.Configuration.{ChannelEnd, Configuration, QueuingChannel, SamplingChannel, is_end_of, numbered}

-- channels by number

-- the sampling channel of this number, if it is configured
abbrev pub sampling_of : Configuration → ℕ → Option SamplingChannel
sampling_of configuration number = numbered (λ channel. channel.number) number configuration.sampling

-- the queuing channel of this number, if it is configured
abbrev pub queuing_of : Configuration → ℕ → Option QueuingChannel
queuing_of configuration number = numbered (λ channel. channel.number) number configuration.queuing

-- whether a channel of this number is configured, of either kind
abbrev pub has_channel : Configuration → ℕ → Bool
has_channel configuration number = is_some (sampling_of configuration number) || is_some (queuing_of configuration number)

-- a sampling channel's refresh period
abbrev pub refresh_of : Configuration → ℕ → ℕ
refresh_of configuration number = option_map_or (λ channel. channel.refresh) (sampling_of configuration number) 0

-- how many messages a queuing channel holds
abbrev pub capacity_of : Configuration → ℕ → ℕ
capacity_of configuration number = option_map_or (λ channel. channel.capacity) (queuing_of configuration number) 0

-- the discipline of the processes that wait to send on a queuing channel: that of its source port
abbrev pub sending_discipline : Configuration → ℕ → Discipline
sending_discipline configuration number = option_map_or (λ channel. channel.source_discipline) (queuing_of configuration number) discipline.Fifo

-- the discipline of the processes that wait to receive on a queuing channel: that of its destination port
abbrev pub receiving_discipline : Configuration → ℕ → Discipline
receiving_discipline configuration number =
    option_map_or (λ channel. channel.destination_discipline) (queuing_of configuration number) discipline.Fifo

-- whether a partition is at the source of the queuing channel of this number
abbrev pub is_at_source : Configuration → ℕ → ℕ → Bool
is_at_source configuration number partition =
    option_map_or (λ channel. is_end_of partition channel.source) (queuing_of configuration number) false

-- whether a partition is at the destination of the queuing channel of this number
abbrev pub is_at_destination : Configuration → ℕ → ℕ → Bool
is_at_destination configuration number partition =
    option_map_or (λ channel. is_end_of partition channel.destination) (queuing_of configuration number) false

-- whether messages come from outside into the channel of this number
abbrev pub is_from_outside : Configuration → ℕ → Bool
is_from_outside configuration number =
    option_map_or (λ channel. is_none channel.source) (sampling_of configuration number) false
    || option_map_or (λ channel. is_none channel.source) (queuing_of configuration number) false

-- whether messages leave the queuing channel of this number to the outside
abbrev pub is_to_outside : Configuration → ℕ → Bool
is_to_outside configuration number = option_map_or (λ channel. is_none channel.destination) (queuing_of configuration number) false

-- the greatest size of the messages of a channel, of either kind
abbrev pub size_of : Configuration → ℕ → ℕ
size_of configuration number =
    option_map_or (λ channel. channel.size) (queuing_of configuration number) (option_map_or (λ channel. channel.size) (sampling_of configuration number) 0)

-- the numbers of the channels, in rising order

-- elements that are in order, with a new one inserted before the first that it precedes
abbrev pub put_among : {A : Type 0} → (A → A → Bool) → A → List A → List A
put_among precedes new [] = new ∷ []
put_among precedes new (first ∷ others) = if precedes new first then new ∷ first ∷ others else first ∷ put_among precedes new others

-- elements that are in order, with others inserted one after another
abbrev pub in_order : {A : Type 0} → (A → A → Bool) → List A → List A → List A
in_order precedes placed [] = placed
in_order precedes placed (new ∷ others) = in_order precedes (put_among precedes new placed) others

-- the numbers of all channels, in rising order
abbrev pub channel_numbers : Configuration → List ℕ
channel_numbers configuration =
    in_order nat_lt (in_order nat_lt [] (map (λ channel. channel.number) configuration.queuing)) (map (λ channel. channel.number) configuration.sampling)

-- which partitions are at the ends of a channel

-- whether a partition is the source of a queuing channel of this number
abbrev pub is_sender : Configuration → ℕ → ℕ → Bool
is_sender configuration number partition =
    list_any (λ channel. nat_eq channel.number number && is_end_of partition channel.source) configuration.queuing

-- whether a partition is the destination of a queuing channel of this number
abbrev pub is_receiver : Configuration → ℕ → ℕ → Bool
is_receiver configuration number partition =
    list_any (λ channel. nat_eq channel.number number && is_end_of partition channel.destination) configuration.queuing

-- whether a partition is at an end of a sampling channel of this number
abbrev pub samples : Configuration → ℕ → ℕ → Bool
samples configuration number partition =
    list_any (λ channel. nat_eq channel.number number
    && (is_end_of partition channel.source || list_any (λ place. nat_eq place.partition partition) channel.destinations))
    configuration.sampling

-- whether a partition is at an end of a channel
abbrev pub is_at_end : Configuration → ℕ → ℕ → Bool
is_at_end configuration number partition =
    is_sender configuration number partition || (is_receiver configuration number partition || samples configuration number partition)

-- no partition is at both ends of a queuing channel
abbrev pub EndsAreApart : Configuration → Type 0
EndsAreApart configuration =
    (number partition : ℕ) → IsTrue (is_sender configuration number partition) → ¬ IsTrue (is_receiver configuration number partition)

-- ports by partition and name

-- whether this end of a channel is the partition's port of this name
abbrev pub is_port : ℕ → List ℕ → ChannelEnd → Bool
is_port partition name place = nat_eq place.partition partition && bytes_eq name place.port

-- the same of an end that may be outside
abbrev pub is_port_inside : ℕ → List ℕ → Option ChannelEnd → Bool
is_port_inside partition name None = false
is_port_inside partition name (Some place) = is_port partition name place

-- an end as a list of the ends inside
abbrev pub ends_inside : Option ChannelEnd → List ChannelEnd
ends_inside None = []
ends_inside (Some place) = place ∷ []

-- what the configuration says of a sampling port
pub record SamplingPort : Type 0 where
  pub channel : ℕ
  pub size : ℕ
  pub direction : Direction
  pub refresh : ℕ

-- what the configuration says of a queuing port
pub record QueuingPort : Type 0 where
  pub channel : ℕ
  pub size : ℕ
  pub capacity : ℕ
  pub direction : Direction
  pub discipline : Discipline

-- an end of a sampling channel, as a port
abbrev pub sampling_end : SamplingChannel → Direction → SamplingPort
sampling_end channel direction = record { channel = channel.number; size = channel.size; direction = direction; refresh = channel.refresh }

-- the discipline of the port at an end of a queuing channel
abbrev pub discipline_at : QueuingChannel → Direction → Discipline
discipline_at channel direction.Source = channel.source_discipline
discipline_at channel direction.Destination = channel.destination_discipline

-- an end of a queuing channel, as a port
abbrev pub queuing_end : QueuingChannel → Direction → QueuingPort
queuing_end channel direction = record {
  channel = channel.number;
  size = channel.size;
  capacity = channel.capacity;
  direction = direction;
  discipline = discipline_at channel direction;
}

-- the first of these channels that has the port of this partition and name at an end, and the direction there
abbrev pub end_among : {Channel : Type 0} → (Channel → Option ChannelEnd) → (Channel → List ChannelEnd) → ℕ → List ℕ → List Channel → Option (Channel × Direction)
end_among source_of destinations_of partition name [] = None
end_among source_of destinations_of partition name (channel ∷ others) =
    if is_port_inside partition name (source_of channel) then Some (channel, direction.Source)
    else if list_any (is_port partition name) (destinations_of channel) then Some (channel, direction.Destination)
    else end_among source_of destinations_of partition name others

-- the sampling port that the configuration gives a partition under this name, if any
abbrev pub sampling_port : Configuration → ℕ → List ℕ → Option SamplingPort
sampling_port configuration partition name =
    option_map (λ found. sampling_end found.0 found.1) (end_among (λ channel. channel.source) (λ channel. channel.destinations) partition name configuration.sampling)

-- the queuing port that the configuration gives a partition under this name, if any
abbrev pub queuing_port : Configuration → ℕ → List ℕ → Option QueuingPort
queuing_port configuration partition name =
    option_map (λ found. queuing_end found.0 found.1) (end_among (λ channel. channel.source) (λ channel. ends_inside channel.destination) partition name configuration.queuing)
