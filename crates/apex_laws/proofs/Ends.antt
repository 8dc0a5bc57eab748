-- A caller that sends or receives through a queuing port is at that end of its channel, and ports stay at their ends.
use Rattle.std.proofs.Common.{◌≡◌, ℕ, List, [], ◌∷◌, ◌++◌, Bool, true, false, cond, not, nat_eq, ℤ, pos, negsuc, Option, Some, None, IsTrue, refl, sym, ap, subst, ◌∙◌, true≢false, ◌&&◌}
use Rattle.std.proofs.lemmas.Bool.{and_from, and_parts}
use Rattle.std.specs.List.{list_any}
use Rattle.std.specs.Prelude.{option_map}
use Rattle.std.specs.Str.{bytes_eq}
use Rattle.apex_types.specs.declared.operation.ObjectOperation.TheVariants as on
use Rattle.apex_laws.proofs.Common.{AllPorts, ChannelEnd, Condition, Configuration, Direction, IsAtEnd, NewObject, Partition, Port, QueuingChannel, QueuingOperation, QueuingPort, Request, SamplingOperation, Who, channel_by, channel_of}
use Rattle.apex_laws.proofs.Common.{conditions_for, conditions_of, destination_conditions, end_among, given_object, is_length, is_longer, is_port, is_receiver, is_sender, is_source, item_at, new_queuing_port, numbered_if, objects_by}
use Rattle.apex_laws.proofs.Common.{queuing_end, queuing_port, source_conditions, time_out_conditions, waiting_conditions, when}
use Rattle.apex_laws.proofs.Common.{ends_inside, is_end_of, is_port_inside}
use Rattle.apex_laws.proofs.Booleans.{by_test, first_holds, impossible, is_itself, later_holds, one_item, or_false}

-- A caller that sends or receives through a queuing port is at that end of its channel.

-- conditions of which there is none

-- if a joined list is empty, its first part is
pub first_empty : (one other : List Condition) → one ++ other ≡ [] → one ≡ []
first_empty [] other none = refl
first_empty (condition ∷ conditions) other none = cc

-- and its second part
pub second_empty : (one other : List Condition) → one ++ other ≡ [] → other ≡ []
second_empty [] other none = none
second_empty (condition ∷ conditions) other none = cc

-- a condition that is not listed doesn't hold
pub no_condition : (holds : Bool) (one : Condition) → when holds one ≡ [] → holds ≡ false
no_condition true one none = cc
no_condition false one none = refl

-- what is created
pub is_created : {Object : Type 0} → (found : Option Object) (conditions : Object → List Condition) → conditions_for found conditions ≡ [] → (object : Object) × (found ≡ Some object) × (conditions object ≡ [])
is_created None conditions none = cc
is_created (Some object) conditions none = (object, refl, none)

-- a port that is found has what all ports have
port_found : (Fact : Port → Type 0) (ports : List (ℕ × Port)) (number : ℕ) (port : Port) → AllPorts Fact ports → item_at ports number ≡ Some port → Fact port
port_found Fact [] number port all is = cc
port_found Fact (entry ∷ entries) number port all is =
    by_test (λ found. found ≡ Some port → Fact port) (nat_eq number entry.0) (Some entry.1) (item_at entries number)
    (λ here is. subst Fact (one_item is) all.0) (λ elsewhere is. port_found Fact entries number port all.1 is) is

given_found : (Fact : Port → Type 0) (ports : List (ℕ × Port)) (number : ℤ) (port : Port) → AllPorts Fact ports → given_object ports number ≡ Some port → Fact port
given_found Fact ports (pos number) port all is = port_found Fact ports number port all is
given_found Fact ports (negsuc n) port all is = cc

-- the end at which the caller of a queuing port's service is
abbrev pub WaitsAtEnd : Request → Configuration → ℕ → ℕ → Type 0
WaitsAtEnd (Request.QueuingPort port (QueuingOperation.Send length time_out message)) configuration channel partition = IsTrue (is_sender configuration channel partition)
WaitsAtEnd (Request.QueuingPort port (QueuingOperation.Receive time_out)) configuration channel partition = IsTrue (is_receiver configuration channel partition)
WaitsAtEnd (Request.QueuingPort port QueuingOperation.Clear) configuration channel partition = IsTrue (is_receiver configuration channel partition)
WaitsAtEnd _ configuration channel partition = Unit {0}

-- a port is the source of its channel, or the destination
source_end : (configuration : Configuration) (partition : ℕ) (which : Direction) (channel : ℕ) → not (is_source which) ≡ false → IsAtEnd configuration partition which channel
    → IsTrue (is_sender configuration channel partition)
source_end configuration partition Direction.Source channel is at = at
source_end configuration partition Direction.Destination channel is at = absurd (true≢false is)

destination_end : (configuration : Configuration) (partition : ℕ) (which : Direction) (channel : ℕ) → is_source which ≡ false → IsAtEnd configuration partition which channel
    → IsTrue (is_receiver configuration channel partition)
destination_end configuration partition Direction.Source channel is at = absurd (true≢false is)
destination_end configuration partition Direction.Destination channel is at = at

-- the channel of a port that is found
channel_is : (found : Option Port) (port : Port) (channel : ℕ) → found ≡ Some port → channel_by found ≡ Some channel → port.channel ≡ channel
channel_is found port channel is by =
    let both : ◌≡◌ {A = Option ℕ} (Some port.channel) (Some channel) = sym (ap channel_by is) ∙ by in cc

-- a destination port that meets its conditions
destination_at_end : (configuration : Configuration) (who : Who) (partition : Partition) (port : ℤ) (channel : ℕ)
    → AllPorts (λ port. IsAtEnd configuration who.part port.direction port.channel) partition.queuing_ports
    → channel_by (given_object partition.queuing_ports port) ≡ Some channel → destination_conditions (given_object partition.queuing_ports port) ≡ []
    → IsTrue (is_receiver configuration channel who.part)
destination_at_end configuration who partition port channel all by none =
    let found = given_object partition.queuing_ports port in
    let conditions : Port → List Condition = λ one. when (is_source one.direction) Condition.NotDestination in
    let is = is_created found conditions none in
    let destination = no_condition (is_source is.0.direction) Condition.NotDestination is.2 in
    let at = given_found (λ one. IsAtEnd configuration who.part one.direction one.channel) partition.queuing_ports port is.0 all is.1 in
    subst (λ one. IsTrue (is_receiver configuration one who.part)) (channel_is found is.0 channel is.1 by) (destination_end configuration who.part is.0.direction is.0.channel destination at)

pub port_is_at_end : (configuration : Configuration) (now : ℕ) (who : Who) (partition : Partition) (asked : Request) (channel : ℕ)
    → AllPorts (λ port. IsAtEnd configuration who.part port.direction port.channel) partition.queuing_ports
    → channel_of partition asked ≡ Some channel → conditions_of configuration now who partition asked ≡ [] → WaitsAtEnd asked configuration channel who.part
port_is_at_end configuration now who partition (Request.QueuingPort port (QueuingOperation.Send length time_out message)) channel all by none =
    let found = given_object partition.queuing_ports port in
    let conditions : Port → List Condition = λ one. when (is_longer one.size length) Condition.LongerThanPort ++ when (not (is_source one.direction)) Condition.NotSource in
    let own = first_empty (source_conditions found length) (time_out_conditions time_out)
    (first_empty (source_conditions found length ++ time_out_conditions time_out) (waiting_conditions who partition time_out) none) in
    let is = is_created found conditions (first_empty (conditions_for found conditions) (when (not (is_length length)) Condition.EmptyMessage) own) in
    let source = no_condition (not (is_source is.0.direction)) Condition.NotSource (second_empty (when (is_longer is.0.size length) Condition.LongerThanPort) (when (not (is_source is.0.direction)) Condition.NotSource) is.2) in
    let at = given_found (λ one. IsAtEnd configuration who.part one.direction one.channel) partition.queuing_ports port is.0 all is.1 in
    subst (λ one. IsTrue (is_sender configuration one who.part)) (channel_is found is.0 channel is.1 by) (source_end configuration who.part is.0.direction is.0.channel source at)
port_is_at_end configuration now who partition (Request.QueuingPort port (QueuingOperation.Receive time_out)) channel all by none =
    let found = given_object partition.queuing_ports port in
    destination_at_end configuration who partition port channel all by (first_empty (destination_conditions found) (time_out_conditions time_out)
    (first_empty (destination_conditions found ++ time_out_conditions time_out) (waiting_conditions who partition time_out) none))
port_is_at_end configuration now who partition (Request.QueuingPort port QueuingOperation.Clear) channel all by none = destination_at_end configuration who partition port channel all by none
port_is_at_end configuration now who partition _ channel all by none = tt

-- The queuing ports of a partition are at their ends, when ports are created.

-- what a configured port says of its end, among these channels
abbrev IsEndAmong : ℕ → List QueuingChannel → QueuingPort → Type 0
IsEndAmong partition channels port =
    (port.direction ≡ Direction.Source → list_any (λ channel. nat_eq channel.number port.channel && is_end_of partition channel.source) channels ≡ true)
    × (port.direction ≡ Direction.Destination → list_any (λ channel. nat_eq channel.number port.channel && is_end_of partition channel.destination) channels ≡ true)

-- the partition of an end that is the port
end_partition : (partition : ℕ) (name : List ℕ) (place : ChannelEnd) → is_port partition name place ≡ true → nat_eq place.partition partition ≡ true
end_partition partition name place is = (and_parts (nat_eq place.partition partition) (bytes_eq name place.port) is).0

-- the same of an end that may be outside
source_partition : (partition : ℕ) (name : List ℕ) (place : Option ChannelEnd) → is_port_inside partition name place ≡ true → is_end_of partition place ≡ true
source_partition partition name None is = impossible is
source_partition partition name (Some place) is = end_partition partition name place is

destination_partition : (partition : ℕ) (name : List ℕ) (place : Option ChannelEnd) → list_any (is_port partition name) (ends_inside place) ≡ true → is_end_of partition place ≡ true
destination_partition partition name None is = impossible is
destination_partition partition name (Some place) is = end_partition partition name place (sym (or_false _) ∙ is)

-- the port at an end
abbrev port_at : Option (QueuingChannel × Direction) → Option QueuingPort
port_at found = option_map (λ one. queuing_end one.0 one.1) found

-- the end that has the port, among these channels
abbrev found_among : ℕ → List ℕ → List QueuingChannel → Option (QueuingChannel × Direction)
found_among partition name channels = end_among (λ channel. channel.source) (λ channel. ends_inside channel.destination) partition name channels

-- a port that the configuration has is at its end
port_among : (partition : ℕ) (name : List ℕ) (channels : List QueuingChannel) (port : QueuingPort) → port_at (found_among partition name channels) ≡ Some port → IsEndAmong partition channels port
port_among partition name [] port is = cc
port_among partition name (channel ∷ others) port is =
    by_test (λ found. port_at found ≡ Some port → IsEndAmong partition (channel ∷ others) port) (is_port_inside partition name channel.source) (Some (channel, Direction.Source))
    (cond (list_any (is_port partition name) (ends_inside channel.destination)) (Some (channel, Direction.Destination)) (found_among partition name others))
    (λ here is. subst (IsEndAmong partition (channel ∷ others)) (one_item is)
    (λ source. first_holds _ _ (and_from _ _ (is_itself channel.number) (source_partition partition name channel.source here)), λ destination. cc))
    (λ not_source. by_test (λ found. port_at found ≡ Some port → IsEndAmong partition (channel ∷ others) port) (list_any (is_port partition name) (ends_inside channel.destination))
    (Some (channel, Direction.Destination)) (found_among partition name others)
    (λ there is. subst (IsEndAmong partition (channel ∷ others)) (one_item is)
    (λ source. cc, λ destination. first_holds _ _ (and_from _ _ (is_itself channel.number) (destination_partition partition name channel.destination there))))
    (λ not_there is. (let rest = port_among partition name others port is in (λ source. later_holds _ _ (rest.0 source), λ destination. later_holds _ _ (rest.1 destination))))) is

-- so is a created port
created_at_end : (configuration : Configuration) (partition : ℕ) (name : List ℕ) (claimed : Option ℤ) (found : Option QueuingPort) → queuing_port configuration partition name ≡ found
    → AllPorts (λ port. IsAtEnd configuration partition port.direction port.channel) (numbered_if claimed (option_map (new_queuing_port name) found))
created_at_end configuration partition name claimed None is = tt
created_at_end configuration partition name None (Some port) is = tt
created_at_end configuration partition name (Some (negsuc n)) (Some port) is = tt
created_at_end configuration partition name (Some (pos number)) (Some port) is =
    let at = port_among partition name configuration.queuing port is in (
      elim port.direction as (λ which. port.direction ≡ which → IsAtEnd configuration partition which port.channel) [
        | Direction.Source ↦ λ which. at.0 which
        | Direction.Destination ↦ λ which. at.1 which
      ] refl,
      tt,
    )

-- ports of two lists
ports_joined : (Fact : Port → Type 0) (one other : List (ℕ × Port)) → AllPorts Fact one → AllPorts Fact other → AllPorts Fact (one ++ other)
ports_joined Fact [] other first second = second
ports_joined Fact (entry ∷ entries) other first second = (first.0, ports_joined Fact entries other first.1 second)

-- the ports after a call
pub ports_after : (configuration : Configuration) (who : Who) (claimed : Option ℤ) (asked : Request) (partition : Partition)
    → AllPorts (λ port. IsAtEnd configuration who.part port.direction port.channel) partition.queuing_ports
    → AllPorts (λ port. IsAtEnd configuration who.part port.direction port.channel) (objects_by configuration who claimed asked partition).queuing_ports
ports_after configuration who claimed (Request.Create name (NewObject.QueuingPort size capacity way discipline)) partition all =
    ports_joined (λ port. IsAtEnd configuration who.part port.direction port.channel) partition.queuing_ports (numbered_if claimed (option_map (new_queuing_port name) (queuing_port configuration who.part name))) all
    (created_at_end configuration who.part name claimed (queuing_port configuration who.part name) refl)
ports_after configuration who claimed (Request.Object number (on.Buffer operation)) partition all = all
ports_after configuration who claimed (Request.SamplingPort port SamplingOperation.Read) partition all = all
ports_after configuration who claimed _ partition all = all
