-- The error conditions of sampling ports and queuing ports.
use Rattle.std.specs.Prelude.{List, ◌++◌, Option, Some, None, Bool, true, false, ℤ, not, ◌&&◌, ◌||◌}
use Rattle.apex_machine.specs.declared.condition.Condition.{Condition}
use Rattle.apex_machine.specs.declared.condition.Condition.TheVariants as condition
use Rattle.apex_machine.specs.declared.state.Direction.{Direction}
use Rattle.apex_machine.specs.declared.state.Direction.TheVariants as direction
use Rattle.apex_machine.specs.Arguments.{direction_number, discipline_number, is_length, is_longer, is_number}
use Rattle.apex_machine.specs.Channels.{QueuingPort, SamplingPort}
use Rattle.apex_machine.specs.Conditions.{conditions_for, when}
use Rattle.apex_machine.specs.State.{Port}

-- whether a port is the source of its channel
abbrev pub is_source : Direction → Bool
is_source direction.Source = true
is_source direction.Destination = false

-- whether a refresh period suits a port: it counts only at a destination
abbrev pub suits_refresh : SamplingPort → ℤ → Bool
suits_refresh port refresh = is_source port.direction || is_number refresh port.refresh

-- whether a sampling port is created as it is configured
abbrev pub is_sampling_port : Option SamplingPort → ℤ → ℤ → ℤ → Bool
is_sampling_port None size direction refresh = false
is_sampling_port (Some port) size direction refresh =
    is_number size port.size && (is_number direction (direction_number port.direction) && suits_refresh port refresh)

-- whether a queuing port is created as it is configured
abbrev pub is_queuing_port : Option QueuingPort → ℤ → ℤ → ℤ → ℤ → Bool
is_queuing_port None size capacity direction discipline = false
is_queuing_port (Some port) size capacity direction discipline =
    is_number size port.size
    && (is_number capacity port.capacity
    && (is_number direction (direction_number port.direction) && is_number discipline (discipline_number port.discipline)))

-- a message into a port: a created source port whose size is enough for the message
abbrev pub source_conditions : Option Port → ℤ → List Condition
source_conditions port length =
    conditions_for port (λ found. when (is_longer found.size length) condition.LongerThanPort ++ when (not (is_source found.direction)) condition.NotSource)
    ++ when (not (is_length length)) condition.EmptyMessage

-- a message from a port: a created destination port
abbrev pub destination_conditions : Option Port → List Condition
destination_conditions port = conditions_for port (λ found. when (is_source found.direction) condition.NotDestination)
