-- A port by its name and the settings of its creation.
use Rattle.std.specs.Prelude.{ℕ, ℤ, List, Option, Bool}
use Rattle.apex_machine.specs.After.{is_valid}
use Rattle.apex_machine.specs.State.{Port as Seen}
use Rattle.partition_objects.specs.declared.port.PortSettings.{PortSettings}

-- the port of this name with these settings, and whether its last read gave a valid sample
abbrev pub port_of : List ℕ → PortSettings → Bool → Seen
port_of name settings valid =
    record { name = name; size = settings.size; direction = settings.direction; channel = settings.channel; valid = valid }

-- the port after a read that claims this value
abbrev pub read_at : Option ℤ → Seen → Seen
read_at claimed port = record port { valid = is_valid claimed }
