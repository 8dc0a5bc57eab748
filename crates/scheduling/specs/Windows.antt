-- The partition whose window a core is in, and the process that the core is to run there.
use Rattle.std.specs.Prelude.{ℕ, Option, Some, None, Bool, false, nat_eq, if◌then◌else◌}
use Rattle.apex_types.specs.declared.record.Who.{Who}
use Rattle.apex_machine.specs.Configuration.{Configuration, window_at}
use Rattle.apex_machine.specs.State.{Table, time_of}
use Rattle.apex_machine.specs.Choice.{choice_under}
use Rattle.scheduling.specs.Clocks.{Clocks}

-- a core outside every window belongs to no partition
abbrev pub is_owner : ℕ → Option ℕ → Bool
is_owner partition None = false
is_owner partition (Some owner) = nat_eq owner partition

-- whether the present window of a core is this partition's
abbrev pub owns_window : Configuration → Clocks → ℕ → ℕ → Bool
owns_window configuration clocks partition core = is_owner partition (window_at configuration core (time_of clocks.cores core))

-- what a core is to run for a partition whose lock this process owns, if one does: in its windows the partition's choice, and outside them no
-- process
abbrev pub choice_within : Configuration → Clocks → Table → Option ℕ → ℕ → ℕ → Option Who
choice_within configuration clocks table owner partition core =
    if owns_window configuration clocks partition core then choice_under partition core owner table else None
