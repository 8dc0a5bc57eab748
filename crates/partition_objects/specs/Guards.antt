-- What is judged before a call through a port.
use Rattle.std.specs.Prelude.{◌≡◌, ◌≢◌, ℕ, List, [], Option, Some}
use Rattle.apex_machine.specs.declared.condition.Condition.{Condition}
use Rattle.partition_objects.specs.declared.guard.Guard.{Guard}
use Rattle.partition_objects.specs.declared.guard.Guard.TheVariants.{Errors, Chan}

-- the result for a call, from the error conditions that hold and the port's channel: the conditions, if any hold; else the channel
abbrev pub IsGuard : List Condition → Option ℕ → Guard → Type 0
IsGuard conditions channel (Errors held) = (held ≡ conditions) × (conditions ≢ [])
IsGuard conditions channel (Chan number) = (conditions ≡ []) × (channel ≡ Some number)
