-- What becomes of a caller after its call.
use Rattle.std.specs.Prelude.{ℕ}
use Rattle.apex_machine.specs.declared.state.Process.{Process}
use Rattle.scheduling.specs.Changes.{answered, noted, stopped_self, waiting_for}
use Rattle.scheduling.specs.declared.caller.Settling.{Settling}
use Rattle.scheduling.specs.declared.caller.Settling.TheVariants as settling

-- what becomes of a caller after its call: it waits, it is dormant, it stays ready, or an outcome is due to it
abbrev pub settled : ℕ → Settling → Process → Process
settled now (settling.Waits wait deadline) process = waiting_for now wait deadline process
settled now settling.Stops process = stopped_self now process
settled now settling.StaysReady process = noted now process
settled now (settling.Answered outcome renewed reached deadline) process = answered now renewed reached deadline outcome process
