-- The states of processes.
use Rattle.std.proofs.Common.{◌≡◌, refl}
use Rattle.apex_machine.specs.declared.state.Wait.{Wait}
use Rattle.apex_machine.specs.declared.state.Wait.TheVariants as wait
use Rattle.run_view.specs.declared.process.ProcessState.TheVariants.{Waiting}
use Rattle.run_view.specs.Processes.{state_by_wait}

-- a process that waits for something is not ready
pub waiting_is_not_ready : (held : Wait) → (held ≡ wait.Nothing → ⊥) → Waiting held ≡ state_by_wait held
waiting_is_not_ready wait.Nothing waits = absurd (waits refl)
waiting_is_not_ready (wait.NormalMode delay) waits = refl
waiting_is_not_ready (wait.FirstRelease due) waits = refl
waiting_is_not_ready (wait.Delay due) waits = refl
waiting_is_not_ready (wait.Until due) waits = refl
waiting_is_not_ready (wait.PeriodicRelease due) waits = refl
waiting_is_not_ready (wait.Suspended due) waits = refl
waiting_is_not_ready (wait.At set due) waits = refl
waiting_is_not_ready wait.ForLock waits = refl
