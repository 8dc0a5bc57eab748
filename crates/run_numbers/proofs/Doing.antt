-- What a process does.
use Rattle.std.proofs.Common.{◌≡◌, ℕ, Option, refl}
use Rattle.apex_machine.specs.declared.state.Wait.{Wait}
use Rattle.apex_machine.specs.declared.state.Wait.TheVariants as wait
use Rattle.run_numbers.specs.declared.figure.Activity.TheVariants.{Waiting}
use Rattle.run_numbers.specs.Activities.{activity_by}

-- a process that waits for something else than its resumption waits
pub doing_by : (held : Wait) → (held ≡ wait.Nothing → ⊥) → ((due : Option ℕ) → held ≡ wait.Suspended due → ⊥) → Waiting ≡ activity_by held
doing_by wait.Nothing waits resumes = absurd (waits refl)
doing_by (wait.Suspended due) waits resumes = absurd (resumes due refl)
doing_by (wait.NormalMode delay) waits resumes = refl
doing_by (wait.FirstRelease due) waits resumes = refl
doing_by (wait.Delay due) waits resumes = refl
doing_by (wait.Until due) waits resumes = refl
doing_by (wait.PeriodicRelease due) waits resumes = refl
doing_by (wait.At set due) waits resumes = refl
doing_by wait.ForLock waits resumes = refl
