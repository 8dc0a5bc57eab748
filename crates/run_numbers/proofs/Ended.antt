-- What the end of a wait gives.
use Rattle.std.proofs.Common.{◌≡◌, ◌+◌, ◌-◌, ◌^◌, ℕ, List, ◌++◌, Bool, true, false, Option, min, refl, arith}
use Rattle.apex_types.specs.declared.record.Who.{Who}
use Rattle.apex_machine.specs.declared.state.Wait.{Wait}
use Rattle.apex_machine.specs.declared.state.Wait.TheVariants as wait
use Rattle.apex_machine.specs.declared.state.WaitingSet.{WaitingSet}
use Rattle.run_numbers.specs.declared.observation.Observation.{Observation}
use Rattle.run_numbers.specs.Releases.{released}
use Rattle.run_numbers.specs.Tallies.{capped}
use Rattle.run_numbers.specs.Waits.{times_out}
use Rattle.run_numbers.proofs.Added.{none_added}
use Rattle.run_numbers.proofs.Tallying.{capped_is}

-- one tick more
pub one_tick_more : (time more : ℕ) → more ≡ min (time + 1) (2 ^ 64 - 1) → more ≡ capped (time + 1)
one_tick_more time more is = let whole = capped_is (time + 1) in omega (arith, whole, is)

-- a wait for a time does not time out
pub no_time_out : (is_tick : Bool) (held : Wait) → ((due : Option ℕ) → held ≡ wait.Suspended due → ⊥) → ((set : WaitingSet) (due : Option ℕ) → held ≡ wait.At set due → ⊥)
    → (held ≡ wait.ForLock → ⊥) → false ≡ times_out is_tick held
no_time_out is_tick (wait.Suspended due) first second third = absurd (first due refl)
no_time_out is_tick (wait.At set due) first second third = absurd (second set due refl)
no_time_out is_tick wait.ForLock first second third = absurd (third refl)
no_time_out true other first second third = refl
no_time_out false other first second third = refl

-- the end of a wait for anything but a release is none
pub not_released : (who : Who) (held : Wait) (old : List Observation) → ((time : ℕ) → held ≡ wait.FirstRelease time → ⊥) → ((time : ℕ) → held ≡ wait.PeriodicRelease time → ⊥)
    → old ≡ old ++ released who held
not_released who (wait.FirstRelease time) old first second = absurd (first time refl)
not_released who (wait.PeriodicRelease time) old first second = absurd (second time refl)
not_released who other old first second = none_added old
