-- What no other service than PERIODIC_WAIT does.
use Rattle.std.proofs.Common.{◌≡◌, ◌∙◌, ◌&&◌, ℕ, Bool, true, false, if◌then◌else◌, refl, sym}
use Rattle.apex_types.specs.declared.operation.{CallerOperation.CallerOperation}
use Rattle.apex_types.specs.declared.request.Request.{Request}
use Rattle.apex_types.specs.declared.request.Request.TheVariants as request
use Rattle.apex_machine.specs.declared.state.Process.{Process}
use Rattle.apex_machine.specs.DueTimes.{next_release}
use Rattle.apex_machine.specs.Processes.{release_taken}
use Rattle.scheduling.specs.Sound.{is_periodic_wait}

-- no other service takes the next release
pub none_taken : (asked : Request) (process : Process) → is_periodic_wait asked ≡ false → release_taken asked process ≡ process.last_release
none_taken (request.Caller CallerOperation.PeriodicWait) process other = cc
none_taken _ process other = refl

-- PERIODIC_WAIT takes the next release
pub next_taken : (asked : Request) (process : Process) → is_periodic_wait asked ≡ true → release_taken asked process ≡ next_release process
next_taken (request.Caller CallerOperation.PeriodicWait) process periodic = refl
next_taken _ process periodic = cc

-- the last release of a caller whose call takes none
pub none_reached : (asked : Request) (no_error : Bool) (process : Process) → (no_error && is_periodic_wait asked) ≡ false
    → process.last_release ≡ (if no_error then release_taken asked process else process.last_release)
none_reached asked true process other = sym (none_taken asked process other)
none_reached asked false process other = refl

-- and of one whose call takes the next
pub one_reached : (asked : Request) (no_error : Bool) (process : Process) (next : ℕ) → (no_error && is_periodic_wait asked) ≡ true
    → (is_periodic_wait asked ≡ true → next_release process ≡ next)
    → next ≡ (if no_error then release_taken asked process else process.last_release)
one_reached asked true process next periodic is = sym (next_taken asked process periodic ∙ is periodic)
one_reached asked false process next periodic is = cc

-- the ready position of a caller whose call renews it, and of another

pub renewed_there : (renews : Bool) (place old : ℕ) → renews ≡ true → place ≡ (if renews then place else old)
renewed_there true place old is = refl
renewed_there false place old is = cc

pub renewed_not : (renews : Bool) (place old : ℕ) → renews ≡ false → old ≡ (if renews then place else old)
renewed_not true place old is = cc
renewed_not false place old is = refl
