-- The table of processes can hold what a call asks for.
use Rattle.std.proofs.Common.{◌≡◌, ◌<◌, ◌≤◌, ℕ, ℤ, pos, negsuc, List, [], ◌∷◌, ◌||◌, Bool, true, false, IsTrue, refl, arith}
use Rattle.std.proofs.lemmas.Bool.Decides.{nat_tests}
use Rattle.apex_types.specs.declared.limits.TheConstants.{MOST_CORES, PLACE_COUNT}
use Rattle.apex_types.specs.declared.operation.{CallerOperation.CallerOperation, HealthOperation.HealthOperation, ProcessOperation.ProcessOperation}
use Rattle.apex_types.specs.declared.record.Call.{Call as CallRecord}
use Rattle.apex_types.specs.declared.record.Out.{Out}
use Rattle.apex_types.specs.declared.record.Out.TheVariants as out
use Rattle.apex_types.specs.declared.record.Who.{Who}
use Rattle.apex_types.specs.declared.request.Request.{Request}
use Rattle.apex_types.specs.declared.operation.ObjectOperation.TheVariants as on
use Rattle.apex_types.specs.declared.request.Request.TheVariants as request
use Rattle.apex_machine.specs.declared.state.CoreState.{CoreState}
use Rattle.apex_machine.specs.After.{is_done}
use Rattle.apex_machine.specs.Answer.{NamesExactly}
use Rattle.apex_machine.specs.Configuration.{Configuration, is_core}
use Rattle.apex_machine.specs.Demands.{AllHold}
use Rattle.apex_machine.specs.ServiceConditions.{conditions_of}
use Rattle.apex_machine.specs.State.{Partition, is_named, is_same, time_of}
use Rattle.apex_machine.specs.Waiting.{is_waiting}
use Rattle.apex_laws.specs.PartBounds.{IsBoundedPart}
use Rattle.apex_laws.proofs.BoundedParts.{releases_fit}
use Rattle.module_config.specs.Limits.{CoresAreOfModule}
use Rattle.partition_objects.proofs.Numbers.{given_fits}
use Rattle.scheduling.specs.Sound.{IsSound, AsksSoundly, GivesSoundly, ReleasesSoundly, WaitsSoundly, is_core_number}
use Rattle.partition_state.specs.Calls.{IsClear, NamesCore, NumbersAreKept, served_demands}
use Rattle.partition_state.proofs.Clear.{blackboard_found, buffer_found, event_found, mutex_found, nil_left, nil_right, semaphore_found, when_not}

-- what is asked

-- a list that names no process is empty
same_self : (who : Who) → is_same who who ≡ true
same_self who = grind (arith, nat_tests)

nobody : (named : List Who) → NamesExactly [] named → named ≡ []
nobody [] exactly = refl
nobody (who ∷ named) exactly =
    let none : is_same who who || is_named who named ≡ false = exactly who in
    let self = rw (same_self who) at none in cc

-- a core of a partition is one
core_is : (configuration : Configuration) (number : ℕ) (core : ℤ) → configuration.cores ≤ MOST_CORES → CoresAreOfModule configuration
    → IsTrue (is_core configuration number core) → IsTrue (is_core_number core)
core_is configuration number (pos core) few of_module has =
    let below : core < configuration.cores = of_module number core has in
    grind (arith, nat_tests)
core_is configuration number (negsuc core) few of_module has = cc

gives_soundly : (configuration : Configuration) (now : ℕ) (who : Who) (partition : Partition) (process : ℤ) (operation : ProcessOperation) → configuration.cores ≤ MOST_CORES → CoresAreOfModule configuration
    → conditions_of configuration now who partition (request.Process process operation) ≡ [] → GivesSoundly operation
gives_soundly configuration now who partition process (ProcessOperation.SetPriority priority) few of_module none = when_not _ _ (nil_right _ _ none)
gives_soundly configuration now who partition process (ProcessOperation.InitializeCoreAffinity core) few of_module none =
    core_is configuration who.part core few of_module (when_not _ _ (nil_right _ _ none))
gives_soundly configuration now who partition process _ few of_module none = tt

-- the core of a handler is one
pub names_core : (configuration : Configuration) (now : ℕ) (who : Who) (partition : Partition) (operation : HealthOperation) → configuration.cores ≤ MOST_CORES
    → CoresAreOfModule configuration → conditions_of configuration now who partition (request.Health operation) ≡ [] → NamesCore operation
names_core configuration now who partition (HealthOperation.ConfigureHandler concurrency core) few of_module none =
    core_is configuration who.part core few of_module (when_not _ _ (nil_right _ _ none))
names_core configuration now who partition _ few of_module none = tt

asks_soundly : (configuration : Configuration) (cores : List CoreState) (core : ℕ) (partition : Partition) (call : CallRecord) (asked : Request)
    → configuration.cores ≤ MOST_CORES → CoresAreOfModule configuration → conditions_of configuration (time_of cores core) call.who partition asked ≡ [] → call.request ≡ asked
    → AllHold (served_demands configuration cores core partition call) → AsksSoundly partition.table call asked
asks_soundly configuration cores core partition call (request.CreateProcess name priority period time_capacity) few of_module none is served =
    λ done. let given = rw is at served in
    (given.1.0.val, when_not _ _ (nil_right _ _ (nil_left _ _ (nil_left _ _ (nil_left _ _ (nil_left _ _ none))))), nobody call.claim.woken given.1.1.1.0)
asks_soundly configuration cores core partition call (request.Process process operation) few of_module none is served =
    λ done. gives_soundly configuration (time_of cores core) call.who partition process operation few of_module none
asks_soundly configuration cores core partition call _ few of_module none is served = tt

-- waits

waits_soundly : (configuration : Configuration) (now : ℕ) (who : Who) (partition : Partition) (asked : Request) → NumbersAreKept partition
    → conditions_of configuration now who partition asked ≡ [] → WaitsSoundly asked
waits_soundly configuration now who partition (request.Object number (on.Buffer operation)) kept none =
    given_fits partition.buffers number kept.buffers (buffer_found configuration now who partition number operation none)
waits_soundly configuration now who partition (request.Object number (on.Blackboard operation)) kept none =
    given_fits partition.blackboards number kept.blackboards (blackboard_found configuration now who partition number operation none)
waits_soundly configuration now who partition (request.Object number (on.Semaphore operation)) kept none =
    given_fits partition.semaphores number kept.semaphores (semaphore_found configuration now who partition number operation none)
waits_soundly configuration now who partition (request.Object number (on.Event operation)) kept none =
    given_fits partition.events number kept.events (event_found configuration now who partition number operation none)
waits_soundly configuration now who partition (request.Object number (on.Mutex operation)) kept none =
    given_fits partition.mutexes number kept.mutexes (mutex_found configuration now who partition number operation none)
waits_soundly configuration now who partition _ kept none = tt

-- releases

pub releases_soundly : (place : ℕ) (partition : Partition) (caller : ℕ) (asked : Request) → IsBoundedPart place partition → place < PLACE_COUNT
    → ReleasesSoundly partition.table caller asked
releases_soundly place partition caller (request.Caller CallerOperation.PeriodicWait) bounded below =
    λ process at. releases_fit place partition caller process bounded (omega (arith, below)) at
releases_soundly place partition caller _ bounded below = tt

-- calls that are served

pub sound_served : (configuration : Configuration) (cores : List CoreState) (place core : ℕ) (partition : Partition) (call : CallRecord)
    → IsClear configuration cores place core partition call → AllHold (served_demands configuration cores core partition call)
    → configuration.cores ≤ MOST_CORES → CoresAreOfModule configuration → NumbersAreKept partition → place < PLACE_COUNT → IsSound partition.table call
sound_served configuration cores place core partition call clear served few of_module kept below = record {
  asks = asks_soundly configuration cores core partition call call.request few of_module clear.conditions refl served;
  waits = λ waiting. waits_soundly configuration (time_of cores core) call.who partition call.request kept clear.conditions;
  releases = releases_soundly place partition call.who.proc call.request clear.bounded below;
}

-- calls that are refused

not_waiting : (claimed : Out) → is_done claimed ≡ false → IsTrue (is_waiting claimed) → ⊥
not_waiting out.Waits not_done waiting = let never : ◌≡◌ {A = Bool} true false = not_done in cc
not_waiting out.Never not_done waiting = let never : ◌≡◌ {A = Bool} false true = waiting in cc
not_waiting (out.Answer code) not_done waiting = let never : ◌≡◌ {A = Bool} false true = waiting in cc

pub not_done_and_done : (done : Bool) → done ≡ false → IsTrue done → ⊥
not_done_and_done true not_done is = let never : ◌≡◌ {A = Bool} true false = not_done in cc
not_done_and_done false not_done is = let never : ◌≡◌ {A = Bool} false true = is in cc

asks_nothing : (partition : Partition) (call : CallRecord) (asked : Request) → is_done call.claim.out ≡ false → AsksSoundly partition.table call asked
asks_nothing partition call (request.CreateProcess name priority period time_capacity) not_done = λ done. absurd (not_done_and_done (is_done call.claim.out) not_done done)
asks_nothing partition call (request.Process process operation) not_done = λ done. absurd (not_done_and_done (is_done call.claim.out) not_done done)
asks_nothing partition call _ not_done = tt

pub sound_refused : (place : ℕ) (partition : Partition) (call : CallRecord) → IsBoundedPart place partition → is_done call.claim.out ≡ false
    → place < PLACE_COUNT → IsSound partition.table call
sound_refused place partition call bounded not_done below = record {
  asks = asks_nothing partition call call.request not_done;
  waits = λ waiting. absurd (not_waiting call.claim.out not_done waiting);
  releases = releases_soundly place partition call.who.proc call.request bounded below;
}
