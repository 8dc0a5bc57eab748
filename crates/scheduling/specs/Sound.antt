-- What a call must satisfy so that a table can hold what it requests.
use Rattle.std.specs.Prelude.{◌≡◌, ◌<◌, ℕ, Some, [], IsTrue, Bool, true, false, nat_lt, ℤ, pos, negsuc}
use Rattle.apex_types.specs.declared.record.Call.{Call as CallRecord}
use Rattle.apex_types.specs.declared.operation.{CallerOperation.CallerOperation, ProcessOperation.ProcessOperation}
use Rattle.apex_types.specs.declared.request.Request.{Request}
use Rattle.apex_types.specs.declared.request.Request.TheVariants as request
use Rattle.apex_machine.specs.declared.state.Process.{Process}
use Rattle.apex_machine.specs.DueTimes.{next_release}
use Rattle.apex_machine.specs.State.{Table, is_free, item_at}
use Rattle.apex_machine.specs.Answer.{is_new}
use Rattle.apex_machine.specs.Arguments.{is_priority, natural_of}
use Rattle.apex_machine.specs.After.{is_done}
use Rattle.apex_machine.specs.Waiting.{is_waiting}

-- the number of a core fits 8 bits
abbrev pub is_core_number : ℤ → Bool
is_core_number (pos n) = nat_lt n 256
is_core_number (negsuc n) = false

-- an INITIALIZE_PROCESS_CORE_AFFINITY gives the number of a core, a SET_PRIORITY a priority in range
abbrev pub GivesSoundly : ProcessOperation → Type 0
GivesSoundly (ProcessOperation.InitializeCoreAffinity core) = IsTrue (is_core_number core)
GivesSoundly (ProcessOperation.SetPriority priority) = IsTrue (is_priority priority)
GivesSoundly _ = Unit {0}

-- a CREATE_PROCESS that was carried out claims a new number, has a priority in range and ends no wait; a service that names a process and
-- was carried out gives a value in range
abbrev pub AsksSoundly : Table → CallRecord → Request → Type 0
AsksSoundly table call (request.CreateProcess name priority period time_capacity) =
    IsTrue (is_done call.claim.out) → IsTrue (is_new (is_free table) call.claim.val) × IsTrue (is_priority priority) × (call.claim.woken ≡ [])
AsksSoundly table call (request.Process process operation) = IsTrue (is_done call.claim.out) → GivesSoundly operation
AsksSoundly table call _ = Unit {0}

-- the number of an object fits 32 bits
abbrev pub IsObjectNumber : ℤ → Type 0
IsObjectNumber given = natural_of given < 4294967296

-- if a call waits at an object, the object's number fits
abbrev pub WaitsSoundly : Request → Type 0
WaitsSoundly (request.Object number operation) = IsObjectNumber number
WaitsSoundly _ = Unit {0}

-- whether a request is PERIODIC_WAIT
abbrev pub is_periodic_wait : Request → Bool
is_periodic_wait (request.Caller CallerOperation.PeriodicWait) = true
is_periodic_wait _ = false

-- the next release of a caller of PERIODIC_WAIT fits 64 bits
abbrev pub ReleasesSoundly : Table → ℕ → Request → Type 0
ReleasesSoundly table caller (request.Caller CallerOperation.PeriodicWait) = (process : Process) → item_at table caller ≡ Some process → next_release process < 18446744073709551616
ReleasesSoundly table caller _ = Unit {0}

-- a table can hold what a call requests
pub record IsSound (table : Table) (call : CallRecord) : Type 0 where
  pub asks : AsksSoundly table call call.request
  pub waits : IsTrue (is_waiting call.claim.out) → WaitsSoundly call.request
  pub releases : ReleasesSoundly table call.who.proc call.request
