-- What every lawful record does is what the sentences say.
use Rattle.std.specs.Prelude.{◌≡◌, ◌↔◌, ℕ, ◌⊎◌, ◌<◌, List, [], Option, Some, None, IsTrue, IsFalse, length}
use Rattle.apex_types.specs.declared.record.Body.TheVariants.{Arrive, Call, Depart, Disp, Error, Ret, Tick}
use Rattle.apex_types.specs.declared.record.Call.{Call as CallRecord}
use Rattle.apex_types.specs.declared.record.Crossing.{Crossing}
use Rattle.apex_types.specs.declared.record.ErrorReport.{ErrorReport}
use Rattle.apex_types.specs.declared.record.Ordered.{Ordered}
use Rattle.apex_types.specs.declared.record.Return.{Return}
use Rattle.apex_types.specs.declared.record.Who.{Who}
use Rattle.apex_types.specs.Requested.{service_of}
use Rattle.apex_machine.specs.declared.state.Entry.{Entry}
use Rattle.apex_machine.specs.declared.state.Mode.{Mode}
use Rattle.apex_machine.specs.declared.state.Restart.{Restart}
use Rattle.apex_machine.specs.declared.state.StartCondition.TheVariants.{ErrorRestart}
use Rattle.apex_machine.specs.declared.state.WaitingSet.{WaitingSet}
use Rattle.apex_machine.specs.After.{restart_of}
use Rattle.apex_machine.specs.Configuration.{Configuration, period_of}
use Rattle.apex_machine.specs.ServiceConditions.{conditions_of}
use Rattle.apex_machine.specs.State.{State, time_of}
use Rattle.apex_machine.specs.Step.{Step}
use Rattle.apex_machine.specs.Waiting.{is_restart, set_after}
use Rattle.apex_laws.specs.ErrorSentences.{ErrorRestartsIn}
use Rattle.apex_laws.specs.Laws.{SetsAreInOrder, AreTied, HoldTheirKind}
use Rattle.apex_laws.specs.ObjectSentences.{IsArriving, IsDeparting}
use Rattle.apex_laws.specs.RecordSentences.{HasReturned, IsCallOf, IsCrossingOf, IsDispatchOf, IsErrorOf, IsRefusedCallOf, IsRestartOf, IsSetAfterCall, IsTickOf, OnlyChanges, Restarts}

-- a dispatch of one of the cores
abbrev pub DispatchIsTheSentence : Type 0
DispatchIsTheSentence =
    (configuration : Configuration) (state : State) (ordered : Ordered) (who : Option Who) (next : State)
    → Step configuration state ordered next → ordered.rec.body ≡ Disp who → ordered.core < length state.cores
    → IsDispatchOf ordered.core who state next

-- a tick of one of the cores
abbrev pub TickIsTheSentence : Type 0
TickIsTheSentence =
    (configuration : Configuration) (state : State) (ordered : Ordered) (woken : List Who) (next : State)
    → Step configuration state ordered next → ordered.rec.body ≡ Tick woken → ordered.core < length state.cores
    → IsTickOf configuration ordered.core ordered.pos state next

-- a return
abbrev pub ReturnIsTheSentence : Type 0
ReturnIsTheSentence =
    (configuration : Configuration) (state : State) (ordered : Ordered) (ret : Return) (next : State)
    → Step configuration state ordered next → ordered.rec.body ≡ Ret ret → OnlyChanges HasReturned ret.who state next

-- a call with an error condition
abbrev pub RefusalIsTheSentence : Type 0
RefusalIsTheSentence =
    (configuration : Configuration) (state : State) (ordered : Ordered) (call : CallRecord) (next : State)
    → Step configuration state ordered next → ordered.rec.body ≡ Call call
    → ¬ (conditions_of configuration (time_of state.cores ordered.core) call.who (state.partitions call.who.part) call.request ≡ [])
    → IsRefusedCallOf call.who (service_of call.request) (conditions_of configuration (time_of state.cores ordered.core) call.who (state.partitions call.who.part) call.request)
    (time_of state.cores ordered.core) state next

-- a waiting set after a call
abbrev pub SetIsTheSentence : Type 0
SetIsTheSentence =
    (place : ℕ) (call : CallRecord) (wanted : WaitingSet) (old new : List Entry)
    → (new ≡ set_after place (Call call) wanted old) ↔ IsSetAfterCall place call wanted old new

-- any call that restarts no partition, in a tied state whose waiting sets are in order, as they are in every state of a run; the
-- partitions' periods are above 0
abbrev pub CallIsTheSentence : Type 0
CallIsTheSentence =
    (configuration : Configuration) (state : State) (ordered : Ordered) (call : CallRecord) (next : State)
    → ((number : ℕ) → 0 < period_of configuration number) → AreTied configuration state → SetsAreInOrder state
    → Step configuration state ordered next → ordered.rec.body ≡ Call call → IsFalse (is_restart call)
    → IsCallOf configuration ordered.pos (time_of state.cores ordered.core) call state next

-- an arrival in such a state: each process that it wakes gets the message
abbrev pub ArrivalIsTheSentence : Type 0
ArrivalIsTheSentence =
    (configuration : Configuration) (state : State) (ordered : Ordered) (crossing : Crossing) (next : State)
    → AreTied configuration state → SetsAreInOrder state → Step configuration state ordered next → ordered.rec.body ≡ Arrive crossing
    → IsCrossingOf ordered.pos crossing crossing.message
    (IsArriving configuration (time_of state.cores ordered.core) crossing.chan crossing.message) state next

-- a departure in such a state, whose channels hold what their kinds do, as in every state of a run
abbrev pub DepartureIsTheSentence : Type 0
DepartureIsTheSentence =
    (configuration : Configuration) (state : State) (ordered : Ordered) (crossing : Crossing) (next : State)
    → AreTied configuration state → SetsAreInOrder state → HoldTheirKind configuration state → Step configuration state ordered next → ordered.rec.body ≡ Depart crossing
    → IsCrossingOf ordered.pos crossing [] (IsDeparting configuration crossing.chan crossing.message) state next

-- a call that restarts its partition: SET_PARTITION_MODE that does not return, to IDLE, COLD_START or WARM_START, which are 0 to 2, or
-- RAISE_APPLICATION_ERROR that does not return; no other call restarts one, and each lawful call that is a restart has a mode
abbrev pub RestartIsTheSentence : Type 0
RestartIsTheSentence =
    ((configuration : Configuration) (state : State) (ordered : Ordered) (call : CallRecord) (restart : Restart) (next : State)
    → Step configuration state ordered next → ordered.rec.body ≡ Call call → restart_of configuration call ≡ Some restart
    → IsRestartOf configuration ordered.pos restart call.who.part state next)
    × ((configuration : Configuration) (call : CallRecord) (restart : Restart) → (restart_of configuration call ≡ Some restart) ↔ Restarts configuration call restart)
    × ((configuration : Configuration) (state : State) (ordered : Ordered) (call : CallRecord) (next : State)
    → Step configuration state ordered next → ordered.rec.body ≡ Call call → IsTrue (is_restart call) → (restart : Restart) × (restart_of configuration call ≡ Some restart))

-- the report of an error: it restarts the partition if no handler takes it and the configuration says so
abbrev pub ErrorIsTheSentence : Type 0
ErrorIsTheSentence =
    (configuration : Configuration) (state : State) (ordered : Ordered) (report : ErrorReport) (next : State)
    → Step configuration state ordered next → ordered.rec.body ≡ Error report
    → (IsFalse report.restarts × IsErrorOf configuration ordered.core ordered.pos report state next)
    ⊎ (IsTrue report.restarts
    × ((entered : Mode) × ErrorRestartsIn configuration report.who.part entered
    × IsRestartOf configuration ordered.pos (record { start = ErrorRestart; mode = entered }) report.who.part state next))
