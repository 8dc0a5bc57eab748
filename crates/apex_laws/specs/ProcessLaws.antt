-- What the rules compute of a process is exactly what the sentences say.
use Rattle.std.specs.Prelude.{◌≡◌, ◌↔◌, ℕ, ℤ, ◌<◌, List, Option, Some, true, IsTrue, Contains}
use Rattle.apex_types.specs.declared.record.Call.{Call as CallRecord}
use Rattle.apex_types.specs.declared.request.Request.{Request}
use Rattle.apex_machine.specs.declared.state.CoreState.{CoreState}
use Rattle.apex_machine.specs.declared.state.Process.{Process}
use Rattle.apex_machine.specs.DueTimes.{falls_due, wait_of}
use Rattle.apex_machine.specs.Processes.{caller_after, new_process, released, set_by, stopped, woken_by}
use Rattle.apex_types.specs.declared.record.Who.{Who}
use Rattle.apex_machine.specs.Answer.{Answer}
use Rattle.apex_machine.specs.Arguments.{capacity_given, natural_of, period_given}
use Rattle.apex_machine.specs.Configuration.{Configuration}
use Rattle.apex_machine.specs.Errors.{handles_more}
use Rattle.apex_machine.specs.Services.{answer_of}
use Rattle.apex_machine.specs.Deadlines.{deadline_from, is_missed, some_missed}
use Rattle.apex_machine.specs.State.{Partition, Table}
use Rattle.apex_machine.specs.Waiting.{is_waiting}
use Rattle.apex_laws.specs.DeadlineSentences.{HasMissed, IsDeadlineFrom}
use Rattle.apex_laws.specs.ProcessSentences.{HasDueTime, IsBegun, IsCaller, IsDue, IsReleased, IsAnswer, IsCreated, IsSetBy, IsStopped, IsWoken, WaitsForOther}

-- what each service sets in a process of its partition; a partition's period is above 0
abbrev pub SettingIsTheSentence : Type 0
SettingIsTheSentence =
    (place period : ℕ) (cores : List CoreState) (partition : Partition) (caller : ℕ) (asked : Request) (number : ℕ) (old new : Process) → 0 < period
    → (new ≡ set_by place period cores partition caller asked number old) ↔ IsSetBy place period cores partition caller asked number old new

-- which processes fall due at a tick
abbrev pub DueIsTheSentence : Type 0
DueIsTheSentence = (core now : ℕ) (process : Process) → (falls_due core now (Some process) ≡ true) ↔ IsDue core now process

-- a wait that falls due
abbrev pub ReleaseIsTheSentence : Type 0
ReleaseIsTheSentence =
    (place time : ℕ) (old new : Process) → HasDueTime old.wait time → (new ≡ released place old) ↔ IsReleased place old new

-- a wait that a call, an arrival or a departure ends
abbrev pub WakingIsTheSentence : Type 0
WakingIsTheSentence =
    (place : ℕ) (message : List ℕ) (old new : Process) → WaitsForOther old.wait → (new ≡ woken_by place message old) ↔ IsWoken place message old new

-- a process that is stopped
abbrev pub StoppingIsTheSentence : Type 0
StoppingIsTheSentence = (old new : Process) → (new ≡ stopped old) ↔ IsStopped old new

-- a caller, if a call that waits has something to wait for
abbrev pub CallerIsTheSentence : Type 0
CallerIsTheSentence =
    (place now : ℕ) (partition : Partition) (call : CallRecord) (old new : Process)
    → (IsTrue (is_waiting call.claim.out) → IsBegun now call.request call.claim.chan old (wait_of call.request call.claim.chan now old))
    → (new ≡ caller_after place now (handles_more partition call.who.proc call.request) call old) ↔ IsCaller place now partition call old new

-- a created process
abbrev pub CreationIsTheSentence : Type 0
CreationIsTheSentence =
    (core : ℕ) (name : List ℕ) (priority period time_capacity : ℤ)
    → IsCreated core name (natural_of priority) (period_given period) (capacity_given time_capacity) (new_process core name priority period time_capacity)

-- what the services of process management and time give
abbrev pub AnswerIsTheSentence : Type 0
AnswerIsTheSentence =
    (configuration : Configuration) (cores : List CoreState) (core : ℕ) (who : Who) (partition : Partition) (asked : Request) (answer : Answer)
    → (answer ≡ answer_of configuration cores core who partition asked) ↔ IsAnswer configuration cores core who partition asked answer

-- the deadline that a time capacity or a budget sets, if it counts from a time
abbrev pub DeadlineIsTheSentence : Type 0
DeadlineIsTheSentence = (time : ℕ) (span deadline : Option ℕ) → (deadline ≡ deadline_from time span) ↔ IsDeadlineFrom time span deadline

-- which processes have missed their deadlines, and whether one of a table has
abbrev pub MissedIsTheSentence : Type 0
MissedIsTheSentence =
    ((core now : ℕ) (process : Process) → (is_missed core now (Some process) ≡ true) ↔ HasMissed core now process)
    × ((core now : ℕ) (table : Table) → (some_missed core now table ≡ true) ↔ ((entry : ℕ × Process) × Contains table entry × HasMissed core now entry.1))
