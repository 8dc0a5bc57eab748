-- A step of the machine: what a record must claim, and the state to which it then leads. A run is one step after another.
use Rattle.std.specs.Prelude.{◌≡◌, ◌⊎◌, ℕ, ◌+◌, ◌≤◌, List, [], ◌∷◌, length, Option, Some, None, Bool, IsTrue, IsFalse}
use Rattle.apex_types.specs.declared.code.Code.{Code}
use Rattle.apex_types.specs.declared.code.Code.TheVariants as code
use Rattle.apex_types.specs.declared.error.ErrorCode.{ErrorCode}
use Rattle.apex_types.specs.declared.error.ErrorCode.TheVariants as error
use Rattle.apex_types.specs.declared.record.Body.{Body}
use Rattle.apex_types.specs.declared.record.Body.TheVariants.{Arrive, Call, Depart, Ret, Disp, Tick, Error}
use Rattle.apex_types.specs.declared.record.Call.{Call as CallRecord}
use Rattle.apex_types.specs.declared.record.Claim.{Claim}
use Rattle.apex_types.specs.declared.record.Crossing.{Crossing}
use Rattle.apex_types.specs.declared.record.Ordered.{Ordered}
use Rattle.apex_types.specs.declared.record.Out.{Out}
use Rattle.apex_types.specs.declared.record.Out.TheVariants as out
use Rattle.apex_types.specs.declared.record.Return.{Return}
use Rattle.apex_types.specs.declared.record.Who.{Who}
use Rattle.apex_types.specs.declared.request.Request.{Request}
use Rattle.apex_machine.specs.declared.condition.Condition.{Condition}
use Rattle.apex_machine.specs.declared.state.CoreState.{CoreState}
use Rattle.apex_machine.specs.declared.state.Outcome.{Outcome}
use Rattle.apex_machine.specs.declared.state.Process.{Process}
use Rattle.apex_machine.specs.After.{after}
use Rattle.apex_machine.specs.Channels.{has_channel, is_from_outside, is_to_outside, size_of}
use Rattle.apex_machine.specs.Choice.{choice}
use Rattle.apex_machine.specs.Conditions.{code_of}
use Rattle.apex_machine.specs.Configuration.{Configuration, has_partition, window_at}
use Rattle.apex_machine.specs.Deadlines.{is_missed, some_missed}
use Rattle.apex_machine.specs.Errors.{restarts_by_error}
use Rattle.apex_machine.specs.DueTimes.{NamesThoseDue}
use Rattle.apex_machine.specs.Ports.{arrived, channel_effect, channel_of, departed, suits_use, use_of}
use Rattle.apex_machine.specs.ServiceConditions.{conditions_of}
use Rattle.apex_machine.specs.Services.{Answer, HasNoValues, HasValues, NamesExactly, answer_of, in_profile}
use Rattle.apex_machine.specs.State.{Channel, Partition, State, item_at, time_of, occupant_of}
use Rattle.apex_types.specs.declared.record.ErrorReport.{ErrorReport}

-- names

-- each process named is of a configured partition
abbrev pub AllConfigured : Configuration → List Who → Type 0
AllConfigured configuration [] = Unit {0}
AllConfigured configuration (who ∷ others) = IsTrue (has_partition configuration who.part) × AllConfigured configuration others

-- the process that a dispatch names, if any, is of a configured partition
abbrev pub OneConfigured : Configuration → Option Who → Type 0
OneConfigured configuration None = Unit {0}
OneConfigured configuration (Some who) = IsTrue (has_partition configuration who.part)

-- a channel that is claimed is configured
abbrev pub ChannelConfigured : Configuration → Option ℕ → Type 0
ChannelConfigured configuration None = Unit {0}
ChannelConfigured configuration (Some channel) = IsTrue (has_channel configuration channel)

-- ticks

-- a core that has reached this time is at most the skew ahead of each core
abbrev pub KeepsSkew : ℕ → ℕ → List CoreState → Type 0
KeepsSkew time skew [] = Unit {0}
KeepsSkew time skew (state ∷ states) = (time ≤ state.time + skew) × KeepsSkew time skew states

-- deadlines

-- no process of a partition that runs on this core has missed its deadline, by the time of the core
abbrev pub NoneMissed : List CoreState → ℕ → Partition → Type 0
NoneMissed cores core partition = IsFalse (some_missed core (time_of cores core) partition.table)

-- the same of the partition of this number, if there is one
abbrev pub NoneMissedIn : Option ℕ → State → ℕ → Type 0
NoneMissedIn None state core = Unit {0}
NoneMissedIn (Some number) state core = NoneMissed state.cores core (state.partitions number)

-- in the window of the core, no process of the window's partition that runs on the core has missed its deadline
abbrev pub MissesNone : Configuration → State → ℕ → Type 0
MissesNone configuration state core = NoneMissedIn (window_at configuration core (time_of state.cores core)) state core

-- calls and returns

-- the process exists, and no outcome is due to it
abbrev pub HasNoneDue : Option Process → Type 0
HasNoneDue None = ⊥
HasNoneDue (Some process) = process.due ≡ None

-- the process exists, and this is its current priority
abbrev pub HasPriority : ℕ → Option Process → Type 0
HasPriority priority None = ⊥
HasPriority priority (Some process) = process.current_priority ≡ priority

-- the outcome that is due to a process, if one is
abbrev pub due_of : Option Process → Option Outcome
due_of None = None
due_of (Some process) = process.due

-- one of the conditions has this code
abbrev pub IsCodeOf : List Condition → Code → Type 0
IsCodeOf [] code = ⊥
IsCodeOf (condition ∷ others) code = (code ≡ code_of condition) ⊎ IsCodeOf others code

-- the outcome is the code of one of the conditions
abbrev pub HasCode : List Condition → Out → Type 0
HasCode conditions out.Waits = ⊥
HasCode conditions out.Never = ⊥
HasCode conditions (out.Answer code) = IsCodeOf conditions code

-- if error conditions hold: the outcome is one of their codes, and nothing else is claimed
pub record IsRefused (conditions : List Condition) (claim : Claim) : Type 0 where
  pub chan : claim.chan ≡ None
  pub out : HasCode conditions claim.out
  pub values : HasNoValues claim
  pub bytes : claim.bytes ≡ []
  pub woken : claim.woken ≡ []

-- if none holds and no channel is used: the outcome is the service's, with its values, its message and the processes whose waits end
pub record IsAnswered (answer : Answer) (claim : Claim) : Type 0 where
  pub chan : claim.chan ≡ None
  pub out : claim.out ≡ answer.out
  pub values : HasValues answer.val answer.val2 answer.val3 claim
  pub bytes : claim.bytes ≡ answer.bytes
  pub woken : NamesExactly answer.woken claim.woken

-- if none holds and a channel is used, which is the port's and of the service's kind: the outcome is the one that the channel gives
pub record IsThrough (channel : ℕ) (suited : Bool) (answer : Answer) (claim : Claim) : Type 0 where
  pub chan : claim.chan ≡ Some channel
  pub kind : IsTrue suited
  pub out : claim.out ≡ answer.out
  pub values : HasValues answer.val answer.val2 answer.val3 claim
  pub bytes : claim.bytes ≡ answer.bytes
  pub woken : NamesExactly answer.woken claim.woken

-- the outcome of a call, by its error conditions, the channel through which it goes, what its partition answers, and whether a channel
-- suits it and what that channel answers
abbrev pub HasOutcome : List Condition → Option ℕ → Answer → (ℕ → Bool) → (ℕ → Answer) → Claim → Type 0
HasOutcome [] None answer suited through claim = IsAnswered answer claim
HasOutcome [] (Some channel) answer suited through claim = IsThrough channel (suited channel) (through channel) claim
HasOutcome (condition ∷ conditions) channel answer suited through claim = IsRefused (condition ∷ conditions) claim

-- a demand that applies only if no error condition holds
abbrev pub WhereNone : List Condition → Type 0 → Type 0
WhereNone [] Demanded = Demanded
WhereNone (condition ∷ conditions) Demanded = Unit {0}

-- if no error condition holds, the call is within the profile
abbrev pub IsWithinProfile : List Condition → Who → Partition → Request → Type 0
IsWithinProfile conditions who partition request = WhereNone conditions (IsTrue (in_profile who partition request))

-- what a channel answers to a call of this partition, at this time of the caller's core
abbrev pub channel_answer : Configuration → ℕ → ℕ → Request → (ℕ → Channel) → ℕ → Answer
channel_answer configuration now partition request channels number =
    (channel_effect configuration now number partition (use_of request) (channels number)).answer

-- the outcome that a return gives back
abbrev pub outcome_returned : Return → Outcome
outcome_returned ret = record { service = ret.service; code = ret.code; val = ret.val; val2 = ret.val2; val3 = ret.val3; bytes = ret.bytes }

-- a receive gives this message at once
abbrev pub IsTaken : Answer → List ℕ → Type 0
IsTaken answer message = (answer.out ≡ out.Answer code.NoError) × (answer.bytes ≡ message)

-- lawful records

-- a dispatch names the choice, while the core misses no deadline
pub record IsLawfulDispatch (configuration : Configuration) (state : State) (core : ℕ) (who : Option Who) : Type 0 where
  pub names : OneConfigured configuration who
  pub deadlines : MissesNone configuration state core
  pub choice : choice configuration state core ≡ who

-- a tick keeps the skew, finds no missed deadline and the choice as the occupant, and names exactly the processes that fall due
pub record IsLawfulTick (configuration : Configuration) (state : State) (core : ℕ) (woken : List Who) : Type 0 where
  pub names : AllConfigured configuration woken
  pub skew : KeepsSkew (time_of state.cores core + 1) configuration.skew state.cores
  pub deadlines : MissesNone configuration state core
  pub choice : choice configuration state core ≡ occupant_of state.cores core
  pub due : (partition : ℕ) → IsTrue (has_partition configuration partition)
      → NamesThoseDue partition core (time_of state.cores core + 1) (state.partitions partition).table woken

-- a call comes from the occupant, which is the choice and to which no outcome is due, while the core misses no deadline; it claims its
-- current priority and an outcome that the service can have
pub record IsLawfulCall (configuration : Configuration) (state : State) (core : ℕ) (call : CallRecord) : Type 0 where
  pub names : IsTrue (has_partition configuration call.who.part) × AllConfigured configuration call.claim.woken × ChannelConfigured configuration call.claim.chan
  pub deadlines : MissesNone configuration state core
  pub occupant : occupant_of state.cores core ≡ Some call.who
  pub choice : choice configuration state core ≡ Some call.who
  pub due : HasNoneDue (item_at (state.partitions call.who.part).table call.who.proc)
  pub profile : IsWithinProfile (conditions_of configuration (time_of state.cores core) call.who (state.partitions call.who.part) call.request)
      call.who (state.partitions call.who.part) call.request
  pub prio : HasPriority call.claim.prio (item_at (state.partitions call.who.part).table call.who.proc)
  pub outcome : HasOutcome (conditions_of configuration (time_of state.cores core) call.who (state.partitions call.who.part) call.request)
      (channel_of (state.partitions call.who.part) call.request)
      (answer_of configuration state.cores core call.who (state.partitions call.who.part) call.request)
      (λ number. suits_use configuration number call.who.part (use_of call.request) (state.channels number))
      (channel_answer configuration (time_of state.cores core) call.who.part call.request state.channels) call.claim

-- a return comes from the occupant, which is the choice, while the core misses no deadline, and gives back the outcome that is due
pub record IsLawfulReturn (configuration : Configuration) (state : State) (core : ℕ) (ret : Return) : Type 0 where
  pub names : IsTrue (has_partition configuration ret.who.part)
  pub deadlines : MissesNone configuration state core
  pub occupant : occupant_of state.cores core ≡ Some ret.who
  pub choice : choice configuration state core ≡ Some ret.who
  pub due : due_of (item_at (state.partitions ret.who.part).table ret.who.proc) ≡ Some (outcome_returned ret)

-- a message arrives at a configured channel whose source is outside, and is no longer than the channel's messages; exactly the processes
-- that it wakes are named
pub record IsLawfulArrival (configuration : Configuration) (state : State) (core : ℕ) (crossing : Crossing) : Type 0 where
  pub names : AllConfigured configuration crossing.woken × IsTrue (has_channel configuration crossing.chan)
  pub chan : IsTrue (is_from_outside configuration crossing.chan)
  pub size : length crossing.message ≤ size_of configuration crossing.chan
  pub woken : NamesExactly (arrived configuration (time_of state.cores core) crossing.chan crossing.message (state.channels crossing.chan)).answer.woken crossing.woken

-- the oldest message departs from a configured queuing channel whose destination is outside; exactly the process that this wakes is named
pub record IsLawfulDeparture (configuration : Configuration) (state : State) (core : ℕ) (crossing : Crossing) : Type 0 where
  pub names : AllConfigured configuration crossing.woken × IsTrue (has_channel configuration crossing.chan)
  pub chan : IsTrue (is_to_outside configuration crossing.chan)
  pub message : IsTaken (departed configuration (time_of state.cores core) crossing.chan (state.channels crossing.chan)).answer crossing.message
  pub woken : NamesExactly (departed configuration (time_of state.cores core) crossing.chan (state.channels crossing.chan)).answer.woken crossing.woken

-- an error is that of a process that has missed its deadline and runs on the core, or else that of the occupant, which is the choice
abbrev pub CanHaveError : ErrorCode → Configuration → State → ℕ → Who → Type 0
CanHaveError error.DeadlineMissed configuration state core who =
    IsTrue (is_missed core (time_of state.cores core) (item_at (state.partitions who.part).table who.proc))
CanHaveError _ configuration state core who = (occupant_of state.cores core ≡ Some who) × (choice configuration state core ≡ Some who)

-- an error is reported in a window of the process's partition, and restarts the partition where no handler takes it and the configuration
-- says so
pub record IsLawfulError (configuration : Configuration) (state : State) (core : ℕ) (report : ErrorReport) : Type 0 where
  pub names : IsTrue (has_partition configuration report.who.part)
  pub window : window_at configuration core (time_of state.cores core) ≡ Some report.who.part
  pub process : CanHaveError report.error configuration state core report.who
  pub restart : restarts_by_error configuration report.who.part (state.partitions report.who.part) report.who.proc ≡ report.restarts

-- what a record of each kind claims is true
abbrev pub IsLawfulBody : Configuration → State → ℕ → Body → Type 0
IsLawfulBody configuration state core (Disp who) = IsLawfulDispatch configuration state core who
IsLawfulBody configuration state core (Tick woken) = IsLawfulTick configuration state core woken
IsLawfulBody configuration state core (Call call) = IsLawfulCall configuration state core call
IsLawfulBody configuration state core (Ret ret) = IsLawfulReturn configuration state core ret
IsLawfulBody configuration state core (Arrive crossing) = IsLawfulArrival configuration state core crossing
IsLawfulBody configuration state core (Depart crossing) = IsLawfulDeparture configuration state core crossing
IsLawfulBody configuration state core (Error report) = IsLawfulError configuration state core report

-- a record is lawful in a state if it is at the next place and what it claims is true
pub record IsLawful (configuration : Configuration) (state : State) (ordered : Ordered) : Type 0 where
  pub placed : ordered.pos ≡ state.count
  pub claims : IsLawfulBody configuration state ordered.core ordered.rec.body

-- steps and runs

-- the step of a record: it is lawful, and the next state is the one that its claims give
abbrev pub Step : Configuration → State → Ordered → State → Type 0
Step configuration state ordered next = IsLawful configuration state ordered × (next ≡ after configuration state ordered)

-- one step after another
abbrev pub Run : Configuration → State → List Ordered → State → Type 0
Run configuration state [] final = final ≡ state
Run configuration state (ordered ∷ others) final =
    (next : State) × Step configuration state ordered next × Run configuration next others final
