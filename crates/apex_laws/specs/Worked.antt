-- Worked recordings: small modules, and what the machine makes of a few records from the cold state on. The proof checker computes them.
use Rattle.std.specs.Prelude.{ℕ, zero, suc, List, [], ◌∷◌, Option, Some, None, ℤ, pos, negsuc, codes}
use Rattle.apex_types.specs.declared.code.Code.{Code}
use Rattle.apex_types.specs.declared.code.Code.TheVariants as code
use Rattle.apex_types.specs.declared.discipline.Discipline.{Discipline}
use Rattle.apex_types.specs.declared.discipline.Discipline.TheVariants as discipline
use Rattle.apex_types.specs.declared.record.Body.{Body}
use Rattle.apex_types.specs.declared.record.Body.TheVariants.{Call, Ret, Disp, Tick}
use Rattle.apex_types.specs.declared.record.Ordered.{Ordered}
use Rattle.apex_types.specs.declared.record.Out.{Out}
use Rattle.apex_types.specs.declared.record.Out.TheVariants as out
use Rattle.apex_types.specs.declared.record.Who.{Who}
use Rattle.apex_types.specs.declared.operation.{ProcessOperation.ProcessOperation}
use Rattle.apex_types.specs.declared.request.Request.{Request}
use Rattle.apex_types.specs.declared.request.Request.TheVariants as request
use Rattle.apex_types.specs.declared.service.Service.{Service}
use Rattle.apex_machine.specs.declared.condition.Condition.{Condition}
use Rattle.apex_machine.specs.declared.state.ErrorPolicy.TheVariants as policy
use Rattle.apex_machine.specs.declared.state.Outcome.{Outcome}
use Rattle.apex_machine.specs.declared.state.Process.{Process}
use Rattle.apex_machine.specs.After.{after}
use Rattle.apex_machine.specs.Answer.{Answer}
use Rattle.apex_machine.specs.Configuration.{Configuration, PartitionLimits, QueuingChannel}
use Rattle.apex_machine.specs.ServiceConditions.{conditions_of}
use Rattle.apex_machine.specs.Services.{answer_of}
use Rattle.apex_machine.specs.State.{State, cold_state, item_at, time_of}
use Rattle.apex_machine.specs.Step.{channel_answer, due_of}

-- modules

-- a partition of period 10 on one core
abbrev pub limits_on : ℕ → ℕ → PartitionLimits
limits_on number core = record {
  number = number;
  period = 10;
  cores = core ∷ [];
  processes = 4;
  buffers = 2;
  blackboards = 1;
  semaphores = 1;
  events = 1;
  mutexes = 2;
  on_error = policy.Ignore;
}

-- one core, one partition, one window
abbrev pub one_partition : Configuration
one_partition = record {
  cores = 1;
  frame = 10;
  skew = 1;
  partitions = limits_on 0 0 ∷ [];
  windows = record { core = 0; partition = 0; start = 0; span = 10 } ∷ [];
  sampling = [];
  queuing = [];
}

-- a queuing channel of one message from the first partition to the second, whose receivers wait by this discipline
abbrev pub queuing_by : Discipline → QueuingChannel
queuing_by receiving = record {
  number = 0;
  size = 4;
  capacity = 1;
  source = Some (record { partition = 0; port = codes "Q" });
  source_discipline = discipline.Fifo;
  destination = Some (record { partition = 1; port = codes "Q" });
  destination_discipline = receiving;
}

-- two partitions on two cores, with a queuing channel and a sampling channel from the first to the second
abbrev pub two_partitions : Configuration
two_partitions = record {
  cores = 2;
  frame = 10;
  skew = 6;
  partitions = limits_on 0 0 ∷ limits_on 1 1 ∷ [];
  windows = record { core = 0; partition = 0; start = 0; span = 10 } ∷ record { core = 1; partition = 1; start = 0; span = 10 } ∷ [];
  sampling = record {
    number = 1;
    size = 4;
    refresh = 5;
    source = Some (record { partition = 0; port = codes "S" });
    destinations = record { partition = 1; port = codes "S" } ∷ [];
  } ∷ [];
  queuing = queuing_by discipline.Fifo ∷ [];
}

-- records

-- a record of a core
pub record Happening : Type 0 where
  pub core : ℕ
  pub body : Body

-- a process of a partition
abbrev pub process_of : ℕ → ℕ → Who
process_of partition number = record { part = partition; proc = number }

-- a call with all its claims
abbrev pub claims : ℕ → Who → ℕ → Request → Out → Option ℤ → List ℕ → Option ℕ → List Who → Happening
claims core who prio asked given val message chan woken = record {
  core = core;
  body = Call (record { who = who; request = asked; claim = record { prio = prio; out = given; val = val; val2 = None; val3 = None; bytes = message; chan = chan; woken = woken } });
}

-- a call that answers NO_ERROR
abbrev pub does : Who → Request → Happening
does who asked = claims who.part who 0 asked (out.Answer code.NoError) None [] None []

-- a call that answers NO_ERROR and ends waits
abbrev pub wakes : Who → Request → List Who → Happening
wakes who asked woken = claims who.part who 0 asked (out.Answer code.NoError) None [] None woken

-- a call that waits, of a process with this priority
abbrev pub waits : Who → ℕ → Request → Happening
waits who prio asked = claims who.part who prio asked out.Waits None [] None []

-- a creation under a number
abbrev pub creates : ℕ → Request → ℤ → Happening
creates partition asked number = claims partition (process_of partition 0) 0 asked (out.Answer code.NoError) (Some number) [] None []

-- the return of an outcome without a value
abbrev pub returns : Who → Service → Code → List ℕ → Happening
returns who service given message = record { core = who.part; body = Ret (record { who = who; service = service; code = given; val = None; val2 = None; val3 = None; bytes = message }) }

-- the core is given to a process
abbrev pub runs : Who → Happening
runs who = record { core = who.part; body = Disp (Some who) }

-- a tick
abbrev pub ticks : ℕ → List Who → Happening
ticks core woken = record { core = core; body = Tick woken }

-- some ticks that wake no process
abbrev pub idle_ticks : ℕ → ℕ → List Happening
idle_ticks core zero = []
idle_ticks core (suc count) = ticks core [] ∷ idle_ticks core count

-- a record at the next place
abbrev pub placed : State → Happening → Ordered
placed state happening = record { pos = state.count; core = happening.core; rec = record { seq = 0; body = happening.body } }

-- the state after some records
abbrev pub play : Configuration → State → List Happening → State
play configuration state [] = state
play configuration state (happening ∷ others) = play configuration (after configuration state (placed state happening)) others

-- the state after some records from the cold state on
abbrev pub played : Configuration → List Happening → State
played configuration records = play configuration (cold_state configuration) records

-- set-up: a partition's first records, then START of each process, then NORMAL

-- START of a process
abbrev pub start : ℕ → ℤ → Happening
start partition number = does (process_of partition 0) (request.Process number ProcessOperation.Start)

-- SET_PARTITION_MODE to NORMAL
abbrev pub normal : ℕ → Happening
normal partition = claims partition (process_of partition 0) 0 (request.SetPartitionMode (pos 3)) out.Never None [] None []

-- an aperiodic process under a number
abbrev pub aperiodic : ℕ → List ℕ → ℤ → ℤ → Happening
aperiodic partition name number priority = creates partition (request.CreateProcess name priority (negsuc 0) (negsuc 0)) number

-- what a state shows

-- a process
abbrev pub at : State → Who → Option Process
at state who = item_at (state.partitions who.part).table who.proc

-- what is due to a process
abbrev pub outcome_due_to : State → Who → Option Outcome
outcome_due_to state who = due_of (at state who)

-- an outcome without a value
abbrev pub outcome : Service → Code → List ℕ → Option Outcome
outcome service given message = Some (record { service = service; code = given; val = None; val2 = None; val3 = None; bytes = message })

-- what a service gives to a caller of its own partition, on the core of the partition's number, in the module of one partition
abbrev pub gets : State → Who → Request → Answer
gets state who asked = answer_of one_partition state.cores who.part who (state.partitions who.part) asked

-- what a service gives through a channel
abbrev pub gets_through : Configuration → State → Who → Request → ℕ → Answer
gets_through configuration state who asked channel = channel_answer configuration (time_of state.cores who.part) who.part asked state.channels channel

-- the error conditions that hold
abbrev pub conditions_met : Configuration → State → Who → Request → List Condition
conditions_met configuration state who asked = conditions_of configuration (time_of state.cores who.part) who (state.partitions who.part) asked

-- a priority of a process
abbrev pub priority_in : Option Process → ℕ
priority_in None = 0
priority_in (Some process) = process.current_priority
