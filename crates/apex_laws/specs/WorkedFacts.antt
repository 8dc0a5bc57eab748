-- Worked facts: what the definitions make of small recordings. Process k of partition 0 is `one`, `two`, `three`.
use Rattle.std.specs.Prelude.{◌≡◌, ℕ, List, [], ◌∷◌, ◌++◌, Option, Some, None, Bool, true, false, ℤ, pos, negsuc, codes, option_map}
use Rattle.apex_types.specs.declared.code.Code.TheVariants as code
use Rattle.apex_types.specs.declared.discipline.Discipline.TheVariants as discipline
use Rattle.apex_types.specs.declared.object_kind.NamedKind.TheVariants as named
use Rattle.apex_types.specs.declared.record.Body.TheVariants.{Arrive, Depart, Error}
use Rattle.apex_types.specs.declared.error.ErrorCode.TheVariants as error
use Rattle.apex_types.specs.declared.record.Crossing.{Crossing}
use Rattle.apex_types.specs.declared.record.Out.TheVariants as out
use Rattle.apex_types.specs.declared.record.Who.{Who}
use Rattle.apex_types.specs.declared.operation.{BlackboardOperation.BlackboardOperation, BufferOperation.BufferOperation, CallerOperation.CallerOperation, EventOperation.EventOperation, HealthOperation.HealthOperation, MutexOperation.MutexOperation, NewObject.NewObject, ProcessOperation.ProcessOperation, QueuingOperation.QueuingOperation, SamplingOperation.SamplingOperation, SemaphoreOperation.SemaphoreOperation}
use Rattle.apex_types.specs.declared.operation.ObjectOperation.TheVariants as on
use Rattle.apex_types.specs.declared.request.Request.TheVariants as request
use Rattle.apex_types.specs.declared.service.Service.TheVariants as service
use Rattle.apex_machine.specs.declared.condition.Condition.TheVariants as condition
use Rattle.apex_machine.specs.declared.state.ErrorPolicy.TheVariants as policy
use Rattle.apex_machine.specs.declared.state.Mode.TheVariants as mode
use Rattle.apex_machine.specs.declared.state.StartCondition.TheVariants as start_condition
use Rattle.apex_machine.specs.Answer.{Answer, Number, answering, done, done_with, giving, never, waiting, waking}
use Rattle.apex_machine.specs.Choice.{choice}
use Rattle.apex_machine.specs.Configuration.{Configuration}
use Rattle.apex_machine.specs.Ports.{arrived, departed}
use Rattle.apex_machine.specs.Services.{answer_of, in_profile}
use Rattle.apex_machine.specs.Statuses.{reporting}
use Rattle.apex_machine.specs.State.{Mutex, Queued, State, item_at}
use Rattle.apex_machine.specs.declared.state.Process.{Process}
use Rattle.apex_machine.specs.Deadlines.{is_missed}
use Rattle.apex_machine.specs.DueTimes.{falls_due}
use Rattle.apex_machine.specs.Step.{IsLawful}
use Rattle.apex_laws.specs.Worked.{Happening, aperiodic, at, claims, conditions_met, creates, does, gets, gets_through, idle_ticks, limits_on, normal, one_partition, outcome, outcome_due_to, placed, play, played, priority_in, process_of, queuing_by, returns, runs, start, ticks, two_partitions, waits, wakes}

-- process 1, with priority 10
abbrev pub one : Who
one = process_of 0 1

-- process 2, with priority 20
abbrev pub two : Who
two = process_of 0 2

-- process 3, with priority 5
abbrev pub three : Who
three = process_of 0 3

-- the receiver in the other partition
abbrev pub there : Who
there = process_of 1 1

-- set-ups

-- processes 1 (10), 2 (20) and 3 (5), after some creations
abbrev pub three_processes : List Happening → State
three_processes creations = played one_partition (aperiodic 0 (codes "A") (pos 1) (pos 10) ∷ aperiodic 0 (codes "B") (pos 2) (pos 20) ∷ aperiodic 0 (codes "C") (pos 3) (pos 5) ∷ creations
    ++ start 0 (pos 1) ∷ start 0 (pos 2) ∷ start 0 (pos 3) ∷ normal 0 ∷ [])

-- a semaphore of this value, maximum and discipline
abbrev pub semaphore : ℤ → ℤ → ℤ → List Happening
semaphore value maximum discipline = creates 0 (request.Create (codes "S") (NewObject.Semaphore value maximum discipline)) (pos 1) ∷ []

-- a mutex of priority 50, first in, first out
abbrev pub mutex : List Happening
mutex = creates 0 (request.Create (codes "M") (NewObject.Mutex (pos 50) (pos 0))) (pos 1) ∷ []

-- the mutex of the partition
abbrev pub the_mutex : State → Option Mutex
the_mutex state = item_at (state.partitions 0).mutexes 1

-- the owner of a mutex
abbrev pub owner_in : Option Mutex → Option ℕ
owner_in None = None
owner_in (Some found) = found.owner

-- a semaphore's value
abbrev pub value_now : State → Option ℕ
value_now state = option_map (λ found. found.value) (item_at (state.partitions 0).semaphores 1)

-- processes 1 and 2 wait for the semaphore, in this order
abbrev pub both_wait : ℤ → State
both_wait discipline = play one_partition (three_processes (semaphore (pos 0) (pos 1) discipline))
    (waits one 10 (request.Object (pos 1) (on.Semaphore (SemaphoreOperation.Wait (negsuc 0)))) ∷ waits two 20 (request.Object (pos 1) (on.Semaphore (SemaphoreOperation.Wait (negsuc 0)))) ∷ [])

-- process 1 waits for the semaphore with a time-out of 2, and two ticks pass
abbrev pub timed_out : State
timed_out = play one_partition (three_processes (semaphore (pos 0) (pos 1) (pos 0)))
    (waits one 10 (request.Object (pos 1) (on.Semaphore (SemaphoreOperation.Wait (pos 2)))) ∷ ticks 0 [] ∷ ticks 0 (one ∷ []) ∷ [])

-- process 1 waits for the semaphore, and process 3 suspends it
abbrev pub suspended_waiter : State
suspended_waiter = play one_partition (both_wait (pos 0)) (does three (request.Process (pos 1) ProcessOperation.Suspend) ∷ [])

-- process 2 waits a tick, process 3 owns the mutex then
abbrev pub owned : State
owned = play one_partition (three_processes mutex) (waits two 20 (request.Caller (CallerOperation.TimedWait (pos 1))) ∷ does three (request.Object (pos 1) (on.Mutex (MutexOperation.Acquire (pos 0)))) ∷ ticks 0 (two ∷ []) ∷ [])

-- process 2 waits for the mutex that process 3 owns
abbrev pub mutex_wanted : State
mutex_wanted = play one_partition (three_processes mutex) (does three (request.Object (pos 1) (on.Mutex (MutexOperation.Acquire (pos 0)))) ∷ waits two 20 (request.Object (pos 1) (on.Mutex (MutexOperation.Acquire (negsuc 0)))) ∷ [])

-- process 1 sent one message to a buffer of capacity 1, and waits to send another
abbrev pub full_buffer : State
full_buffer = play one_partition (three_processes (creates 0 (request.Create (codes "Q") (NewObject.Buffer (pos 4) (pos 1) (pos 0))) (pos 1) ∷ []))
    (does one (request.Object (pos 1) (on.Buffer (BufferOperation.Send (pos 1) (pos 0) (170 ∷ [])))) ∷ waits one 10 (request.Object (pos 1) (on.Buffer (BufferOperation.Send (pos 1) (negsuc 0) (187 ∷ [])))) ∷ [])

-- processes 1 and 2 wait for a message on a blackboard
abbrev pub both_read : State
both_read = play one_partition (three_processes (creates 0 (request.Create (codes "N") (NewObject.Blackboard (pos 4))) (pos 1) ∷ []))
    (waits one 10 (request.Object (pos 1) (on.Blackboard (BlackboardOperation.Read (negsuc 0)))) ∷ waits two 20 (request.Object (pos 1) (on.Blackboard (BlackboardOperation.Read (negsuc 0)))) ∷ [])

-- process 1 waits for an event
abbrev pub awaits_event : State
awaits_event = play one_partition (three_processes (creates 0 (request.Create (codes "E") NewObject.Event) (pos 1) ∷ [])) (waits one 10 (request.Object (pos 1) (on.Event (EventOperation.Wait (negsuc 0)))) ∷ [])

-- process 1, of period 20, is started
abbrev pub periodic : State
periodic = played one_partition (creates 0 (request.CreateProcess (codes "P") (pos 10) (pos 20) (negsuc 0)) (pos 1) ∷ start 0 (pos 1) ∷ normal 0 ∷ [])

-- and then its first release, at time 10
abbrev pub first_released : State
first_released = play one_partition periodic (idle_ticks 0 9 ++ ticks 0 (one ∷ []) ∷ [])

-- both partitions have a process and a port of each kind
abbrev pub connected : State
connected = played two_partitions (aperiodic 0 (codes "P") (pos 1) (pos 10)
    ∷ creates 0 (request.Create (codes "Q") (NewObject.QueuingPort (pos 4) (pos 1) (pos 0) (pos 0))) (pos 1)
    ∷ creates 0 (request.Create (codes "S") (NewObject.SamplingPort (pos 4) (pos 0) (pos 5))) (pos 1)
    ∷ start 0 (pos 1) ∷ normal 0
    ∷ aperiodic 1 (codes "P") (pos 1) (pos 10)
    ∷ creates 1 (request.Create (codes "Q") (NewObject.QueuingPort (pos 4) (pos 1) (pos 1) (pos 0))) (pos 1)
    ∷ creates 1 (request.Create (codes "S") (NewObject.SamplingPort (pos 4) (pos 1) (pos 5))) (pos 1)
    ∷ start 1 (pos 1) ∷ normal 1 ∷ [])

-- the receiver waits for a message, with a time-out of 3
abbrev pub receiving : State
receiving = play two_partitions connected (claims 1 there 10 (request.QueuingPort (pos 1) (QueuingOperation.Receive (pos 3))) out.Waits None [] (Some 0) [] ∷ [])

-- the send of a message
abbrev pub sends : List Who → Happening
sends woken = claims 0 one 10 (request.QueuingPort (pos 1) (QueuingOperation.Send (pos 2) (pos 0) (202 ∷ 254 ∷ []))) (out.Answer code.NoError) None [] (Some 0) woken

-- the channel is full, and another sender waits
abbrev pub sender_waits : State
sender_waits = play two_partitions connected (sends [] ∷ claims 0 one 10 (request.QueuingPort (pos 1) (QueuingOperation.Send (pos 1) (negsuc 0) (17 ∷ []))) out.Waits None [] (Some 0) [] ∷ [])

-- a sampling message is written
abbrev pub sampled_once : State
sampled_once = play two_partitions connected (claims 0 one 10 (request.SamplingPort (pos 1) (SamplingOperation.Write (pos 1) (17 ∷ []))) (out.Answer code.NoError) None [] (Some 1) [] ∷ [])

-- process 1, of this period, is started with a delay of 3, and the partition enters NORMAL at time 0
abbrev pub delayed : ℤ → State
delayed period = played one_partition (creates 0 (request.CreateProcess (codes "P") (pos 10) period (negsuc 0)) (pos 1)
    ∷ does (process_of 0 0) (request.Process (pos 1) (ProcessOperation.DelayedStart (pos 3))) ∷ normal 0 ∷ [])

-- process 1, of this period and this time capacity, is started with a delay of 3, and the partition enters NORMAL at time 0
abbrev pub timed : ℤ → ℤ → State
timed period time_capacity = played one_partition (creates 0 (request.CreateProcess (codes "P") (pos 10) period time_capacity) (pos 1)
    ∷ does (process_of 0 0) (request.Process (pos 1) (ProcessOperation.DelayedStart (pos 3))) ∷ normal 0 ∷ [])

-- the deadline of a process, if there is one
abbrev pub deadline_of : Option Process → Option ℕ
deadline_of None = None
deadline_of (Some process) = process.deadline

-- the report of the missed deadline of process 1
abbrev pub reports_deadline : Happening
reports_deadline = record { core = 0; body = Error (record { who = one; error = error.DeadlineMissed; restarts = false }) }

-- the error handler of the partition, which is process 0 in NORMAL
abbrev pub handler : Who
handler = process_of 0 0

-- processes 1 (10), 2 (20) and 3 (5) in a partition that has an error handler
abbrev pub with_handler : State
with_handler = three_processes (does handler (request.Health HealthOperation.CreateHandler) ∷ [])

-- process 2 raises an error with a message of one byte
abbrev pub raises : Happening
raises = does two (request.Health (HealthOperation.RaiseError (pos 1) (pos 1) (7 ∷ [])))

-- the report of a numeric error of process 1
abbrev pub reports_numeric : Bool → Happening
reports_numeric restarts = record { core = 0; body = Error (record { who = one; error = error.NumericError; restarts = restarts }) }

-- process 2 has raised an error, and a numeric error of process 1 has been reported
abbrev pub two_errors : State
two_errors = play one_partition with_handler (raises ∷ reports_numeric false ∷ [])

-- the handler takes the oldest error, and the handler ends
abbrev pub takes_oldest : Happening
takes_oldest = does handler (request.Health HealthOperation.GetErrorStatus)

abbrev pub handler_ends : Happening
handler_ends = claims 0 handler 0 (request.Caller CallerOperation.StopSelf) out.Never None [] None []

-- the handler ends with one error left, and with none
abbrev pub one_left : State
one_left = play one_partition two_errors (takes_oldest ∷ handler_ends ∷ [])

abbrev pub none_left : State
none_left = play one_partition one_left (takes_oldest ∷ handler_ends ∷ [])

-- whether a process is faulted, and whether it is alive, if it exists
abbrev pub faulted_now : Option Process → Option Bool
faulted_now found = option_map (λ process. process.faulted) found

abbrev pub alive_now : Option Process → Option Bool
alive_now found = option_map (λ process. process.alive) found

-- a module whose partition an error restarts in COLD_START, if no handler takes it
abbrev pub restarting : Configuration
restarting = record one_partition { partitions = record (limits_on 0 0) { on_error = policy.ColdStart } ∷ [] }

-- the channel's messages come from outside, or leave to the outside
abbrev pub from_outside : Configuration
from_outside = record two_partitions { queuing = record (queuing_by discipline.Fifo) { source = None } ∷ [] }

abbrev pub to_outside : Configuration
to_outside = record two_partitions { queuing = record (queuing_by discipline.Fifo) { destination = None } ∷ [] }

-- a message that passes the end outside
abbrev pub passes : List ℕ → List Who → Crossing
passes message woken = record { chan = 0; message = message; woken = woken }

-- a reading of the sampling channel
abbrev pub reading : State → Answer
reading state = gets_through two_partitions state there (request.SamplingPort (pos 1) SamplingOperation.Read) 1

-- the facts

-- each of them is computed
pub record WorkedFacts : Type 0 where
  -- a signal at the maximum is answered with NO_ACTION
  pub at_the_maximum : gets (three_processes (semaphore (pos 1) (pos 1) (pos 0))) one (request.Object (pos 1) (on.Semaphore SemaphoreOperation.Signal)) ≡ answering code.NoAction
  -- a semaphore by priority wakes the process of higher priority; a semaphore that is first in, first out wakes the one that has waited
  -- longer
  pub by_priority : gets (both_wait (pos 1)) three (request.Object (pos 1) (on.Semaphore SemaphoreOperation.Signal)) ≡ waking (two ∷ [])
  pub first_in : gets (both_wait (pos 0)) three (request.Object (pos 1) (on.Semaphore SemaphoreOperation.Signal)) ≡ waking (one ∷ [])
  -- a signal that wakes leaves the value, and NO_ERROR is due to the waiter, which runs
  pub wakes_without_adding : value_now (play one_partition (both_wait (pos 1)) (wakes three (request.Object (pos 1) (on.Semaphore SemaphoreOperation.Signal)) (two ∷ []) ∷ [])) ≡ Some 0
  pub waiter_runs : choice one_partition (play one_partition (both_wait (pos 1)) (wakes three (request.Object (pos 1) (on.Semaphore SemaphoreOperation.Signal)) (two ∷ []) ∷ [])) 0 ≡ Some two
  pub waiter_returns : outcome_due_to (play one_partition (both_wait (pos 1)) (wakes three (request.Object (pos 1) (on.Semaphore SemaphoreOperation.Signal)) (two ∷ []) ∷ [])) two ≡ outcome service.WaitSemaphore code.NoError []
  -- a waiter that timed out has left the set: TIMED_OUT is due to it, and a signal raises the value by one
  pub falls_due_then : falls_due 0 2 (at (play one_partition (three_processes (semaphore (pos 0) (pos 1) (pos 0))) (waits one 10 (request.Object (pos 1) (on.Semaphore (SemaphoreOperation.Wait (pos 2)))) ∷ [])) one) ≡ true
  pub returns_timed_out : outcome_due_to timed_out one ≡ outcome service.WaitSemaphore code.TimedOut []
  pub set_is_left : gets timed_out three (request.Object (pos 1) (on.Semaphore SemaphoreOperation.Signal)) ≡ done
  -- a suspended waiter that is woken stays suspended, and runs once it is resumed; the resumption wakes no process
  pub stays_suspended : choice one_partition (play one_partition suspended_waiter (wakes three (request.Object (pos 1) (on.Semaphore SemaphoreOperation.Signal)) (one ∷ []) ∷ [])) 0 ≡ Some three
  pub resumption_wakes_nobody : gets suspended_waiter three (request.Process (pos 1) ProcessOperation.Resume) ≡ done
  pub runs_when_resumed : choice one_partition (play one_partition suspended_waiter (wakes three (request.Object (pos 1) (on.Semaphore SemaphoreOperation.Signal)) (one ∷ []) ∷ does three (request.Process (pos 1) ProcessOperation.Resume) ∷ [])) 0 ≡ Some one
  -- a process that suspended itself is woken by RESUME, or times out
  pub resumed : gets (play one_partition (three_processes []) (waits one 10 (request.Caller (CallerOperation.SuspendSelf (pos 5))) ∷ [])) three (request.Process (pos 1) ProcessOperation.Resume) ≡ waking (one ∷ [])
  pub not_resumed : outcome_due_to (play one_partition (three_processes []) (waits one 10 (request.Caller (CallerOperation.SuspendSelf (pos 1))) ∷ ticks 0 (one ∷ []) ∷ [])) one ≡ outcome service.SuspendSelf code.TimedOut []
  -- a process that is stopped while it waits leaves its set
  pub stopped_waiter : gets (play one_partition (both_wait (pos 0)) (does three (request.Process (pos 1) ProcessOperation.Stop) ∷ [])) three (request.Object (pos 1) (on.Semaphore SemaphoreOperation.Signal)) ≡ waking (two ∷ [])
  -- the owner of a mutex runs with its priority, before a process of higher priority; at the last release it gives way to that process, and
  -- its own priority is restored
  pub owner_runs : choice one_partition owned 0 ≡ Some three
  pub gives_way : choice one_partition (play one_partition owned (does three (request.Object (pos 1) (on.Mutex MutexOperation.Release)) ∷ [])) 0 ≡ Some two
  pub is_restored : priority_in (at (play one_partition owned (does three (request.Object (pos 1) (on.Mutex MutexOperation.Release)) ∷ [])) three) ≡ 5
  -- a mutex is handed on: the waiter owns it and has its priority, and the releaser has its own priority again
  pub hands_on : gets mutex_wanted three (request.Object (pos 1) (on.Mutex MutexOperation.Release)) ≡ waking (two ∷ [])
  pub new_owner : owner_in (the_mutex (play one_partition mutex_wanted (wakes three (request.Object (pos 1) (on.Mutex MutexOperation.Release)) (two ∷ []) ∷ []))) ≡ Some 2
  pub is_granted : priority_in (at (play one_partition mutex_wanted (wakes three (request.Object (pos 1) (on.Mutex MutexOperation.Release)) (two ∷ []) ∷ [])) two) ≡ 50
  pub has_its_own : priority_in (at (play one_partition mutex_wanted (wakes three (request.Object (pos 1) (on.Mutex MutexOperation.Release)) (two ∷ []) ∷ [])) three) ≡ 5
  -- two error conditions at once: an owner that acquires another mutex with a time-out below -1
  pub two_conditions : conditions_met one_partition owned three (request.Object (pos 2) (on.Mutex (MutexOperation.Acquire (negsuc 4)))) ≡ condition.NotCreated ∷ condition.TimeOutOutOfRange ∷ condition.OwnsAnother ∷ []
  -- a mutex's owner that stops itself is outside the profile
  pub owner_stops : in_profile three (owned.partitions 0) (request.Caller CallerOperation.StopSelf) ≡ false
  -- a full buffer: a receiver gets the oldest message, the sender wakes, and its message is the next
  pub oldest_first : gets full_buffer two (request.Object (pos 1) (on.Buffer (BufferOperation.Receive (pos 0)))) ≡ giving (170 ∷ []) (one ∷ [])
  pub sender_moves_up : gets (play one_partition full_buffer (wakes two (request.Object (pos 1) (on.Buffer (BufferOperation.Receive (pos 0)))) (one ∷ []) ∷ [])) one (request.Object (pos 1) (on.Buffer (BufferOperation.Receive (pos 0)))) ≡ giving (187 ∷ []) []
  -- a display wakes all readers, and each gets the message
  pub display_wakes_all : gets both_read three (request.Object (pos 1) (on.Blackboard (BlackboardOperation.Display (pos 2) (1 ∷ 2 ∷ [])))) ≡ waking (one ∷ two ∷ [])
  pub reader_gets_it : outcome_due_to (play one_partition both_read (wakes three (request.Object (pos 1) (on.Blackboard (BlackboardOperation.Display (pos 2) (1 ∷ 2 ∷ [])))) (one ∷ two ∷ []) ∷ [])) two ≡ outcome service.ReadBlackboard code.NoError (1 ∷ 2 ∷ [])
  -- an event that is set lets its waiters go on, and later callers too; once it is reset, they wait
  pub event_lets_go : gets awaits_event three (request.Object (pos 1) (on.Event EventOperation.Set)) ≡ waking (one ∷ [])
  pub event_is_up : gets (play one_partition awaits_event (wakes three (request.Object (pos 1) (on.Event EventOperation.Set)) (one ∷ []) ∷ [])) two (request.Object (pos 1) (on.Event (EventOperation.Wait (negsuc 0)))) ≡ done
  pub event_is_down : gets (play one_partition awaits_event (wakes three (request.Object (pos 1) (on.Event EventOperation.Set)) (one ∷ []) ∷ does three (request.Object (pos 1) (on.Event EventOperation.Reset)) ∷ [])) two (request.Object (pos 1) (on.Event (EventOperation.Wait (negsuc 0)))) ≡ waiting
  -- a periodic process is released at 10, the least multiple of the partition's period above 0, and next at 30
  pub not_yet_released : falls_due 0 9 (at periodic one) ≡ false
  pub is_released : falls_due 0 10 (at periodic one) ≡ true
  pub waits_for_the_next : falls_due 0 29 (at (play one_partition first_released (waits one 10 (request.Caller CallerOperation.PeriodicWait) ∷ [])) one) ≡ false
  pub next_at_thirty : falls_due 0 30 (at (play one_partition first_released (waits one 10 (request.Caller CallerOperation.PeriodicWait) ∷ [])) one) ≡ true
  -- SET_PRIORITY puts a ready process behind the others of its priority
  pub renewed : choice one_partition (play one_partition (three_processes []) (does three (request.Process (pos 1) (ProcessOperation.SetPriority (pos 20))) ∷ does three (request.Process (pos 2) (ProcessOperation.SetPriority (pos 20))) ∷ [])) 0 ≡ Some one
  -- a send wakes the receiver in the other partition, which gets the message
  pub send_wakes : gets_through two_partitions receiving one (request.QueuingPort (pos 1) (QueuingOperation.Send (pos 2) (pos 0) (202 ∷ 254 ∷ []))) 0 ≡ waking (there ∷ [])
  pub message_arrives : outcome_due_to (play two_partitions receiving (sends (there ∷ []) ∷ [])) there ≡ outcome service.ReceiveQueuingMessage code.NoError (202 ∷ 254 ∷ [])
  -- a receiver that timed out has left the channel's set: the send wakes no process, and the message stays
  pub receiver_left : gets_through two_partitions (play two_partitions receiving (ticks 1 [] ∷ ticks 1 [] ∷ ticks 1 (there ∷ []) ∷ [])) one (request.QueuingPort (pos 1) (QueuingOperation.Send (pos 2) (pos 0) (202 ∷ 254 ∷ []))) 0 ≡ done
  pub message_stays : ((play two_partitions receiving (ticks 1 [] ∷ ticks 1 [] ∷ ticks 1 (there ∷ []) ∷ sends [] ∷ [])).channels 0).content ≡ Queued ((202 ∷ 254 ∷ []) ∷ [])
  -- a receive from a full channel wakes the sender that waits, whose message moves in
  pub takes_from_full : gets_through two_partitions sender_waits there (request.QueuingPort (pos 1) (QueuingOperation.Receive (pos 0))) 0 ≡ giving (202 ∷ 254 ∷ []) (one ∷ [])
  pub senders_message : ((play two_partitions sender_waits (claims 1 there 10 (request.QueuingPort (pos 1) (QueuingOperation.Receive (pos 0))) (out.Answer code.NoError) None (202 ∷ 254 ∷ []) (Some 0) (one ∷ []) ∷ [])).channels 0).content
      ≡ Queued ((17 ∷ []) ∷ [])
  -- DELAYED_START: an aperiodic process runs when its delay is over; a periodic one is released as much later, at 13 and then at 33
  pub is_delayed : falls_due 0 2 (at (delayed (negsuc 0)) one) ≡ false
  pub delay_is_over : falls_due 0 3 (at (delayed (negsuc 0)) one) ≡ true
  pub release_is_delayed : falls_due 0 12 (at (delayed (pos 20)) one) ≡ false
  pub delayed_release : falls_due 0 13 (at (delayed (pos 20)) one) ≡ true
  -- DELAYED_START sets the deadline to the end of the time capacity, which counts from the end of the delay, or from the first release; it is
  -- missed once the core has reached it; its report and STOP_SELF take it away
  pub sets_deadline : deadline_of (at (timed (negsuc 0) (pos 5)) one) ≡ Some 8
  pub sets_no_deadline : deadline_of (at (timed (negsuc 0) (negsuc 0)) one) ≡ None
  pub deadline_of_release : deadline_of (at (timed (pos 20) (pos 5)) one) ≡ Some 18
  pub deadline_is_ahead : is_missed 0 7 (at (timed (negsuc 0) (pos 5)) one) ≡ false
  pub deadline_is_missed : is_missed 0 8 (at (timed (negsuc 0) (pos 5)) one) ≡ true
  -- errors: the handler is called, and its partition's processes go on when it has taken their errors, the oldest first
  pub handler_is_called : choice one_partition (play one_partition with_handler (raises ∷ [])) 0 ≡ Some handler
  pub who_fails_is_faulted : faulted_now (at (play one_partition with_handler (raises ∷ [])) two) ≡ Some true
  pub others_are_sound : faulted_now (at (play one_partition with_handler (raises ∷ [])) one) ≡ Some false
  pub oldest_is_taken : gets two_errors handler (request.Health HealthOperation.GetErrorStatus)
      ≡ record { out = out.Answer code.NoError; val = Number (pos 1); val2 = Some (pos 2); val3 = None; bytes = 7 ∷ []; woken = [] }
  pub second_is_listed : gets one_left handler (request.Health HealthOperation.GetErrorStatus)
      ≡ record { out = out.Answer code.NoError; val = Number (pos 2); val2 = Some (pos 1); val3 = None; bytes = []; woken = [] }
  pub handler_stays : choice one_partition one_left 0 ≡ Some handler
  pub taken_is_healed : faulted_now (at one_left two) ≡ Some false
  pub left_is_faulted : faulted_now (at one_left one) ≡ Some true
  pub handler_is_over : alive_now (at none_left handler) ≡ Some false
  pub both_are_healed : faulted_now (at none_left one) ≡ Some false
  pub first_goes_on : choice one_partition none_left 0 ≡ Some two
  pub no_handler_no_fault : faulted_now (at (play one_partition (three_processes []) (raises ∷ [])) two) ≡ Some false
  pub error_restarts : answer_of restarting (played restarting []).cores 0 two ((three_processes []).partitions 0) (request.Health (HealthOperation.RaiseError (pos 1) (pos 1) (7 ∷ []))) ≡ never
  pub restarted_mode : ((play restarting (three_processes []) (reports_numeric true ∷ [])).partitions 0).mode ≡ mode.ColdStart
  pub restarted_start : ((play restarting (three_processes []) (reports_numeric true ∷ [])).partitions 0).start ≡ start_condition.ErrorRestart
  pub restarted_processes : at (play restarting (three_processes []) (reports_numeric true ∷ [])) one ≡ None
  pub deadline_is_reported : deadline_of (at (play one_partition (timed (negsuc 0) (pos 5)) (reports_deadline ∷ [])) one) ≡ None
  pub deadline_is_stopped : deadline_of (at (play one_partition (timed (negsuc 0) (pos 5)) (claims 0 one 10 (request.Caller CallerOperation.StopSelf) out.Never None [] None [] ∷ [])) one) ≡ None
  -- PERIODIC_WAIT sets the deadline of the next release, REPLENISH that of a budget
  pub deadline_of_next : deadline_of (at (play one_partition (timed (pos 20) (pos 5)) (idle_ticks 0 12 ++ ticks 0 (one ∷ []) ∷ waits one 10 (request.Caller CallerOperation.PeriodicWait) ∷ [])) one) ≡ Some 38
  pub replenishes : deadline_of (at (play one_partition (timed (negsuc 0) (pos 5)) (does one (request.Caller (CallerOperation.Replenish (pos 9))) ∷ [])) one) ≡ Some 9
  pub replenishes_for_ever : deadline_of (at (play one_partition (timed (negsuc 0) (pos 5)) (does one (request.Caller (CallerOperation.Replenish (negsuc 0))) ∷ [])) one) ≡ None
  -- RESET_MUTEX by a process that does not own the mutex hands it on, and the owner has its own priority again
  pub reset_hands_on : gets mutex_wanted one (request.Object (pos 1) (on.Mutex (MutexOperation.Reset (pos 3)))) ≡ waking (two ∷ [])
  pub reset_restores : priority_in (at (play one_partition mutex_wanted (wakes one (request.Object (pos 1) (on.Mutex (MutexOperation.Reset (pos 3)))) (two ∷ []) ∷ [])) three) ≡ 5
  -- statuses: a ready process that is not the occupant, a process that waits, the owner of a mutex, and a partition in NORMAL
  pub ready_status : gets (three_processes []) one (request.Process (pos 2) ProcessOperation.GetStatus) ≡ reporting (pos 1) (Some (pos 20)) (Some (negsuc 0))
  pub waiting_status : gets mutex_wanted one (request.Process (pos 2) ProcessOperation.GetStatus) ≡ reporting (pos 3) (Some (pos 20)) (Some (negsuc 0))
  pub owner_status : gets mutex_wanted one (request.Process (pos 3) ProcessOperation.GetMutexState) ≡ done_with (Number (pos 1))
  pub no_owner_status : gets mutex_wanted one (request.Process (pos 2) ProcessOperation.GetMutexState) ≡ done_with (Number (negsuc 1))
  pub normal_status : gets mutex_wanted one (request.Caller CallerOperation.GetPartitionStatus) ≡ reporting (pos 3) (Some (pos 0)) (Some (pos 0))
  pub found_by_name : gets mutex_wanted one (request.GetId named.Process (codes "B")) ≡ done_with (Number (pos 2))
  -- a channel that is cleared lets its sender in
  pub clear_wakes : gets_through two_partitions sender_waits there (request.QueuingPort (pos 1) QueuingOperation.Clear) 0 ≡ waking (one ∷ [])
  pub cleared_content : ((play two_partitions sender_waits (claims 1 there 10 (request.QueuingPort (pos 1) QueuingOperation.Clear) (out.Answer code.NoError) None [] (Some 0) (one ∷ []) ∷ [])).channels 0).content
      ≡ Queued ((17 ∷ []) ∷ [])
  -- an arrival wakes the receiver with its message; a departure takes the oldest message and lets the sender in
  pub arrival_wakes : (arrived from_outside 0 0 (202 ∷ []) (receiving.channels 0)).answer.woken ≡ there ∷ []
  pub arrival_is_received : outcome_due_to (play from_outside receiving (record { core = 0; body = Arrive (passes (202 ∷ []) (there ∷ [])) } ∷ [])) there ≡ outcome service.ReceiveQueuingMessage code.NoError (202 ∷ [])
  pub arrival_stays : ((play from_outside connected (record { core = 1; body = Arrive (passes (202 ∷ []) []) } ∷ [])).channels 0).content ≡ Queued ((202 ∷ []) ∷ [])
  pub departure_wakes : (departed to_outside 0 0 (sender_waits.channels 0)).answer ≡ giving (202 ∷ 254 ∷ []) (one ∷ [])
  pub departed_content : ((play to_outside sender_waits (record { core = 1; body = Depart (passes (202 ∷ 254 ∷ []) (one ∷ [])) } ∷ [])).channels 0).content ≡ Queued ((17 ∷ []) ∷ [])
  -- an empty sampling channel gives NO_ACTION and validity 0; a message is valid at the age of 5 and not at 6
  pub nothing_written : reading connected ≡ record { out = out.Answer code.NoAction; val = Number (pos 0); val2 = None; val3 = None; bytes = []; woken = [] }
  pub still_valid : reading (play two_partitions sampled_once (idle_ticks 1 5)) ≡ record { out = out.Answer code.NoError; val = Number (pos 1); val2 = None; val3 = None; bytes = 17 ∷ []; woken = [] }
  pub no_longer_valid : reading (play two_partitions sampled_once (idle_ticks 1 6)) ≡ record { out = out.Answer code.NoError; val = Number (pos 0); val2 = None; val3 = None; bytes = 17 ∷ []; woken = [] }

-- lawful calls: records that have steps

-- process 3 runs, and process 2 waits for its mutex
abbrev pub owner_at_work : State
owner_at_work = play one_partition mutex_wanted (returns three service.AcquireMutex code.NoError [] ∷ runs three ∷ [])

-- the last release, at which the mutex is handed on
abbrev pub last_release : Happening
last_release = claims 0 three 50 (request.Object (pos 1) (on.Mutex MutexOperation.Release)) (out.Answer code.NoError) None [] None (two ∷ [])

-- the sender runs, and the receiver waits
abbrev pub sender_at_work : State
sender_at_work = play two_partitions receiving (runs one ∷ [])

-- the sender runs, and the channel is full
abbrev pub sender_at_full : State
sender_at_full = play two_partitions connected (sends [] ∷ returns one service.SendQueuingMessage code.NoError [] ∷ runs one ∷ [])

-- a send that waits
abbrev pub send_that_waits : Happening
send_that_waits = claims 0 one 10 (request.QueuingPort (pos 1) (QueuingOperation.Send (pos 1) (negsuc 0) (17 ∷ []))) out.Waits None [] (Some 0) []

-- both partitions are dispatched, and a message was sampled
abbrev pub reader_at_work : State
reader_at_work = play two_partitions sampled_once (runs there ∷ [])

-- the reading of it
abbrev pub reading_of_it : Happening
reading_of_it = claims 1 there 10 (request.SamplingPort (pos 1) SamplingOperation.Read) (out.Answer code.NoError) (Some (pos 1)) (17 ∷ []) (Some 1) []

-- these calls are lawful
pub record LawfulFacts : Type 0 where
  pub hands_on : IsLawful one_partition owner_at_work (placed owner_at_work last_release)
  pub sends : IsLawful two_partitions sender_at_work (placed sender_at_work (sends (there ∷ [])))
  pub waits : IsLawful two_partitions sender_at_full (placed sender_at_full send_that_waits)
  pub reads : IsLawful two_partitions reader_at_work (placed reader_at_work reading_of_it)
