-- What each rule of an object or a channel computes is exactly what its sentences say.
use Rattle.std.specs.Prelude.{◌≡◌, ◌↔◌, ℕ, ℤ, List, [], ◌∷◌, Option, Some, None, Bool, IsTrue}
use Rattle.apex_machine.specs.declared.state.CoreState.{CoreState}
use Rattle.apex_types.specs.declared.discipline.Discipline.{Discipline}
use Rattle.apex_types.specs.declared.record.Who.{Who}
use Rattle.apex_types.specs.declared.request.Request.{Request}
use Rattle.apex_machine.specs.declared.state.Entry.{Entry}
use Rattle.apex_machine.specs.declared.state.WaitingSet.{WaitingSet}
use Rattle.apex_machine.specs.After.{objects_by}
use Rattle.apex_machine.specs.Answer.{Effect}
use Rattle.apex_machine.specs.Configuration.{Configuration}
use Rattle.apex_machine.specs.Objects.{acquired, board_read, cleared, displayed, event_reset, event_set, event_waited, handed_on, mutex_released, semaphore_waited, signalled}
use Rattle.apex_machine.specs.Ports.{Use, arrived, departed, sampled, suits, used, written}
use Rattle.apex_machine.specs.Queue.{Messages, emptied, received, sent}
use Rattle.apex_machine.specs.Locks.{freed_by_stop, lock_stopped, locked, unlocked}
use Rattle.apex_machine.specs.State.{Channel, Content, Lock, Mutex, Partition, Queued, Stamped}
use Rattle.apex_machine.specs.Step.{IsTaken}
use Rattle.apex_machine.specs.Waiting.{IsFirst, first_waiter, first_waiters}
use Rattle.apex_machine.specs.ServiceConditions.{conditions_of}
use Rattle.apex_machine.specs.Services.{answer_of}
use Rattle.apex_laws.specs.CallSentences.{IsObjectCall}
use Rattle.apex_laws.specs.Laws.{AllEntries, IsInOrder, entries_at}
use Rattle.apex_laws.specs.ObjectSentences.{AreFirst, IsAcquiring, IsArriving, IsClearing, IsDeparting, IsDisplay, IsEmptying, IsEventWait, IsLocking, IsMutexReset, IsReading, IsReceiving, IsReleasing, IsResetting, IsSampling, IsSemaphoreWait, IsSending, IsSetting, IsSignal, IsStoppedOwner, IsUnlocking, IsUse, IsWriting}

-- each entry of a waiting set has a place of its own
abbrev pub AreApart : List Entry → Type 0
AreApart [] = Unit {0}
AreApart (entry ∷ entries) = AllEntries (λ other. ¬ (entry.place ≡ other.place)) entries × AreApart entries

-- the entries of a waiting set that is in order are apart; so the sentences on the first of a set hold in every state of a run
abbrev pub OrderIsApart : Type 0
OrderIsApart = (count : ℕ) (entries : List Entry) → IsInOrder count entries → AreApart entries

-- the first of a waiting set is the entry that no other precedes, and there is none only in an empty set; the first ones, up to a number, are
-- each the first of those that are left
abbrev pub FirstIsTheSentence : Type 0
FirstIsTheSentence =
    (discipline : Discipline) (entries : List Entry) → AreApart entries
    → ((entry : Entry) → (first_waiter discipline entries ≡ Some entry) ↔ IsFirst discipline entries entry)
    × ((first_waiter discipline entries ≡ None) ↔ (entries ≡ []))
    × ((count : ℕ) (first : List Entry) → (first ≡ first_waiters discipline count entries) ↔ AreFirst discipline count entries first)

-- buffers and queuing channels
abbrev pub QueueIsTheSentence : Type 0
QueueIsTheSentence =
    ((capacity : ℕ) (message : List ℕ) (time_out : ℤ) (discipline : Discipline) (receivers : List Entry) (messages : Messages) (effect : Effect Messages) → AreApart receivers
    → (effect ≡ sent capacity message time_out (first_waiter discipline receivers) messages) ↔ IsSending capacity message time_out discipline receivers messages effect)
    × ((time_out : ℤ) (discipline : Discipline) (senders : List Entry) (messages : Messages) (effect : Effect Messages) → AreApart senders
    → (effect ≡ received time_out (first_waiter discipline senders) messages) ↔ IsReceiving time_out discipline senders messages effect)
    × ((capacity : ℕ) (discipline : Discipline) (senders : List Entry) (effect : Effect Messages) → AreApart senders
    → (effect ≡ emptied (first_waiters discipline capacity senders)) ↔ IsEmptying capacity discipline senders effect)

-- blackboards
abbrev pub BlackboardIsTheSentence : Type 0
BlackboardIsTheSentence =
    ((message : List ℕ) (readers : List Entry) (effect : Effect (Option (List ℕ))) → (effect ≡ displayed message readers) ↔ IsDisplay message readers effect)
    × ((time_out : ℤ) (message : Option (List ℕ)) (effect : Effect (Option (List ℕ))) → (effect ≡ board_read time_out message) ↔ IsReading time_out message effect)
    × ((effect : Effect (Option (List ℕ))) → (effect ≡ cleared) ↔ IsClearing effect)

-- semaphores
abbrev pub SemaphoreIsTheSentence : Type 0
SemaphoreIsTheSentence =
    ((time_out : ℤ) (value : ℕ) (effect : Effect ℕ) → (effect ≡ semaphore_waited time_out value) ↔ IsSemaphoreWait time_out value effect)
    × ((maximum : ℕ) (discipline : Discipline) (waiters : List Entry) (value : ℕ) (effect : Effect ℕ) → AreApart waiters
    → (effect ≡ signalled maximum (first_waiter discipline waiters) value) ↔ IsSignal maximum discipline waiters value effect)

-- events
abbrev pub EventIsTheSentence : Type 0
EventIsTheSentence =
    ((waiters : List Entry) (effect : Effect Bool) → (effect ≡ event_set waiters) ↔ IsSetting waiters effect)
    × ((effect : Effect Bool) → (effect ≡ event_reset) ↔ IsResetting effect)
    × ((time_out : ℤ) (up : Bool) (effect : Effect Bool) → (effect ≡ event_waited time_out up) ↔ IsEventWait time_out up effect)

-- mutexes
abbrev pub MutexIsTheSentence : Type 0
MutexIsTheSentence =
    ((caller : ℕ) (time_out : ℤ) (mutex : Mutex) (effect : Effect Mutex) → (effect ≡ acquired caller time_out mutex) ↔ IsAcquiring caller time_out mutex effect)
    × ((mutex : Mutex) (effect : Effect Mutex) → AreApart mutex.waiters
    → (effect ≡ mutex_released (first_waiter mutex.discipline mutex.waiters) mutex) ↔ IsReleasing mutex effect)
    × ((mutex : Mutex) (effect : Effect Mutex) → AreApart mutex.waiters
    → (effect ≡ handed_on (first_waiter mutex.discipline mutex.waiters) mutex) ↔ IsMutexReset mutex effect)

-- the lock: its operations, and what a stop makes of it
abbrev pub LockIsTheSentence : Type 0
LockIsTheSentence =
    ((caller : ℕ) (lock : Lock) (effect : Effect Lock) → (effect ≡ locked caller lock) ↔ IsLocking caller lock effect)
    × ((lock : Lock) (effect : Effect Lock) → AreApart lock.waiters → (effect ≡ unlocked lock) ↔ IsUnlocking lock effect)
    × ((process : ℕ) (lock next : Lock) (woken : List Who) → AreApart lock.waiters
    → ((woken ≡ freed_by_stop process lock) × (next ≡ lock_stopped process lock)) ↔ IsStoppedOwner process lock woken next)

-- sampling channels
abbrev pub SamplingIsTheSentence : Type 0
SamplingIsTheSentence =
    ((now : ℕ) (message : List ℕ) (effect : Effect (Option Stamped)) → (effect ≡ written now message) ↔ IsWriting now message effect)
    × ((now refresh : ℕ) (last : Option Stamped) (effect : Effect (Option Stamped)) → (effect ≡ sampled now refresh last) ↔ IsSampling now refresh last effect)

-- any channel
abbrev pub ChannelIsTheSentence : Type 0
ChannelIsTheSentence =
    (configuration : Configuration) (now number partition : ℕ) (channel : Channel) (how : Use) (effect : Effect Content) → AreApart channel.senders → AreApart channel.receivers
    → IsTrue (suits configuration number partition how channel.content)
    → (effect ≡ used configuration now number partition how channel channel.content) ↔ IsUse configuration now number partition channel how effect

-- an arrival at a channel of either kind, and a departure from a queuing channel
abbrev pub CrossingIsTheSentence : Type 0
CrossingIsTheSentence =
    (configuration : Configuration) (now number : ℕ) (message : List ℕ) (channel : Channel) (woken : List Who) (next : Content)
    → AreApart channel.senders → AreApart channel.receivers
    → (((woken ≡ (arrived configuration now number message channel).answer.woken) × (next ≡ (arrived configuration now number message channel).next))
    ↔ IsArriving configuration now number message channel woken next)
    × ((messages : Messages) → channel.content ≡ Queued messages
    → (IsTaken (departed configuration now number channel).answer message
    × (woken ≡ (departed configuration now number channel).answer.woken) × (next ≡ (departed configuration now number channel).next))
    ↔ IsDeparting configuration number message channel woken next)

-- the services of objects use and change exactly the object that they name, and creations add exactly one, by the sentences; this holds in
-- a partition whose waiting sets have their entries apart, if no error condition holds
abbrev pub ObjectCallIsTheSentence : Type 0
ObjectCallIsTheSentence =
    (configuration : Configuration) (cores : List CoreState) (core now : ℕ) (who : Who) (claimed : Option ℤ) (asked : Request) (partition : Partition)
    → ((wanted : WaitingSet) → AreApart (entries_at partition wanted)) → conditions_of configuration now who partition asked ≡ []
    → IsObjectCall configuration who claimed asked partition (answer_of configuration cores core who partition asked) (objects_by configuration who claimed asked partition)
