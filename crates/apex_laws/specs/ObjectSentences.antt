-- What each operation on an object or a channel gives its caller and leaves, in sentences: one case for each sentence of its rule.
use Rattle.std.specs.Prelude.{◌≡◌, ◌⊎◌, ℕ, suc, ◌+◌, ◌-◌, ◌<◌, ◌≤◌, ℤ, pos, List, [], ◌∷◌, ◌++◌, length, Option, Some, None, Bool, true, false, IsFalse, IsTrue}
use Rattle.apex_types.specs.declared.code.Code.TheVariants as code
use Rattle.apex_types.specs.declared.discipline.Discipline.{Discipline}
use Rattle.apex_types.specs.declared.discipline.Discipline.TheVariants.{Priority}
use Rattle.apex_types.specs.declared.record.Out.{Out}
use Rattle.apex_types.specs.declared.record.Out.TheVariants as out
use Rattle.apex_types.specs.declared.record.Who.{Who}
use Rattle.apex_machine.specs.declared.state.Entry.{Entry}
use Rattle.apex_machine.specs.Answer.{Effect, Nothing, Number, waiters_of, effect_on}
use Rattle.apex_machine.specs.Channels.{capacity_of, is_at_destination, is_at_source, receiving_discipline, refresh_of, sending_discipline}
use Rattle.apex_machine.specs.Configuration.{Configuration}
use Rattle.apex_machine.specs.Ports.{Ask, Clear, Receive, Read, Send, Use, Write}
use Rattle.apex_machine.specs.Queue.{Messages, messages_sent}
use Rattle.apex_machine.specs.State.{Channel, Content, Lock, Mutex, Queued, Sampled, Stamped, is_same}
use Rattle.apex_machine.specs.Waiting.{IsFirst, without}

-- an outcome with its message and the processes whose waits end, and the object after it
abbrev pub gives : {Object : Type 0} → Out → List ℕ → List Who → Object → Effect Object
gives given message woken next = record { answer = record { out = given; val = Nothing; val2 = None; val3 = None; bytes = message; woken = woken }; next = next }

-- NO_ERROR, at once
abbrev pub no_error : Out
no_error = out.Answer code.NoError

-- NOT_AVAILABLE, at once
abbrev pub not_available : Out
not_available = out.Answer code.NotAvailable

-- a call that cannot have at once what it needs is unmet: with a time-out of 0 the code is NOT_AVAILABLE, with any other the caller waits;
-- nothing changes
pub data IsUnmet {Object : Type 0} (time_out : ℤ) (object : Object) (effect : Effect Object) : Type 0 where
  at_once : time_out ≡ pos 0 → effect ≡ gives not_available [] [] object → IsUnmet time_out object effect
  waits : ¬ (time_out ≡ pos 0) → effect ≡ gives out.Waits [] [] object → IsUnmet time_out object effect

-- SEND_BUFFER, SEND_QUEUING_MESSAGE: if receivers wait, the first gets the message; else, if there is room, the message becomes the newest;
-- else the call is unmet
pub data IsSending (capacity : ℕ) (message : List ℕ) (time_out : ℤ) (discipline : Discipline) (receivers : List Entry) (messages : Messages) (effect : Effect Messages) : Type 0 where
  first_gets_it : (receiver : Entry) → IsFirst discipline receivers receiver → effect ≡ gives no_error [] (receiver.who ∷ []) messages
      → IsSending capacity message time_out discipline receivers messages effect
  room : receivers ≡ [] → length messages < capacity → effect ≡ gives no_error [] [] (messages ++ message ∷ [])
      → IsSending capacity message time_out discipline receivers messages effect
  no_room : receivers ≡ [] → capacity ≤ length messages → IsUnmet time_out messages effect → IsSending capacity message time_out discipline receivers messages effect

-- RECEIVE_BUFFER, RECEIVE_QUEUING_MESSAGE: if there is a message, the oldest leaves, and if senders wait, the first sender's message
-- becomes the newest and that sender wakes; else the call is unmet
pub data IsReceiving (time_out : ℤ) (discipline : Discipline) (senders : List Entry) (messages : Messages) (effect : Effect Messages) : Type 0 where
  oldest_leaves : (message : List ℕ) (others : Messages) → messages ≡ message ∷ others → senders ≡ [] → effect ≡ gives no_error message [] others
      → IsReceiving time_out discipline senders messages effect
  sender_wakes : (message : List ℕ) (others : Messages) (sender : Entry) → messages ≡ message ∷ others → IsFirst discipline senders sender
      → effect ≡ gives no_error message (sender.who ∷ []) (others ++ sender.message ∷ []) → IsReceiving time_out discipline senders messages effect
  no_message : messages ≡ [] → IsUnmet time_out messages effect → IsReceiving time_out discipline senders messages effect

-- entries of a waiting set are its first ones, as many as this number, or all if the set has no more: each is the first of those that are
-- left
abbrev pub AreFirst : Discipline → ℕ → List Entry → List Entry → Type 0
AreFirst discipline count entries [] = (count ≡ 0) ⊎ (entries ≡ [])
AreFirst discipline count entries (first ∷ others) =
    (fewer : ℕ) × (count ≡ suc fewer) × IsFirst discipline entries first × AreFirst discipline fewer (without (is_same first.who) entries) others

-- CLEAR_QUEUING_PORT: all messages leave; the first senders that wait, as many as there is room for, wake, and their messages are what the
-- queue then holds
pub record IsEmptying (capacity : ℕ) (discipline : Discipline) (senders : List Entry) (effect : Effect Messages) : Type 0 where
  pub first : List Entry
  pub are_first : AreFirst discipline capacity senders first
  pub wakes : effect ≡ gives no_error [] (waiters_of first) (messages_sent first)

-- DISPLAY_BLACKBOARD: the message replaces the last one, and every waiting reader wakes
abbrev pub IsDisplay : List ℕ → List Entry → Effect (Option (List ℕ)) → Type 0
IsDisplay message readers effect = effect ≡ gives no_error [] (waiters_of readers) (Some message)

-- READ_BLACKBOARD: the caller gets the message on the blackboard, which stays; if the blackboard is empty, the call is unmet
pub data IsReading (time_out : ℤ) (message : Option (List ℕ)) (effect : Effect (Option (List ℕ))) : Type 0 where
  displayed : (found : List ℕ) → message ≡ Some found → effect ≡ gives no_error found [] (Some found) → IsReading time_out message effect
  empty : message ≡ None → IsUnmet time_out message effect → IsReading time_out message effect

-- CLEAR_BLACKBOARD: the blackboard becomes empty
abbrev pub IsClearing : Effect (Option (List ℕ)) → Type 0
IsClearing effect = effect ≡ gives no_error [] [] None

-- WAIT_SEMAPHORE: a value above 0 falls by one; else the call is unmet
pub data IsSemaphoreWait (time_out : ℤ) (value : ℕ) (effect : Effect ℕ) : Type 0 where
  takes_one : (rest : ℕ) → value ≡ rest + 1 → effect ≡ gives no_error [] [] rest → IsSemaphoreWait time_out value effect
  none_left : value ≡ 0 → IsUnmet time_out value effect → IsSemaphoreWait time_out value effect

-- SIGNAL_SEMAPHORE: the first waiter wakes, and the value stays; with no waiter the value rises by one; at the maximum the code is
-- NO_ACTION and nothing changes
pub data IsSignal (maximum : ℕ) (discipline : Discipline) (waiters : List Entry) (value : ℕ) (effect : Effect ℕ) : Type 0 where
  first_goes_on : (waiter : Entry) → IsFirst discipline waiters waiter → effect ≡ gives no_error [] (waiter.who ∷ []) value → IsSignal maximum discipline waiters value effect
  adds_one : waiters ≡ [] → value < maximum → effect ≡ gives no_error [] [] (value + 1) → IsSignal maximum discipline waiters value effect
  at_maximum : waiters ≡ [] → maximum ≤ value → effect ≡ gives (out.Answer code.NoAction) [] [] value → IsSignal maximum discipline waiters value effect

-- SET_EVENT: the event goes up, and every waiter wakes
abbrev pub IsSetting : List Entry → Effect Bool → Type 0
IsSetting waiters effect = effect ≡ gives no_error [] (waiters_of waiters) true

-- RESET_EVENT: the event goes down
abbrev pub IsResetting : Effect Bool → Type 0
IsResetting effect = effect ≡ gives no_error [] [] false

-- WAIT_EVENT: if the event is up, the caller goes on; else the call is unmet
pub data IsEventWait (time_out : ℤ) (up : Bool) (effect : Effect Bool) : Type 0 where
  is_up : up ≡ true → effect ≡ gives no_error [] [] true → IsEventWait time_out up effect
  is_down : up ≡ false → IsUnmet time_out up effect → IsEventWait time_out up effect

-- ACQUIRE_MUTEX: a free mutex becomes the caller's, with count 1; if the caller owns it, the count rises by one; if another process owns
-- it, the call is unmet
pub data IsAcquiring (caller : ℕ) (time_out : ℤ) (mutex : Mutex) (effect : Effect Mutex) : Type 0 where
  was_free : mutex.owner ≡ None → effect ≡ gives no_error [] [] (record mutex { owner = Some caller; count = 1 }) → IsAcquiring caller time_out mutex effect
  once_more : mutex.owner ≡ Some caller → effect ≡ gives no_error [] [] (record mutex { count = mutex.count + 1 }) → IsAcquiring caller time_out mutex effect
  of_another : (owner : ℕ) → mutex.owner ≡ Some owner → ¬ (owner ≡ caller) → IsUnmet time_out mutex effect → IsAcquiring caller time_out mutex effect

-- RELEASE_MUTEX: the count falls by one; the last release hands the mutex with count 1 to the first waiter, and with no waiter the mutex
-- becomes free
pub data IsReleasing (mutex : Mutex) (effect : Effect Mutex) : Type 0 where
  not_last : 1 < mutex.count → effect ≡ gives no_error [] [] (record mutex { count = mutex.count - 1 }) → IsReleasing mutex effect
  handed_on : (waiter : Entry) → mutex.count ≤ 1 → IsFirst mutex.discipline mutex.waiters waiter
      → effect ≡ gives no_error [] (waiter.who ∷ []) (record mutex { owner = Some waiter.who.proc; count = 1 }) → IsReleasing mutex effect
  freed : mutex.count ≤ 1 → mutex.waiters ≡ [] → effect ≡ gives no_error [] [] (record mutex { owner = None; count = 0 }) → IsReleasing mutex effect

-- RESET_MUTEX: whatever the count, the mutex goes with count 1 to the first waiter, who wakes; with no waiter the mutex becomes free
pub data IsMutexReset (mutex : Mutex) (effect : Effect Mutex) : Type 0 where
  handed_on : (waiter : Entry) → IsFirst mutex.discipline mutex.waiters waiter
      → effect ≡ gives no_error [] (waiter.who ∷ []) (record mutex { owner = Some waiter.who.proc; count = 1 }) → IsMutexReset mutex effect
  freed : mutex.waiters ≡ [] → effect ≡ gives no_error [] [] (record mutex { owner = None; count = 0 }) → IsMutexReset mutex effect

-- the lock

-- NO_ERROR at once, with this level and the processes whose waits end, and the lock after it
abbrev pub gives_level : ℕ → List Who → Lock → Effect Lock
gives_level level woken next = record { answer = record { out = no_error; val = Number (pos level); val2 = None; val3 = None; bytes = []; woken = woken }; next = next }

-- the owner of the lock gives it up: the first waiter becomes its owner, with level 1, and wakes; with no waiter the lock becomes free
pub data IsPassedOn (lock : Lock) (woken : List Who) (next : Lock) : Type 0 where
  to_first : (waiter : Entry) → IsFirst Priority lock.waiters waiter → woken ≡ waiter.who ∷ []
      → next ≡ record lock { owner = Some waiter.who.proc; level = 1 } → IsPassedOn lock woken next
  freed : lock.waiters ≡ [] → woken ≡ [] → next ≡ record lock { owner = None; level = 0 } → IsPassedOn lock woken next

-- LOCK_PREEMPTION: a free lock becomes the caller's, with level 1; if the caller owns it, the level rises by one; if another process owns
-- it, the caller waits
pub data IsLocking (caller : ℕ) (lock : Lock) (effect : Effect Lock) : Type 0 where
  was_free : lock.owner ≡ None → effect ≡ gives_level 1 [] (record lock { owner = Some caller; level = 1 }) → IsLocking caller lock effect
  once_more : lock.owner ≡ Some caller → effect ≡ gives_level (lock.level + 1) [] (record lock { level = lock.level + 1 }) → IsLocking caller lock effect
  of_another : (owner : ℕ) → lock.owner ≡ Some owner → ¬ (owner ≡ caller) → effect ≡ gives out.Waits [] [] lock → IsLocking caller lock effect

-- UNLOCK_PREEMPTION: the level falls by one; at 0 the owner gives the lock up
pub data IsUnlocking (lock : Lock) (effect : Effect Lock) : Type 0 where
  not_last : 1 < lock.level → effect ≡ gives_level (lock.level - 1) [] (record lock { level = lock.level - 1 }) → IsUnlocking lock effect
  at_last : (woken : List Who) (next : Lock) → lock.level ≤ 1 → IsPassedOn lock woken next → effect ≡ gives_level 0 woken next → IsUnlocking lock effect

-- a stop of this process: if it owns the lock, it gives the lock up, whatever the level is; else the lock stays
pub data IsStoppedOwner (process : ℕ) (lock : Lock) (woken : List Who) (next : Lock) : Type 0 where
  owner : lock.owner ≡ Some process → IsPassedOn lock woken next → IsStoppedOwner process lock woken next
  another : ¬ (lock.owner ≡ Some process) → woken ≡ [] → next ≡ lock → IsStoppedOwner process lock woken next

-- WRITE_SAMPLING_MESSAGE: the message replaces the last one and is stamped with the writer's time
abbrev pub IsWriting : ℕ → List ℕ → Effect (Option Stamped) → Type 0
IsWriting now message effect = effect ≡ gives no_error [] [] (Some (record { message = message; stamp = now }))

-- a reading: an outcome with its validity and its message, and what the channel held
abbrev pub reads : Out → ℕ → List ℕ → Option Stamped → Effect (Option Stamped)
reads given validity message last = record { answer = record { out = given; val = Number (pos validity); val2 = None; val3 = None; bytes = message; woken = [] }; next = last }

-- READ_SAMPLING_MESSAGE: from an empty channel no message, with NO_ACTION and validity 0; else the last message, which is valid if its age
-- is at most the refresh period; the message stays
pub data IsSampling (now refresh : ℕ) (last : Option Stamped) (effect : Effect (Option Stamped)) : Type 0 where
  empty : last ≡ None → effect ≡ reads (out.Answer code.NoAction) 0 [] None → IsSampling now refresh last effect
  valid : (found : Stamped) → last ≡ Some found → now - found.stamp ≤ refresh → effect ≡ reads no_error 1 found.message (Some found) → IsSampling now refresh last effect
  too_old : (found : Stamped) → last ≡ Some found → refresh < now - found.stamp → effect ≡ reads no_error 0 found.message (Some found) → IsSampling now refresh last effect

-- GET_QUEUING_PORT_STATUS: how many messages there are and how many processes wait at the end; both stay
abbrev pub tells_channel : Messages → List Entry → Effect Content
tells_channel messages waiting = record {
  answer = record { out = no_error; val = Number (pos (length messages)); val2 = Some (pos (length waiting)); val3 = None; bytes = []; woken = [] };
  next = Queued messages;
}

-- a use of a channel of its kind: a sampling channel is written and read; a queuing channel's messages go to the receivers of its
-- destination port and come from the senders of its source port, each set by its own port's discipline; a partition at one of its ends
-- learns how many processes wait there
pub data IsUse (configuration : Configuration) (now number partition : ℕ) (channel : Channel) (how : Use) (effect : Effect Content) : Type 0 where
  writes : (message : List ℕ) (last : Option Stamped) (inner : Effect (Option Stamped)) → how ≡ Write message → channel.content ≡ Sampled last → IsWriting now message inner
      → effect ≡ effect_on Sampled inner → IsUse configuration now number partition channel how effect
  samples : (last : Option Stamped) (inner : Effect (Option Stamped)) → how ≡ Read → channel.content ≡ Sampled last → IsSampling now (refresh_of configuration number) last inner
      → effect ≡ effect_on Sampled inner → IsUse configuration now number partition channel how effect
  sends : (message : List ℕ) (time_out : ℤ) (messages : Messages) (inner : Effect Messages) → how ≡ Send message time_out → channel.content ≡ Queued messages
      → IsSending (capacity_of configuration number) message time_out (receiving_discipline configuration number) channel.receivers messages inner
      → effect ≡ effect_on Queued inner → IsUse configuration now number partition channel how effect
  receives : (time_out : ℤ) (messages : Messages) (inner : Effect Messages) → how ≡ Receive time_out → channel.content ≡ Queued messages
      → IsReceiving time_out (sending_discipline configuration number) channel.senders messages inner
      → effect ≡ effect_on Queued inner → IsUse configuration now number partition channel how effect
  clears : (messages : Messages) (inner : Effect Messages) → how ≡ Clear → channel.content ≡ Queued messages
      → IsEmptying (capacity_of configuration number) (sending_discipline configuration number) channel.senders inner
      → effect ≡ effect_on Queued inner → IsUse configuration now number partition channel how effect
  asks_source : (messages : Messages) → how ≡ Ask → channel.content ≡ Queued messages → IsTrue (is_at_source configuration number partition)
      → effect ≡ tells_channel messages channel.senders → IsUse configuration now number partition channel how effect
  asks_destination : (messages : Messages) → how ≡ Ask → channel.content ≡ Queued messages → IsFalse (is_at_source configuration number partition)
      → IsTrue (is_at_destination configuration number partition) → effect ≡ tells_channel messages channel.receivers
      → IsUse configuration now number partition channel how effect

-- messages that pass an end outside

-- an arrival at a channel: at a sampling channel the message replaces the last one and is stamped with the time; at a queuing channel the
-- first receiver that waits wakes with the message; else, if there is room, the message becomes the newest; else it is lost
pub data IsArriving (configuration : Configuration) (now number : ℕ) (message : List ℕ) (channel : Channel) (woken : List Who) (next : Content) : Type 0 where
  is_written : (last : Option Stamped) → channel.content ≡ Sampled last → woken ≡ [] → next ≡ Sampled (Some (record { message = message; stamp = now }))
      → IsArriving configuration now number message channel woken next
  first_gets_it : (messages : Messages) (receiver : Entry) → channel.content ≡ Queued messages
      → IsFirst (receiving_discipline configuration number) channel.receivers receiver → woken ≡ receiver.who ∷ [] → next ≡ Queued messages
      → IsArriving configuration now number message channel woken next
  room : (messages : Messages) → channel.content ≡ Queued messages → channel.receivers ≡ [] → length messages < capacity_of configuration number
      → woken ≡ [] → next ≡ Queued (messages ++ message ∷ []) → IsArriving configuration now number message channel woken next
  is_lost : (messages : Messages) → channel.content ≡ Queued messages → channel.receivers ≡ [] → capacity_of configuration number ≤ length messages
      → woken ≡ [] → next ≡ Queued messages → IsArriving configuration now number message channel woken next

-- a departure from a queuing channel: the oldest message leaves, and if senders wait, the first sender's message becomes the newest and that
-- sender wakes
pub data IsDeparting (configuration : Configuration) (number : ℕ) (message : List ℕ) (channel : Channel) (woken : List Who) (next : Content) : Type 0 where
  oldest_leaves : (others : Messages) → channel.content ≡ Queued (message ∷ others) → channel.senders ≡ [] → woken ≡ [] → next ≡ Queued others
      → IsDeparting configuration number message channel woken next
  sender_wakes : (others : Messages) (sender : Entry) → channel.content ≡ Queued (message ∷ others)
      → IsFirst (sending_discipline configuration number) channel.senders sender → woken ≡ sender.who ∷ []
      → next ≡ Queued (others ++ sender.message ∷ []) → IsDeparting configuration number message channel woken next
