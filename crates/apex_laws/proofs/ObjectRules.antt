-- What each rule of an object or a channel computes, and the first of a waiting set, is exactly what the sentences say.
use Rattle.std.proofs.Common.{◌≡◌, ◌⊎◌, List, [], ◌∷◌, Option, Some, None, true, false, cond, refl, sym, ap, subst, ◌∙◌, inl, inr, arith, true≢false, ℕ, zero, suc, ◌-◌, ◌≤◌, ℤ, pos, length, Bool, ◌||◌, nat_eq, nat_le, nat_lt, IsTrue}
use Rattle.std.proofs.lemmas.Bool.{eqb-true, eq-eqb, eqb-false, ltb-true, leb-true}
use Rattle.std.proofs.lemmas.List.Elements.{All-cons, All-contains, All-contains_itself, All-nil, All-weaker}
use Rattle.std.specs.Prelude.{Contains}
use Rattle.apex_laws.specs.ObjectSentences.IsAcquiring.{of_another, once_more, was_free}
use Rattle.apex_laws.specs.ObjectSentences.IsEventWait.{is_down, is_up}
use Rattle.apex_laws.specs.ObjectSentences.IsReading.{displayed as on_board, empty as board_empty}
use Rattle.apex_laws.specs.ObjectSentences.IsReceiving.{no_message, oldest_leaves, sender_wakes}
use Rattle.apex_laws.specs.ObjectSentences.IsReleasing.{freed, handed_on, not_last}
use Rattle.apex_laws.specs.ObjectSentences.IsSampling.{empty, too_old, valid}
use Rattle.apex_laws.specs.ObjectSentences.IsSemaphoreWait.{none_left, takes_one}
use Rattle.apex_laws.specs.ObjectSentences.IsSending.{first_gets_it, no_room, room}
use Rattle.apex_laws.specs.ObjectSentences.IsSignal.{adds_one, at_maximum as is_at_maximum, first_goes_on}
use Rattle.apex_laws.specs.ObjectSentences.IsUnmet.{at_once, waits}
use Rattle.apex_laws.specs.ObjectSentences.IsUse.{asks_destination, asks_source, clears, receives, samples, sends, writes}
use Rattle.apex_laws.proofs.Common.{AllEntries, AreApart, Ask, BlackboardIsTheSentence, Channel, ChannelIsTheSentence, Code, Configuration, Content, Discipline, Effect, Entry, EventIsTheSentence, FirstIsTheSentence, IsAcquiring, IsEventWait}
use Rattle.apex_laws.proofs.Common.{IsFirst, IsReading, IsReceiving, IsReleasing, IsSampling, IsSemaphoreWait, IsSending, IsSignal, IsUnmet, IsUse, Messages, Mutex, MutexIsTheSentence, Precedes, Queued, QueueIsTheSentence, Read, Receive}
use Rattle.apex_laws.proofs.Common.{Sampled, SamplingIsTheSentence, SemaphoreIsTheSentence, Send, Stamped, Use, Write, acquired, acquired_again, acquired_from, answering, appended, at_maximum, board_read, capacity_of, effect_on}
use Rattle.apex_laws.proofs.Common.{event_waited, first_waiter, hand_on, is_at_destination, is_at_source, is_over, mutex_released, no_error, not_acquired, not_yet, precedes, raised, reads, received, receiving_discipline, refresh_of}
use Rattle.apex_laws.proofs.Common.{released_once, sampled, semaphore_waited, sending_discipline, sent, signalled, sooner_entry, suits, tells_channel, unmet, used, waiting, written}
use Rattle.apex_laws.proofs.Common.{AreFirst, Clear, CrossingIsTheSentence, IsArriving, IsDeparting, IsEmptying, IsMutexReset, IsTaken, Out, Who, after_first, arrival_use, arrived, departed, emptied_queue, first_waiters, followed_by, is_same, without}
use Rattle.apex_laws.proofs.Waiters.{all_without}
use Rattle.apex_laws.proofs.Booleans.{by_test, cannot_hold, impossible, member_first, member_later, never_found, one_item}
use Rattle.apex_laws.proofs.ConditionTests.{over_tells}

-- The first of a waiting set is the entry that no other precedes.

-- standing in a set

-- an entry is the first of a list or one of the rest
member_cases : (entry other : Entry) (entries : List Entry) → Contains (entry ∷ entries) other → (other ≡ entry) ⊎ Contains entries other
member_cases entry other entries is_member =
    All-contains (λ one. (one ≡ entry) ⊎ Contains entries one) (entry ∷ entries) other
    (All-cons (λ one. (one ≡ entry) ⊎ Contains entries one) entry entries (inl refl)
    (All-weaker (Contains entries) (λ one. (one ≡ entry) ⊎ Contains entries one) (λ one there. inr there) entries (All-contains_itself entries))) is_member

-- no entry is in an empty set
member_nowhere : (entry : Entry) → Contains [] entry → ⊥
member_nowhere entry is_member = All-contains (λ one. ⊥) [] entry (All-nil (λ one. ⊥)) is_member

-- what holds for all entries holds for one of them
has_it : (Fact : Entry → Type 0) (entries : List Entry) (entry : Entry) → AllEntries Fact entries → Contains entries entry → Fact entry
has_it Fact [] entry all is_member = absurd (member_nowhere entry is_member)
has_it Fact (other ∷ entries) entry all is_member =
    elim (member_cases other entry entries is_member) [
      | inl same ↦ subst Fact (sym same) all.0
      | inr later ↦ has_it Fact entries entry all.1 later
    ]

-- two entries of one place are one
one_place : (entries : List Entry) → AreApart entries → (one other : Entry) → Contains entries one → Contains entries other → one.place ≡ other.place → one ≡ other
one_place [] apart one other is_member also same = absurd (member_nowhere one is_member)
one_place (entry ∷ entries) apart one other is_member also same =
    elim (member_cases entry one entries is_member) [
      | inl first ↦ elim (member_cases entry other entries also) [
        | inl second ↦ first ∙ sym second
        | inr later ↦ absurd (has_it (λ next. ¬ (entry.place ≡ next.place)) entries other apart.0 later (ap (λ next. next.place) (sym first) ∙ same))
      ]
      | inr later ↦ elim (member_cases entry other entries also) [
        | inl second ↦ absurd (has_it (λ next. ¬ (entry.place ≡ next.place)) entries one apart.0 later (ap (λ next. next.place) (sym second) ∙ sym same))
        | inr there ↦ one_place entries apart.1 one other later there same
      ]
    ]

-- preceding is an order

precedes_is : (which : Discipline) (one other : Entry) → precedes which one other ≡ true → Precedes which one other
precedes_is Discipline.Fifo one other before = grind arith
precedes_is Discipline.Priority one other before = grind arith

precedes_by : (which : Discipline) (one other : Entry) → Precedes which one other → precedes which one other ≡ true
precedes_by Discipline.Fifo one other before = grind arith
precedes_by Discipline.Priority one other (inl more) = grind arith
precedes_by Discipline.Priority one other (inr (same, sooner)) = grind arith

not_itself : (which : Discipline) (one : Entry) → precedes which one one ≡ false
not_itself Discipline.Fifo one = grind arith
not_itself Discipline.Priority one = grind arith

not_both : (which : Discipline) (one other : Entry) → precedes which one other ≡ true → precedes which other one ≡ false
not_both Discipline.Fifo one other before = grind arith
not_both Discipline.Priority one other before = grind arith

not_chain : (which : Discipline) (one middle other : Entry) → precedes which one middle ≡ false → precedes which middle other ≡ false → precedes which one other ≡ false
not_chain Discipline.Fifo one middle other first second = grind arith
not_chain Discipline.Priority one middle other first second = grind arith

same_place : (which : Discipline) (one other : Entry) → precedes which one other ≡ false → precedes which other one ≡ false → one.place ≡ other.place
same_place Discipline.Fifo one other first second = grind arith
same_place Discipline.Priority one other first second = grind arith

-- the walk

-- the entry is in the set, and none of the set passes the test against it
record IsFound (which : Discipline) (entries : List Entry) (entry : Entry) : Type 0 where
  is_member : Contains entries entry
  first : AllEntries (λ other. precedes which other entry ≡ false) entries

-- what all of a set have against one, they have against one that isn't preceded by it
none_before : (which : Discipline) (one other : Entry) (entries : List Entry) → precedes which one other ≡ false → AllEntries (λ next. precedes which next one ≡ false) entries
    → AllEntries (λ next. precedes which next other ≡ false) entries
none_before which one other [] not_before all = tt
none_before which one other (entry ∷ entries) not_before all = (not_chain which entry one other all.0 not_before, none_before which one other entries not_before all.1)

empty_set : (which : Discipline) (entries : List Entry) → first_waiter which entries ≡ None → entries ≡ []
empty_set which [] none = refl
empty_set which (entry ∷ entries) none = absurd (some (first_waiter which entries) none)
  where
    some : (found : Option Entry) → sooner_entry which entry found ≡ None → ⊥
    some None none = never_found (sym none)
    some (Some other) none =
        by_test (λ first. first ≡ None → ⊥) (precedes which other entry) (Some other) (Some entry) (λ before none. never_found (sym none)) (λ after none. never_found (sym none)) none

found_first : (which : Discipline) (entries : List Entry) (entry : Entry) → first_waiter which entries ≡ Some entry → IsFound which entries entry
found_first which [] entry is = cc
found_first which (other ∷ entries) entry is = by (first_waiter which entries) refl (λ next some. found_first which entries next some) is
  where
    here : AllEntries (λ next. precedes which next other ≡ false) entries → Some other ≡ Some entry → IsFound which (other ∷ entries) entry
    here all some = subst (IsFound which (other ∷ entries)) (one_item some) (record { is_member = member_first other entries; first = (not_itself which other, all) })

    by : (found : Option Entry) → first_waiter which entries ≡ found → ((next : Entry) → first_waiter which entries ≡ Some next → IsFound which entries next)
        → sooner_entry which other found ≡ Some entry → IsFound which (other ∷ entries) entry
    by None none later is = here (subst (AllEntries (λ next. precedes which next other ≡ false)) (sym (empty_set which entries none)) tt) is
    by (Some next) some later is =
        let rest = later next some in
        by_test (λ first. first ≡ Some entry → IsFound which (other ∷ entries) entry) (precedes which next other) (Some next) (Some other)
        (λ before is. subst (IsFound which (other ∷ entries)) (one_item is) (record { is_member = member_later other next entries rest.is_member; first = (not_both which next other before, rest.first) }))
        (λ not_before is. here (none_before which next other entries not_before rest.first) is) is

-- the two ways

pub first_is : (which : Discipline) (entries : List Entry) (entry : Entry) → first_waiter which entries ≡ Some entry → IsFirst which entries entry
first_is which entries entry is =
    let found = found_first which entries entry is in
    record {
      is_member = found.is_member;
      first = λ other is_member before. true≢false (sym (precedes_by which other entry before) ∙ has_it (λ next. precedes which next entry ≡ false) entries other found.first is_member);
    }

is_the_first : (which : Discipline) (entries : List Entry) → AreApart entries → (entry : Entry) → IsFirst which entries entry → first_waiter which entries ≡ Some entry
is_the_first which entries apart entry first = by (first_waiter which entries) refl
  where
    by : (found : Option Entry) → first_waiter which entries ≡ found → found ≡ Some entry
    by None none = absurd (member_nowhere entry (subst (λ one. Contains one entry) (empty_set which entries none) first.is_member))
    by (Some other) some =
        let found = found_first which entries other some in
        let not_other : precedes which other entry ≡ false = cannot_hold (precedes which other entry) (λ before. first.first other found.is_member (precedes_is which other entry before)) in
        let not_entry : precedes which entry other ≡ false = has_it (λ next. precedes which next other ≡ false) entries entry found.first first.is_member in
        ap Some (one_place entries apart other entry found.is_member first.is_member (same_place which other entry not_other not_entry))

pub nobody_first : (which : Discipline) (entries : List Entry) → entries ≡ [] → first_waiter which entries ≡ None
nobody_first which entries none = ap (first_waiter which) none

-- entries that stay are apart
apart_without : (leaves : Who → Bool) (entries : List Entry) → AreApart entries → AreApart (without leaves entries)
apart_without leaves [] apart = tt
apart_without leaves (entry ∷ entries) apart =
    by_test AreApart (leaves entry.who) (without leaves entries) (entry ∷ without leaves entries)
    (λ goes. apart_without leaves entries apart.1)
    (λ stays. (all_without (λ other. ¬ (entry.place ≡ other.place)) (λ other. ¬ (entry.place ≡ other.place)) leaves (λ other stays fact. fact) entries apart.0, apart_without leaves entries apart.1))

-- the first ones
firsts_say : (which : Discipline) (count : ℕ) (entries : List Entry) → AreApart entries → AreFirst which count entries (first_waiters which count entries)
firsts_say which zero entries apart = inl refl
firsts_say which (suc count) entries apart =
    by (first_waiter which entries) refl (λ leaves. firsts_say which count (without leaves entries) (apart_without leaves entries apart))
  where
    by : (found : Option Entry) → first_waiter which entries ≡ found → ((leaves : Who → Bool) → AreFirst which count (without leaves entries) (first_waiters which count (without leaves entries)))
        → AreFirst which (suc count) entries (followed_by found (first_waiters which count (after_first found entries)))
    by None none rest = inr (empty_set which entries none)
    by (Some first) is rest = (count, refl, first_is which entries first is, rest (is_same first.who))

none_first : (which : Discipline) (count : ℕ) → first_waiters which count [] ≡ []
none_first which zero = refl
none_first which (suc count) = refl

firsts_by : (which : Discipline) (count : ℕ) (entries firsts : List Entry) → AreApart entries → AreFirst which count entries firsts → firsts ≡ first_waiters which count entries
firsts_by which count entries [] apart (inl no_count) = sym (ap (λ one. first_waiters which one entries) no_count)
firsts_by which count entries [] apart (inr nobody) = sym (ap (first_waiters which count) nobody ∙ none_first which count)
firsts_by which count entries (first ∷ others) apart is =
    sym (ap (λ one. first_waiters which one entries) is.1
    ∙ ap (λ found. followed_by found (first_waiters which is.0 (after_first found entries))) (is_the_first which entries apart first is.2)
    ∙ ap (λ rest. first ∷ rest) (sym (firsts_by which is.0 (without (is_same first.who) entries) others (apart_without (is_same first.who) entries apart) is.3)))

pub first_is_the_sentence : FirstIsTheSentence
first_is_the_sentence which entries apart = (
  λ entry. (first_is which entries entry, is_the_first which entries apart entry),
  (empty_set which entries, nobody_first which entries),
  λ count firsts. (λ is. subst (AreFirst which count entries) (sym is) (firsts_say which count entries apart), firsts_by which count entries firsts apart),
)

-- What each rule of an object or a channel computes is exactly what its sentences say.

-- a time-out that is not over
not_over : (time_out : ℤ) → ¬ (time_out ≡ pos 0) → is_over time_out ≡ false
not_over time_out differs = cannot_hold (is_over time_out) (λ over. differs ((over_tells time_out).0 over))

-- what cannot be had
unmet_says : {Object : Type 0} (time_out : ℤ) (object : Object) (effect : Effect Object) → effect ≡ record { answer = unmet time_out; next = object } → IsUnmet time_out object effect
unmet_says {Object} time_out object effect is =
    by_test (λ answer. effect ≡ record { answer = answer; next = object } → IsUnmet time_out object effect) (is_over time_out) (answering Code.NotAvailable) waiting
    (λ over is. at_once ((over_tells time_out).0 over) is) (λ later is. waits (λ over. true≢false (sym ((over_tells time_out).1 over) ∙ later)) is) is

unmet_by : {Object : Type 0} (time_out : ℤ) (object : Object) (effect : Effect Object) → IsUnmet time_out object effect → effect ≡ record { answer = unmet time_out; next = object }
unmet_by time_out object effect (at_once over is) = rw ((over_tells time_out).1 over) is
unmet_by time_out object effect (waits later is) = rw (not_over time_out later) is

-- what cannot be had of what is this
unmet_at : {Object : Type 0} (time_out : ℤ) (object other : Object) (effect : Effect Object) → object ≡ other → IsUnmet time_out object effect → effect ≡ record { answer = unmet time_out; next = other }
unmet_at time_out object other effect same is = unmet_by time_out other effect (subst (λ one. IsUnmet time_out one effect) same is)

-- an empty set has no first
pub no_first : (which : Discipline) (entries : List Entry) → first_waiter which entries ≡ None → AreApart entries → entries ≡ []
no_first which entries none apart = (first_is_the_sentence which entries apart).1.0 none

pub first_by : (which : Discipline) (entries : List Entry) (entry : Entry) → AreApart entries → IsFirst which entries entry → first_waiter which entries ≡ Some entry
first_by which entries entry apart first = ((first_is_the_sentence which entries apart).0 entry).1 first

-- queues

sending_says : (capacity : ℕ) (message : List ℕ) (time_out : ℤ) (which : Discipline) (receivers : List Entry) (messages : Messages) (effect : Effect Messages) → AreApart receivers
    → (first : Option Entry) → first_waiter which receivers ≡ first → effect ≡ sent capacity message time_out first messages → IsSending capacity message time_out which receivers messages effect
sending_says capacity message time_out which receivers messages effect apart (Some receiver) first is = first_gets_it receiver (first_is which receivers receiver first) is
sending_says capacity message time_out which receivers messages effect apart None none is =
    let empty_set = no_first which receivers none apart in
    by_test (λ one. effect ≡ one → IsSending capacity message time_out which receivers messages effect) (nat_lt (length messages) capacity) (appended message messages) (not_yet time_out messages)
    (λ fits is. room empty_set (ltb-true (length messages) capacity fits) is) (λ full is. no_room empty_set (grind arith) (unmet_says time_out messages effect is)) is

sending_by : (capacity : ℕ) (message : List ℕ) (time_out : ℤ) (which : Discipline) (receivers : List Entry) (messages : Messages) (effect : Effect Messages) → AreApart receivers
    → IsSending capacity message time_out which receivers messages effect → effect ≡ sent capacity message time_out (first_waiter which receivers) messages
sending_by capacity message time_out which receivers messages effect apart (first_gets_it receiver first is) = rw (first_by which receivers receiver apart first) is
sending_by capacity message time_out which receivers messages effect apart (room none fits is) =
    let test : nat_lt (length messages) capacity ≡ true = grind arith in
    rw (ap (first_waiter which) none, test) is
sending_by capacity message time_out which receivers messages effect apart (no_room none full unmet) =
    let test : nat_lt (length messages) capacity ≡ false = grind arith in
    rw (ap (first_waiter which) none, test) (unmet_by time_out messages effect unmet)

receiving_says : (time_out : ℤ) (which : Discipline) (senders : List Entry) (messages : Messages) (effect : Effect Messages) → AreApart senders
    → (first : Option Entry) → first_waiter which senders ≡ first → effect ≡ received time_out first messages → IsReceiving time_out which senders messages effect
receiving_says time_out which senders [] effect apart first at is = no_message refl (unmet_says time_out [] effect is)
receiving_says time_out which senders (message ∷ others) effect apart None none is = oldest_leaves message others refl (no_first which senders none apart) is
receiving_says time_out which senders (message ∷ others) effect apart (Some sender) first is = sender_wakes message others sender refl (first_is which senders sender first) is

receiving_by : (time_out : ℤ) (which : Discipline) (senders : List Entry) (messages : Messages) (effect : Effect Messages) → AreApart senders
    → IsReceiving time_out which senders messages effect → effect ≡ received time_out (first_waiter which senders) messages
receiving_by time_out which senders messages effect apart (oldest_leaves message others at none is) =
    let first : first_waiter which senders ≡ None = ap (first_waiter which) none in
    is ∙ sym (ap (λ first. received time_out first messages) first ∙ ap (received time_out None) at)
receiving_by time_out which senders messages effect apart (sender_wakes message others sender at first is) =
    is ∙ sym (ap (λ one. received time_out one messages) (first_by which senders sender apart first) ∙ ap (received time_out (Some sender)) at)
receiving_by time_out which senders messages effect apart (no_message none unmet_one) =
    unmet_at time_out messages [] effect none unmet_one ∙ sym (ap (received time_out (first_waiter which senders)) none)

emptying_says : (capacity : ℕ) (which : Discipline) (senders : List Entry) (effect : Effect Messages) → AreApart senders
    → effect ≡ emptied_queue (first_waiters which capacity senders) → IsEmptying capacity which senders effect
emptying_says capacity which senders effect apart is = record { first = first_waiters which capacity senders; are_first = firsts_say which capacity senders apart; wakes = is }

emptying_by : (capacity : ℕ) (which : Discipline) (senders : List Entry) (effect : Effect Messages) → AreApart senders
    → IsEmptying capacity which senders effect → effect ≡ emptied_queue (first_waiters which capacity senders)
emptying_by capacity which senders effect apart is = is.wakes ∙ ap emptied_queue (firsts_by which capacity senders is.first apart is.are_first)

pub queue_is_the_sentence : QueueIsTheSentence
queue_is_the_sentence = (
  λ capacity message time_out which receivers messages effect apart.
      (sending_says capacity message time_out which receivers messages effect apart (first_waiter which receivers) refl, sending_by capacity message time_out which receivers messages effect apart),
  λ time_out which senders messages effect apart.
      (receiving_says time_out which senders messages effect apart (first_waiter which senders) refl, receiving_by time_out which senders messages effect apart),
  λ capacity which senders effect apart. (emptying_says capacity which senders effect apart, emptying_by capacity which senders effect apart),
)

-- blackboards

reading_says : (time_out : ℤ) (message : Option (List ℕ)) (effect : Effect (Option (List ℕ))) → effect ≡ board_read time_out message → IsReading time_out message effect
reading_says time_out None effect is = board_empty refl (unmet_says time_out None effect is)
reading_says time_out (Some message) effect is = on_board message refl is

reading_by : (time_out : ℤ) (message : Option (List ℕ)) (effect : Effect (Option (List ℕ))) → IsReading time_out message effect → effect ≡ board_read time_out message
reading_by time_out message effect (on_board found at is) = is ∙ sym (ap (board_read time_out) at)
reading_by time_out message effect (board_empty none unmet_one) = unmet_at time_out message None effect none unmet_one ∙ sym (ap (board_read time_out) none)

pub blackboard_is_the_sentence : BlackboardIsTheSentence
blackboard_is_the_sentence = (
  λ message readers effect. (λ is. is, λ is. is),
  λ time_out message effect. (reading_says time_out message effect, reading_by time_out message effect),
  λ effect. (λ is. is, λ is. is),
)

-- semaphores

waiting_says : (time_out : ℤ) (value : ℕ) (effect : Effect ℕ) → effect ≡ semaphore_waited time_out value → IsSemaphoreWait time_out value effect
waiting_says time_out zero effect is = none_left refl (unmet_says time_out zero effect is)
waiting_says time_out (suc value) effect is = takes_one value (omega arith) is

waiting_by : (time_out : ℤ) (value : ℕ) (effect : Effect ℕ) → IsSemaphoreWait time_out value effect → effect ≡ semaphore_waited time_out value
waiting_by time_out value effect (takes_one rest at is) =
    let above : value ≡ suc rest = omega (arith, at) in
    is ∙ sym (ap (semaphore_waited time_out) above)
waiting_by time_out value effect (none_left none unmet_one) = unmet_at time_out value 0 effect none unmet_one ∙ sym (ap (semaphore_waited time_out) none)

signal_says : (maximum : ℕ) (which : Discipline) (waiters : List Entry) (value : ℕ) (effect : Effect ℕ) → AreApart waiters
    → (first : Option Entry) → first_waiter which waiters ≡ first → effect ≡ signalled maximum first value → IsSignal maximum which waiters value effect
signal_says maximum which waiters value effect apart (Some waiter) first is = first_goes_on waiter (first_is which waiters waiter first) is
signal_says maximum which waiters value effect apart None none is =
    let empty_set = no_first which waiters none apart in
    by_test (λ one. effect ≡ one → IsSignal maximum which waiters value effect) (nat_lt value maximum) (raised value) (at_maximum value)
    (λ below is. adds_one empty_set (ltb-true value maximum below) is) (λ full is. is_at_maximum empty_set (grind arith) is) is

signal_by : (maximum : ℕ) (which : Discipline) (waiters : List Entry) (value : ℕ) (effect : Effect ℕ) → AreApart waiters
    → IsSignal maximum which waiters value effect → effect ≡ signalled maximum (first_waiter which waiters) value
signal_by maximum which waiters value effect apart (first_goes_on waiter first is) = rw (first_by which waiters waiter apart first) is
signal_by maximum which waiters value effect apart (adds_one none below is) =
    let test : nat_lt value maximum ≡ true = grind arith in
    rw (ap (first_waiter which) none, test) is
signal_by maximum which waiters value effect apart (is_at_maximum none full is) =
    let test : nat_lt value maximum ≡ false = grind arith in
    rw (ap (first_waiter which) none, test) is

pub semaphore_is_the_sentence : SemaphoreIsTheSentence
semaphore_is_the_sentence = (
  λ time_out value effect. (waiting_says time_out value effect, waiting_by time_out value effect),
  λ maximum which waiters value effect apart. (signal_says maximum which waiters value effect apart (first_waiter which waiters) refl, signal_by maximum which waiters value effect apart),
)

-- events

event_says : (time_out : ℤ) (up : Bool) (effect : Effect Bool) → effect ≡ event_waited time_out up → IsEventWait time_out up effect
event_says time_out true effect is = is_up refl is
event_says time_out false effect is = is_down refl (unmet_says time_out false effect is)

event_by : (time_out : ℤ) (up : Bool) (effect : Effect Bool) → IsEventWait time_out up effect → effect ≡ event_waited time_out up
event_by time_out up effect (is_up at is) = is ∙ sym (ap (event_waited time_out) at)
event_by time_out up effect (is_down at unmet_one) = unmet_at time_out up false effect at unmet_one ∙ sym (ap (event_waited time_out) at)

pub event_is_the_sentence : EventIsTheSentence
event_is_the_sentence = (
  λ waiters effect. (λ is. is, λ is. is),
  λ effect. (λ is. is, λ is. is),
  λ time_out up effect. (event_says time_out up effect, event_by time_out up effect),
)

-- mutexes

acquiring_says : (caller : ℕ) (time_out : ℤ) (mutex : Mutex) (effect : Effect Mutex) (owner : Option ℕ) → mutex.owner ≡ owner → effect ≡ acquired_from owner caller time_out mutex
    → IsAcquiring caller time_out mutex effect
acquiring_says caller time_out mutex effect None free is = was_free free is
acquiring_says caller time_out mutex effect (Some owner) owned is =
    by_test (λ one. effect ≡ one → IsAcquiring caller time_out mutex effect) (nat_eq owner caller) (acquired_again mutex) (not_acquired time_out mutex)
    (λ own is. once_more (owned ∙ ap Some (eqb-true owner caller own)) is) (λ other is. of_another owner owned (eqb-false owner caller other) (unmet_says time_out mutex effect is)) is

acquiring_by : (caller : ℕ) (time_out : ℤ) (mutex : Mutex) (effect : Effect Mutex) → IsAcquiring caller time_out mutex effect → effect ≡ acquired caller time_out mutex
acquiring_by caller time_out mutex effect (was_free free is) = is ∙ sym (ap (λ owner. acquired_from owner caller time_out mutex) free)
acquiring_by caller time_out mutex effect (once_more own is) =
    is ∙ sym (ap (λ owner. acquired_from owner caller time_out mutex) own ∙ ap (λ same. cond same (acquired_again mutex) (not_acquired time_out mutex)) (eq-eqb caller caller refl))
acquiring_by caller time_out mutex effect (of_another owner owned differs unmet_one) =
    let test : nat_eq owner caller ≡ false = cannot_hold (nat_eq owner caller) (λ same. differs (eqb-true owner caller same)) in
    unmet_by time_out mutex effect unmet_one
    ∙ sym (ap (λ one. acquired_from one caller time_out mutex) owned ∙ ap (λ same. cond same (acquired_again mutex) (not_acquired time_out mutex)) test)

releasing_says : (mutex : Mutex) (effect : Effect Mutex) → AreApart mutex.waiters → (first : Option Entry) → first_waiter mutex.discipline mutex.waiters ≡ first
    → effect ≡ mutex_released first mutex → IsReleasing mutex effect
releasing_says mutex effect apart first at is =
    by_test (λ one. effect ≡ one → IsReleasing mutex effect) (nat_lt 1 mutex.count) (released_once mutex) (hand_on first mutex)
    (λ more is. not_last (ltb-true 1 mutex.count more) is) (λ last is. by first at (grind arith) is) is
  where
    by : (first : Option Entry) → first_waiter mutex.discipline mutex.waiters ≡ first → mutex.count ≤ 1 → effect ≡ hand_on first mutex → IsReleasing mutex effect
    by None none last is = freed last (no_first mutex.discipline mutex.waiters none apart) is
    by (Some waiter) first last is = handed_on waiter last (first_is mutex.discipline mutex.waiters waiter first) is

releasing_by : (mutex : Mutex) (effect : Effect Mutex) → AreApart mutex.waiters → IsReleasing mutex effect → effect ≡ mutex_released (first_waiter mutex.discipline mutex.waiters) mutex
releasing_by mutex effect apart (not_last more is) =
    let test : nat_lt 1 mutex.count ≡ true = grind arith in rw test is
releasing_by mutex effect apart (handed_on waiter last first is) =
    let test : nat_lt 1 mutex.count ≡ false = grind arith in
    rw (test, first_by mutex.discipline mutex.waiters waiter apart first) is
releasing_by mutex effect apart (freed last none is) =
    let test : nat_lt 1 mutex.count ≡ false = grind arith in
    let first : first_waiter mutex.discipline mutex.waiters ≡ None = ap (first_waiter mutex.discipline) none in
    rw (test, first) is

reset_says : (mutex : Mutex) (effect : Effect Mutex) → AreApart mutex.waiters → (first : Option Entry) → first_waiter mutex.discipline mutex.waiters ≡ first
    → effect ≡ hand_on first mutex → IsMutexReset mutex effect
reset_says mutex effect apart None none is = IsMutexReset.freed (no_first mutex.discipline mutex.waiters none apart) is
reset_says mutex effect apart (Some waiter) first is = IsMutexReset.handed_on waiter (first_is mutex.discipline mutex.waiters waiter first) is

reset_by : (mutex : Mutex) (effect : Effect Mutex) → AreApart mutex.waiters → IsMutexReset mutex effect → effect ≡ hand_on (first_waiter mutex.discipline mutex.waiters) mutex
reset_by mutex effect apart (IsMutexReset.handed_on waiter first is) = is ∙ sym (ap (λ one. hand_on one mutex) (first_by mutex.discipline mutex.waiters waiter apart first))
reset_by mutex effect apart (IsMutexReset.freed none is) = is ∙ sym (ap (λ one. hand_on (first_waiter mutex.discipline one) mutex) none)

pub mutex_is_the_sentence : MutexIsTheSentence
mutex_is_the_sentence = (
  λ caller time_out mutex effect. (acquiring_says caller time_out mutex effect mutex.owner refl, acquiring_by caller time_out mutex effect),
  λ mutex effect apart. (releasing_says mutex effect apart (first_waiter mutex.discipline mutex.waiters) refl, releasing_by mutex effect apart),
  λ mutex effect apart. (reset_says mutex effect apart (first_waiter mutex.discipline mutex.waiters) refl, reset_by mutex effect apart),
)

-- sampling channels

sampling_says : (now refresh : ℕ) (last : Option Stamped) (effect : Effect (Option Stamped)) → effect ≡ sampled now refresh last → IsSampling now refresh last effect
sampling_says now refresh None effect is = empty refl is
sampling_says now refresh (Some found) effect is =
    by_test (λ (number : ℕ). effect ≡ reads no_error number found.message (Some found) → IsSampling now refresh (Some found) effect) (nat_le (now - found.stamp) refresh) 1 0
    (λ fresh is. valid found refl (leb-true (now - found.stamp) refresh fresh) is) (λ old is. too_old found refl (grind arith) is) is

sampling_by : (now refresh : ℕ) (last : Option Stamped) (effect : Effect (Option Stamped)) → IsSampling now refresh last effect → effect ≡ sampled now refresh last
sampling_by now refresh last effect (empty none is) = is ∙ sym (ap (sampled now refresh) none)
sampling_by now refresh last effect (valid found at fresh is) =
    let test : nat_le (now - found.stamp) refresh ≡ true = grind arith in
    is ∙ sym (ap (sampled now refresh) at ∙ ap (λ one. reads no_error (cond one 1 0) found.message (Some found)) test)
sampling_by now refresh last effect (too_old found at old is) =
    let test : nat_le (now - found.stamp) refresh ≡ false = grind arith in
    is ∙ sym (ap (sampled now refresh) at ∙ ap (λ one. reads no_error (cond one 1 0) found.message (Some found)) test)

pub sampling_is_the_sentence : SamplingIsTheSentence
sampling_is_the_sentence = (
  λ now message effect. (λ is. is, λ is. is),
  λ now refresh last effect. (sampling_says now refresh last effect, sampling_by now refresh last effect),
)

-- any channel

ask_says : (configuration : Configuration) (now number partition : ℕ) (channel : Channel) (messages : Messages) (effect : Effect Content) → channel.content ≡ Queued messages
    → (source : Bool) → is_at_source configuration number partition ≡ source → IsTrue (source || is_at_destination configuration number partition)
    → effect ≡ tells_channel messages (cond source channel.senders channel.receivers) → IsUse configuration now number partition channel Ask effect
ask_says configuration now number partition channel messages effect at true of suited is = asks_source messages refl at of is
ask_says configuration now number partition channel messages effect at false of suited is = asks_destination messages refl at of suited is

use_says : (configuration : Configuration) (now number partition : ℕ) (channel : Channel) (how : Use) (content : Content) (effect : Effect Content) → channel.content ≡ content → AreApart channel.senders → AreApart channel.receivers
    → IsTrue (suits configuration number partition how content) → effect ≡ used configuration now number partition how channel content → IsUse configuration now number partition channel how effect
use_says configuration now number partition channel (Write message) (Sampled last) effect at senders receivers suited is = writes message last (written now message) refl at refl is
use_says configuration now number partition channel Read (Sampled last) effect at senders receivers suited is =
    samples last (sampled now (refresh_of configuration number) last) refl at (sampling_says now (refresh_of configuration number) last (sampled now (refresh_of configuration number) last) refl) is
use_says configuration now number partition channel (Send message time_out) (Queued messages) effect at senders receivers suited is =
    sends message time_out messages _ refl at
    ((queue_is_the_sentence.0 (capacity_of configuration number) message time_out (receiving_discipline configuration number) channel.receivers messages _ receivers).0 refl) is
use_says configuration now number partition channel (Receive time_out) (Queued messages) effect at senders receivers suited is =
    receives time_out messages _ refl at ((queue_is_the_sentence.1 time_out (sending_discipline configuration number) channel.senders messages _ senders).0 refl) is
use_says configuration now number partition channel Clear (Queued messages) effect at senders receivers suited is =
    clears messages _ refl at ((queue_is_the_sentence.2 (capacity_of configuration number) (sending_discipline configuration number) channel.senders _ senders).0 refl) is
use_says configuration now number partition channel Clear (Sampled last) effect at senders receivers suited is = impossible suited
use_says configuration now number partition channel (Write message) (Queued messages) effect at senders receivers suited is = impossible suited
use_says configuration now number partition channel Read (Queued messages) effect at senders receivers suited is = impossible suited
use_says configuration now number partition channel (Send message time_out) (Sampled last) effect at senders receivers suited is = impossible suited
use_says configuration now number partition channel (Receive time_out) (Sampled last) effect at senders receivers suited is = impossible suited
use_says configuration now number partition channel Ask (Sampled last) effect at senders receivers suited is = impossible suited
use_says configuration now number partition channel Ask (Queued messages) effect at senders receivers suited is =
    ask_says configuration now number partition channel messages effect at (is_at_source configuration number partition) refl suited is

use_by : (configuration : Configuration) (now number partition : ℕ) (channel : Channel) (how : Use) (effect : Effect Content) → AreApart channel.senders → AreApart channel.receivers
    → IsUse configuration now number partition channel how effect → effect ≡ used configuration now number partition how channel channel.content
use_by configuration now number partition channel how effect senders receivers (writes message last inner uses at written_so is) =
    is ∙ ap (effect_on Sampled) written_so ∙ sym (ap (λ one. used configuration now number partition one channel channel.content) uses ∙ ap (used configuration now number partition (Write message) channel) at)
use_by configuration now number partition channel how effect senders receivers (samples last inner uses at sampled_so is) =
    is ∙ ap (effect_on Sampled) (sampling_by now (refresh_of configuration number) last inner sampled_so)
    ∙ sym (ap (λ one. used configuration now number partition one channel channel.content) uses ∙ ap (used configuration now number partition Read channel) at)
use_by configuration now number partition channel how effect senders receivers (sends message time_out messages inner uses at sent_so is) =
    is ∙ ap (effect_on Queued) (sending_by (capacity_of configuration number) message time_out (receiving_discipline configuration number) channel.receivers messages inner receivers sent_so)
    ∙ sym (ap (λ one. used configuration now number partition one channel channel.content) uses ∙ ap (used configuration now number partition (Send message time_out) channel) at)
use_by configuration now number partition channel how effect senders receivers (receives time_out messages inner uses at received_so is) =
    is ∙ ap (effect_on Queued) (receiving_by time_out (sending_discipline configuration number) channel.senders messages inner senders received_so)
    ∙ sym (ap (λ one. used configuration now number partition one channel channel.content) uses ∙ ap (used configuration now number partition (Receive time_out) channel) at)
use_by configuration now number partition channel how effect senders receivers (clears messages inner uses at cleared_so is) =
    is ∙ ap (effect_on Queued) (emptying_by (capacity_of configuration number) (sending_discipline configuration number) channel.senders inner senders cleared_so)
    ∙ sym (ap (λ one. used configuration now number partition one channel channel.content) uses ∙ ap (used configuration now number partition Clear channel) at)
use_by configuration now number partition channel how effect senders receivers (asks_source messages uses at of is) =
    is ∙ ap (λ test. tells_channel messages (cond test channel.senders channel.receivers)) (sym of)
    ∙ sym (ap (λ one. used configuration now number partition one channel channel.content) uses ∙ ap (used configuration now number partition Ask channel) at)
use_by configuration now number partition channel how effect senders receivers (asks_destination messages uses at of there is) =
    is ∙ ap (λ test. tells_channel messages (cond test channel.senders channel.receivers)) (sym of)
    ∙ sym (ap (λ one. used configuration now number partition one channel channel.content) uses ∙ ap (used configuration now number partition Ask channel) at)

pub channel_is_the_sentence : ChannelIsTheSentence
channel_is_the_sentence configuration now number partition channel how effect senders receivers suited =
    (use_says configuration now number partition channel how channel.content effect refl senders receivers suited, use_by configuration now number partition channel how effect senders receivers)

-- messages that pass an end outside

-- what becomes of the channel and whom it wakes, if the use has this effect
turns_out : (woken : List Who) (next : Content) (one other : Effect Content) → one ≡ other → woken ≡ other.answer.woken → next ≡ other.next
    → (woken ≡ one.answer.woken) × (next ≡ one.next)
turns_out woken next one other same wakes leaves = (wakes ∙ sym (ap (λ effect. effect.answer.woken) same), leaves ∙ sym (ap (λ effect. effect.next) same))

arriving_says : (configuration : Configuration) (now number : ℕ) (message : List ℕ) (channel : Channel) (woken : List Who) (next : Content) → AreApart channel.receivers
    → (content : Content) → channel.content ≡ content → woken ≡ (used configuration now number 0 (arrival_use message content) channel content).answer.woken
    → next ≡ (used configuration now number 0 (arrival_use message content) channel content).next → IsArriving configuration now number message channel woken next
arriving_says configuration now number message channel woken next apart (Sampled last) at wakes leaves = IsArriving.is_written last at wakes leaves
arriving_says configuration now number message channel woken next apart (Queued messages) at wakes leaves =
    by (first_waiter (receiving_discipline configuration number) channel.receivers) refl wakes leaves
  where
    capacity : ℕ
    capacity = capacity_of configuration number

    by : (first : Option Entry) → first_waiter (receiving_discipline configuration number) channel.receivers ≡ first → woken ≡ (sent capacity message (pos 0) first messages).answer.woken
        → next ≡ Queued (sent capacity message (pos 0) first messages).next → IsArriving configuration now number message channel woken next
    by (Some receiver) first wakes leaves = IsArriving.first_gets_it messages receiver at (first_is (receiving_discipline configuration number) channel.receivers receiver first) wakes leaves
    by None none wakes leaves =
        let nobody = no_first (receiving_discipline configuration number) channel.receivers none apart in
        by_test (λ (effect : Effect Messages). woken ≡ effect.answer.woken → next ≡ Queued effect.next → IsArriving configuration now number message channel woken next)
        (nat_lt (length messages) capacity) (appended message messages) (not_yet (pos 0) messages)
        (λ fits wakes leaves. IsArriving.room messages at nobody (ltb-true (length messages) capacity fits) wakes leaves)
        (λ full wakes leaves. IsArriving.is_lost messages at nobody (grind arith) wakes leaves) wakes leaves

arriving_by : (configuration : Configuration) (now number : ℕ) (message : List ℕ) (channel : Channel) (woken : List Who) (next : Content) → AreApart channel.receivers
    → IsArriving configuration now number message channel woken next
    → (woken ≡ (arrived configuration now number message channel).answer.woken) × (next ≡ (arrived configuration now number message channel).next)
arriving_by configuration now number message channel woken next apart (IsArriving.is_written last at wakes leaves) =
    turns_out woken next (arrived configuration now number message channel) (effect_on Sampled (written now message))
    (ap (λ content. used configuration now number 0 (arrival_use message content) channel content) at) wakes leaves
arriving_by configuration now number message channel woken next apart (IsArriving.first_gets_it messages receiver at first wakes leaves) =
    turns_out woken next (arrived configuration now number message channel) (effect_on Queued (sent (capacity_of configuration number) message (pos 0) (Some receiver) messages))
    (ap (λ content. used configuration now number 0 (arrival_use message content) channel content) at
    ∙ ap (λ one. effect_on Queued (sent (capacity_of configuration number) message (pos 0) one messages)) (first_by (receiving_discipline configuration number) channel.receivers receiver apart first)) wakes leaves
arriving_by configuration now number message channel woken next apart (IsArriving.room messages at none fits wakes leaves) =
    let test : nat_lt (length messages) (capacity_of configuration number) ≡ true = grind arith in
    turns_out woken next (arrived configuration now number message channel) (effect_on Queued (appended message messages))
    (ap (λ content. used configuration now number 0 (arrival_use message content) channel content) at
    ∙ ap (λ one. effect_on Queued (sent (capacity_of configuration number) message (pos 0) (first_waiter (receiving_discipline configuration number) one) messages)) none
    ∙ ap (λ one. effect_on Queued (cond one (appended message messages) (not_yet (pos 0) messages))) test) wakes leaves
arriving_by configuration now number message channel woken next apart (IsArriving.is_lost messages at none full wakes leaves) =
    let test : nat_lt (length messages) (capacity_of configuration number) ≡ false = grind arith in
    turns_out woken next (arrived configuration now number message channel) (effect_on Queued (not_yet (pos 0) messages))
    (ap (λ content. used configuration now number 0 (arrival_use message content) channel content) at
    ∙ ap (λ one. effect_on Queued (sent (capacity_of configuration number) message (pos 0) (first_waiter (receiving_discipline configuration number) one) messages)) none
    ∙ ap (λ one. effect_on Queued (cond one (appended message messages) (not_yet (pos 0) messages))) test) wakes leaves

-- what a departure takes and leaves, and whom it wakes
abbrev Departs : List ℕ → List Who → Content → Effect Content → Type 0
Departs message woken next effect = IsTaken effect.answer message × (woken ≡ effect.answer.woken) × (next ≡ effect.next)

departing_says : (configuration : Configuration) (number : ℕ) (message : List ℕ) (channel : Channel) (woken : List Who) (next : Content) → AreApart channel.senders
    → (messages : Messages) → channel.content ≡ Queued messages → (first : Option Entry) → first_waiter (sending_discipline configuration number) channel.senders ≡ first
    → Departs message woken next (effect_on Queued (received (pos 0) first messages)) → IsDeparting configuration number message channel woken next
departing_says configuration number message channel woken next apart [] at first is departs =
    let no : Out.Answer Code.NotAvailable ≡ Out.Answer Code.NoError = departs.0.0 in cc
departing_says configuration number message channel woken next apart (oldest ∷ others) at None none departs =
    IsDeparting.oldest_leaves others (at ∙ ap (λ one. Queued (one ∷ others)) departs.0.1) (no_first (sending_discipline configuration number) channel.senders none apart) departs.1 departs.2
departing_says configuration number message channel woken next apart (oldest ∷ others) at (Some sender) first departs =
    IsDeparting.sender_wakes others sender (at ∙ ap (λ one. Queued (one ∷ others)) departs.0.1) (first_is (sending_discipline configuration number) channel.senders sender first) departs.1 departs.2

departing_by : (configuration : Configuration) (now number : ℕ) (message : List ℕ) (channel : Channel) (woken : List Who) (next : Content) → AreApart channel.senders
    → IsDeparting configuration number message channel woken next → Departs message woken next (departed configuration now number channel)
departing_by configuration now number message channel woken next apart (IsDeparting.oldest_leaves others at none wakes leaves) =
    subst (Departs message woken next)
    (sym (ap (used configuration now number 0 (Receive (pos 0)) channel) at
    ∙ ap (λ one. effect_on Queued (received (pos 0) (first_waiter (sending_discipline configuration number) one) (message ∷ others))) none)) ((refl, refl), wakes, leaves)
departing_by configuration now number message channel woken next apart (IsDeparting.sender_wakes others sender at first wakes leaves) =
    subst (Departs message woken next)
    (sym (ap (used configuration now number 0 (Receive (pos 0)) channel) at
    ∙ ap (λ one. effect_on Queued (received (pos 0) one (message ∷ others))) (first_by (sending_discipline configuration number) channel.senders sender apart first))) ((refl, refl), wakes, leaves)

pub crossing_is_the_sentence : CrossingIsTheSentence
crossing_is_the_sentence configuration now number message channel woken next senders receivers = (
  (λ is. arriving_says configuration now number message channel woken next receivers channel.content refl is.0 is.1, arriving_by configuration now number message channel woken next receivers),
  λ messages at. (
    λ departs. departing_says configuration number message channel woken next senders messages at (first_waiter (sending_discipline configuration number) channel.senders) refl
        (subst (Departs message woken next) (ap (used configuration now number 0 (Receive (pos 0)) channel) at) departs),
    departing_by configuration now number message channel woken next senders,
  ),
)
