-- Which processes have an entry in the set of a lock after a record: they are of its partition, and wait for the lock.
use Rattle.std.proofs.Common.{◌≡◌, ℕ, List, [], ◌∷◌, ◌++◌, true, false, nat_eq, refl, subst}
use Rattle.std.proofs.lemmas.Bool.{eqb-true}
use Rattle.apex_laws.proofs.Common.{AllEntries, AreTied, Arrive, Body, Call, CallRecord, Configuration, Depart, Disp, Entry, IsLawfulBody, IsLawfulCall, IsTiedToLock, Partition, Receivers, Ret, Senders, State, Tick}
use Rattle.apex_laws.proofs.Common.{channel_set, ends_wait, enters_lock, entry_of, has_entry_in, is_named, item_at, lock_waiters_after, partition_by, waits_for_lock, without, Error}
use Rattle.apex_laws.proofs.Booleans.{by_test, cannot_hold, holds_if}
use Rattle.apex_laws.proofs.Choices.{ready_waits_not_for_lock}
use Rattle.apex_laws.proofs.ForeignCalls.{goes_on_here}
use Rattle.apex_laws.proofs.Keeps.{calls_ready, entered_waits_for_lock, EntersLockWith, IsElsewhere, LeavesSets, keeps_waiting_for_lock, leaves, lock_set_after, ready_call, error_ends_none}
use Rattle.apex_laws.proofs.Waiters.{all_push, all_weaker, all_without, member_not}
use Rattle.apex_laws.proofs.Wakes.{arrival_wakes, departure_wakes, found, lock_awaited, lock_waits_not}

-- each entry of the set after a record of the partition
pub each_lock_entry : (Fact Then : Entry → Type 0) (place number : ℕ) (body : Body) → (IsElsewhere number body → ⊥) → ((entry : Entry) → leaves body entry.who ≡ false → Fact entry → Then entry)
    → EntersLockWith place body Then → (entries : List Entry) → AllEntries Fact entries → AllEntries Then (lock_waiters_after place body entries)
each_lock_entry Fact Then place number (Disp who) own stays entering entries all = all_weaker Fact Then (λ entry is. stays entry refl is) entries all
each_lock_entry Fact Then place number (Ret ret) own stays entering entries all = all_weaker Fact Then (λ entry is. stays entry refl is) entries all
each_lock_entry Fact Then place number (Tick woken) own stays entering entries all = all_without Fact Then (λ who. is_named who woken) stays entries all
each_lock_entry Fact Then place number (Arrive crossing) own stays entering entries all = absurd (own tt)
each_lock_entry Fact Then place number (Depart crossing) own stays entering entries all = absurd (own tt)
each_lock_entry Fact Then place number (Error report) own stays entering entries all = absurd (own tt)
each_lock_entry Fact Then place number (Call call) own stays entering entries all =
    let rest : AllEntries Then (without (ends_wait call) entries) = all_without Fact Then (ends_wait call) stays entries all in
    by_test (AllEntries Then) (enters_lock call) (without (ends_wait call) entries ++ entry_of place call ∷ []) (without (ends_wait call) entries)
    (λ here. all_push Then (without (ends_wait call) entries) (entry_of place call) rest (entering here)) (λ elsewhere. rest)

-- the partitions after a record
abbrev Next : Configuration → State → ℕ → ℕ → Body → ℕ → Partition
Next configuration state place core body number = partition_by configuration state.cores place core number body (state.partitions number)

-- an entry whose wait goes on
tied_after : (configuration : Configuration) (state : State) (place core : ℕ) (body : Body) → AreTied configuration state
    → IsLawfulBody configuration state core body → (number : ℕ) (entry : Entry) → leaves body entry.who ≡ false
    → IsTiedToLock number state.partitions entry → IsTiedToLock number (Next configuration state place core body) entry
tied_after configuration state place core body tied law number entry stays is = (
  is.0,
  subst (λ part. waits_for_lock (item_at (Next configuration state place core body part).table entry.who.proc) ≡ true) is.0
      (keeps_waiting_for_lock configuration state.cores place core body (state.partitions entry.who.part) entry.who
      (calls_ready configuration state core body tied law entry.who.part) stays (lock_awaited state.partitions number entry is)),
)

-- a caller that enters
enters_tied : (configuration : Configuration) (state : State) (place core : ℕ) (body : Body) → AreTied configuration state
    → IsLawfulBody configuration state core body → (number : ℕ) → (IsElsewhere number body → ⊥) → EntersLockWith place body (IsTiedToLock number (Next configuration state place core body))
enters_tied configuration state place core (Call call) tied law number own =
    let same : call.who.part ≡ number = eqb-true call.who.part number (holds_if (nat_eq call.who.part number) own) in
    λ here. (
      same,
      subst (λ part. waits_for_lock (item_at (Next configuration state place core (Call call) part).table call.who.proc) ≡ true) same
          (entered_waits_for_lock configuration state.cores place core call (state.partitions call.who.part) (ready_call configuration state core call tied law) here),
    )
enters_tied configuration state place core _ tied law number own = tt

-- an entry at a record of another partition
foreign_stays : (configuration : Configuration) (state : State) (place core : ℕ) (body : Body) → AreTied configuration state
    → IsLawfulBody configuration state core body → (number : ℕ) → LeavesSets configuration number body → (entry : Entry) → IsTiedToLock number state.partitions entry → leaves body entry.who ≡ false
foreign_stays configuration state place core (Call call) tied law number elsewhere entry is =
    goes_on_here configuration state core call tied law number elsewhere entry.who is.0
    (λ other of_channel also. lock_waits_not other (found state.partitions entry.who) (lock_awaited state.partitions number entry is) also)
foreign_stays configuration state place core (Arrive crossing) tied law number elsewhere entry is =
    cannot_hold (is_named entry.who crossing.woken) (λ named.
    lock_waits_not (channel_set crossing.chan Receivers) (found state.partitions entry.who) (lock_awaited state.partitions number entry is) (arrival_wakes configuration state core crossing tied law entry.who named).1)
foreign_stays configuration state place core (Depart crossing) tied law number elsewhere entry is =
    cannot_hold (is_named entry.who crossing.woken) (λ named.
    lock_waits_not (channel_set crossing.chan Senders) (found state.partitions entry.who) (lock_awaited state.partitions number entry is) (departure_wakes configuration state core crossing tied law entry.who named).1)
foreign_stays configuration state place core (Error report) tied law number elsewhere entry is =
    error_ends_none configuration core number report (state.partitions number) entry.who (calls_ready configuration state core (Error report) tied law number) elsewhere is.0
foreign_stays configuration state place core _ tied law number elsewhere entry is = absurd elsewhere

-- the set of a partition's lock
pub lock_tied : (configuration : Configuration) (state : State) (place core : ℕ) (body : Body) → AreTied configuration state
    → IsLawfulBody configuration state core body → (number : ℕ)
    → AllEntries (IsTiedToLock number (Next configuration state place core body)) (Next configuration state place core body number).lock.waiters
lock_tied configuration state place core body tied law number =
    let waiters = (state.partitions number).lock.waiters in
    let Before : Entry → Type 0 = IsTiedToLock number state.partitions in
    let Then : Entry → Type 0 = IsTiedToLock number (Next configuration state place core body) in
    lock_set_after (AllEntries Before) (AllEntries Then) configuration state.cores place core number body (state.partitions number) tt
    (λ own all. each_lock_entry Before Then place number body own (tied_after configuration state place core body tied law number)
    (enters_tied configuration state place core body tied law number own) waiters all)
    (λ elsewhere all. all_weaker Before Then
    (λ entry is. tied_after configuration state place core body tied law number entry (foreign_stays configuration state place core body tied law number elsewhere entry is) is) waiters all)
    (tied.locks number)

-- the caller of a lawful call has no entry in the set of a lock
pub caller_in_no_lock : (configuration : Configuration) (state : State) (core : ℕ) (call : CallRecord) → AreTied configuration state
    → IsLawfulCall configuration state core call → (number : ℕ) → has_entry_in call.who (state.partitions number).lock.waiters ≡ false
caller_in_no_lock configuration state core call tied law number =
    member_not (λ who. waits_for_lock (found state.partitions who) ≡ true) call.who
    (ready_waits_not_for_lock core (found state.partitions call.who) (ready_call configuration state core call tied law).ready) (state.partitions number).lock.waiters
    (all_weaker (IsTiedToLock number state.partitions) (λ entry. waits_for_lock (found state.partitions entry.who) ≡ true)
    (λ entry is. lock_awaited state.partitions number entry is) (state.partitions number).lock.waiters (tied.locks number))
