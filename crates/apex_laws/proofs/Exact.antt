-- Exactly the processes that wait in a set have an entry in it.
use Rattle.std.proofs.Common.{◌≡◌, ◌⊎◌, ℕ, zero, suc, List, [], ◌++◌, Bool, true, false, cond, nat_eq, ℤ, pos, negsuc, Option, Some, None, option_map, refl, sym, ap, subst, ◌∙◌, inl, inr, true≢false, ◌&&◌, ◌∷◌, is_some}
use Rattle.std.proofs.lemmas.Bool.{and_from, and_parts, eqb-true, eq-eqb}
use Rattle.apex_laws.proofs.Common.{AreTied, Body, Buffer, Call, CallRecord, Configuration, CoreState, Disp, End, Entry, IsLawfulBody, Mode, Ordered, Out, Partition, Process, Receivers, Request, Ret, Senders, State, Step, Table, Tick, Wait}
use Rattle.apex_laws.proofs.Common.{WaitersHaveEntries, WaitingSet, WaitsIn, Who, WhoWaitsHasEntry, adjusted, after, called, caller_after, caller_with, change_at, channel_set, cold_state, conditions_of, created_by, each_item, each_set}
use Rattle.apex_laws.proofs.Common.{ends_wait, enters, entries_at, entries_at_channel, entries_at_end, entries_in, entries_of, entry_of, entry_wait, first_core, given_object, has_entry_in, is_done, is_named, is_no_error, is_normal}
use Rattle.apex_laws.proofs.Common.{is_of_channel, is_same, is_target, is_the_set, is_waiting, item_at, message_of, natural_of, new_process, numbered, object_conditions, objects_by, objects_of, partition_by, period_of, released, is_restart}
use Rattle.apex_laws.proofs.Common.{returned, set_after, set_by, set_of, stop_of, stopped, stops, ticked, time_of, wait_of, waits_at, without, woken_by, woken_if_named}
use Rattle.apex_laws.proofs.Common.{Arrive, Depart, enters_lock, first_processes, is_of_lock, lock_left, lock_waiters_after, waits_for_lock, Error, DormantWaitNot, errors_after, handles_more, reported, waits_for_nothing}
use Rattle.apex_laws.proofs.Booleans.{by_test, cannot_hold, differs_back, either_way, first_holds, impossible, is_itself, later_holds, never_found, not_first, not_second, other_holds}
use Rattle.apex_laws.proofs.Awaited.{Awaited, awaits, begins, for_none, goes_in, is_for, lock_awaits, ready_awaits_not, set_awaits}
use Rattle.apex_laws.proofs.Dormant.{Rests}
use Rattle.apex_laws.proofs.Ends.{first_empty}
use Rattle.apex_laws.proofs.Errors.{reported_case}
use Rattle.apex_laws.proofs.Keeps.{begun_for, called_sets, called_waiters, calls_ready, CallsReady, found_changed, IsReadyCall, leaves, same_sets, same_sets_with, set_case, used_sets, error_ends_none, same_sets_reported, told_ends}
use Rattle.apex_laws.proofs.ObjectCalls.{message_there, mutex_there, object_there}
use Rattle.apex_laws.proofs.Objects.{each_set_holds, is_created_at, none_there}
use Rattle.apex_laws.proofs.Restarts.{call_case, goes_on, not_restarted, restarts_none, restarts_other, return_case, start_awaits_not, start_waits_not, waiting_goes_on, woken_table, error_case, no_restart}
use Rattle.apex_laws.proofs.SetNames.{channel_set_is, has_end}
use Rattle.apex_laws.proofs.Stays.{run_keeps}
use Rattle.apex_laws.proofs.Tables.{at_each, found_after}
use Rattle.apex_laws.proofs.WaitersOf.{same_is, same_itself, same_who}
use Rattle.apex_laws.proofs.Wakes.{entering_is_the_sentence, found}

-- Who waits in a set after a record: who waited there and whose wait the record doesn't end, or the caller that enters.

-- what a call sets in a process makes it wait in no set

-- who waits in a set afterwards waited in it before
abbrev WaitedBefore : Awaited → Process → Process → Type 0
WaitedBefore wanted x y = awaits wanted (Some y) ≡ true → awaits wanted (Some x) ≡ true

entry_not : (wanted : Awaited) (period now delay : ℕ) (own : Option ℕ) → is_for wanted (entry_wait period now delay own) ≡ true → ⊥
entry_not (Awaited.TheSet wanted) period now zero None is = true≢false (sym is)
entry_not (Awaited.TheSet wanted) period now (suc delay) None is = true≢false (sym is)
entry_not (Awaited.TheSet wanted) period now delay (Some own) is = true≢false (sym is)
entry_not Awaited.TheLock period now zero None is = true≢false (sym is)
entry_not Awaited.TheLock period now (suc delay) None is = true≢false (sym is)
entry_not Awaited.TheLock period now delay (Some own) is = true≢false (sym is)

start_not : (wanted : Awaited) (normal : Bool) (period now : ℕ) (delay : ℤ) (own : Option ℕ)
    → is_for wanted (cond normal (entry_wait period now (natural_of delay) own) (Wait.NormalMode delay)) ≡ true → ⊥
start_not wanted true period now delay own is = entry_not wanted period now (natural_of delay) own is
start_not (Awaited.TheSet wanted) false period now delay own is = true≢false (sym is)
start_not Awaited.TheLock false period now delay own is = true≢false (sym is)

-- a handler that starts waits for nothing
rests_not : (wanted : Awaited) (x : Process) → Rests x → x.alive ≡ false → is_for wanted x.wait ≡ true → ⊥
rests_not wanted x rests was waits = true≢false (sym waits ∙ for_none wanted x.wait (ap waits_for_nothing (rests was)))

set_back : (place period : ℕ) (cores : List CoreState) (partition : Partition) (caller : ℕ) (asked : Request) (number : ℕ) (x : Process) (wanted : Awaited)
    → Rests x → WaitedBefore wanted x (set_by place period cores partition caller asked number x)
set_back place period cores partition caller asked number x wanted rests =
    set_case (WaitedBefore wanted x) place period cores partition caller asked number x (λ affinity current retained position faulted suspended waits. waits)
    (λ now delay waits. absurd (start_not wanted (is_normal partition.mode) period now delay x.period waits))
    (λ entering now delay waits. absurd (entry_not wanted period now delay x.period (and_parts x.alive (is_for wanted (entry_wait period now delay x.period)) waits).1))
    (λ handler was waits. absurd (rests_not wanted x rests was waits))

adjusted_back : (place period : ℕ) (cores : List CoreState) (partition : Partition) (call : CallRecord) (number : ℕ) (x : Process) (wanted : Awaited)
    → Rests x → WaitedBefore wanted x (adjusted place period cores partition call number x)
adjusted_back place period cores partition call number x wanted rests =
    by_test (WaitedBefore wanted x) (is_done call.claim.out) (set_by place period cores partition call.who.proc call.request number x) x
    (λ done. set_back place period cores partition call.who.proc call.request number x wanted rests) (λ not_done waits. waits)

-- a wait that ended

ended_not : (wanted : Awaited) (alive : Bool) → (alive && is_for wanted Wait.Nothing) ≡ true → ⊥
ended_not wanted alive waits = true≢false (sym (and_parts alive (is_for wanted Wait.Nothing) waits).1 ∙ for_none wanted Wait.Nothing refl)

still_waits : (wanted : Awaited) (named : Bool) (ended x : Process) → (awaits wanted (Some ended) ≡ true → ⊥) → awaits wanted (Some (cond named ended x)) ≡ true
    → (named ≡ false) × (awaits wanted (Some x) ≡ true)
still_waits wanted true ended x not waits = absurd (not waits)
still_waits wanted false ended x not waits = (refl, waits)

-- a process that a record may have woken, and still waits
woken_if_named_back : (place : ℕ) (message : List ℕ) (woken : List Who) (who : Who) (x : Process) (wanted : Awaited) → awaits wanted (Some (woken_if_named place message woken who x)) ≡ true
    → (is_named who woken ≡ false) × (awaits wanted (Some x) ≡ true)
woken_if_named_back place message woken who x wanted waits = still_waits wanted (is_named who woken) (woken_by place message x) x (ended_not wanted x.alive) waits

-- a process that a tick may have woken, and still waits
ticked_back : (place part : ℕ) (woken : List Who) (number : ℕ) (x : Process) (wanted : Awaited) → awaits wanted (Some (ticked place part woken number x)) ≡ true
    → (is_named (record { part = part; proc = number }) woken ≡ false) × (awaits wanted (Some x) ≡ true)
ticked_back place part woken number x wanted waits = still_waits wanted (is_named (record { part = part; proc = number }) woken) (released place x) x (ended_not wanted x.alive) waits

-- the caller

caller_back : (place now : ℕ) (more : Bool) (call : CallRecord) (x : Process) (wanted : Awaited) (given : Out) → (awaits wanted (Some x) ≡ true → ⊥)
    → awaits wanted (Some (record (cond more x (caller_with place now call given x)) { called_at = now })) ≡ true → (is_waiting given ≡ true) × (begins wanted call.request call.claim.chan ≡ true)
caller_back place now true call x wanted given not waits = absurd (not waits)
caller_back place now false call x wanted Out.Waits not waits =
    (refl, sym (begun_for wanted call.request call.claim.chan now x) ∙ (and_parts x.alive (is_for wanted (wait_of call.request call.claim.chan now x)) waits).1)
caller_back place now false call x wanted Out.Never not waits = impossible waits
caller_back place now false call x wanted (Out.Answer code) not waits = absurd (not waits)

-- a process of the caller's partition
called_back : (place now period : ℕ) (cores : List CoreState) (partition : Partition) (call : CallRecord) (number : ℕ) (x : Process) (wanted : Awaited) → Rests x → is_restart call ≡ false
    → awaits wanted (Some (called place now period cores partition call number x)) ≡ true
    → ((nat_eq number call.who.proc ≡ true) × (awaits wanted (Some (caller_after place now (handles_more partition call.who.proc call.request) call (adjusted place period cores partition call number x))) ≡ true))
    ⊎ ((ends_wait call (record { part = call.who.part; proc = number }) ≡ false) × (awaits wanted (Some x) ≡ true))
called_back place now period cores partition call number x wanted rests none waits =
    let more = handles_more partition call.who.proc call.request in
    let changed = adjusted place period cores partition call number x in
    let who : Who = record { part = call.who.part; proc = number } in
    let Fact : Type 0 = ((nat_eq number call.who.proc ≡ true) × (awaits wanted (Some (caller_after place now more call changed)) ≡ true))
    ⊎ ((ends_wait call who ≡ false) × (awaits wanted (Some x) ≡ true)) in
    by_test (λ y. awaits wanted (Some y) ≡ true → Fact) (nat_eq number call.who.proc) (caller_after place now more call changed) (cond (stops call who) (stopped changed) (woken_if_named place (message_of call.request) call.claim.woken who changed))
    (λ own waits. inl (own, waits))
    (λ other. by_test (λ y. awaits wanted (Some y) ≡ true → Fact) (stops call who) (stopped changed) (woken_if_named place (message_of call.request) call.claim.woken who changed) (λ passed waits. impossible waits)
    (λ stays waits. (let back = woken_if_named_back place (message_of call.request) call.claim.woken who changed wanted waits in
    inr (goes_on call who (restarts_none call call.who.part none) back.0 stays, adjusted_back place period cores partition call number x wanted rests back.1)))) waits

-- a created process doesn't wait
numbered_not : (claimed : Option ℤ) (core : ℕ) (name : List ℕ) (priority period time_capacity : ℤ) (number : ℕ) (wanted : Awaited) → awaits wanted (item_at (numbered claimed (new_process core name priority period time_capacity)) number) ≡ true → ⊥
numbered_not None core name priority period time_capacity number wanted waits = true≢false (sym waits)
numbered_not (Some (negsuc n)) core name priority period time_capacity number wanted waits = true≢false (sym waits)
numbered_not (Some (pos n)) core name priority period time_capacity number wanted waits =
    by_test (λ found. awaits wanted found ≡ true → ⊥) (nat_eq number n) (Some (new_process core name priority period time_capacity)) None
    (λ here waits. true≢false (sym waits)) (λ elsewhere waits. true≢false (sym waits)) waits

created_not : (core : ℕ) (call : CallRecord) (asked : Request) (number : ℕ) (wanted : Awaited) → awaits wanted (item_at (created_by core call asked) number) ≡ true → ⊥
created_not core call (Request.CreateProcess name priority period time_capacity) number wanted waits =
    by_test (λ more. awaits wanted (item_at more number) ≡ true → ⊥) (is_done call.claim.out) (numbered call.claim.val (new_process core name priority period time_capacity)) []
    (λ done waits. numbered_not call.claim.val core name priority period time_capacity number wanted waits) (λ not_done waits. true≢false (sym waits)) waits
created_not core call _ number wanted waits = true≢false (sym waits)

-- the tables

-- a process of a changed table is one that was in the table
each_back : (Fact : Type 0) (change : ℕ → Process → Process) (table : Table) (number : ℕ) (wanted : Awaited)
    → ((x : Process) → item_at table number ≡ Some x → awaits wanted (Some (change number x)) ≡ true → Fact)
    → awaits wanted (item_at (each_item change table) number) ≡ true → Fact
each_back Fact change table number wanted fact waits =
    by (item_at table number) refl (subst (λ one. awaits wanted one ≡ true) (at_each change table number) waits)
  where
    by : (one : Option Process) → item_at table number ≡ one → awaits wanted (option_map (change number) one) ≡ true → Fact
    by None at waits = impossible waits
    by (Some x) at waits = fact x at waits

-- and one of a longer table too, if none that was added waits
longer_back : (Fact : Type 0) (change : ℕ → Process → Process) (table more : Table) (number : ℕ) (wanted : Awaited)
    → ((x : Process) → item_at table number ≡ Some x → awaits wanted (Some (change number x)) ≡ true → Fact) → (awaits wanted (item_at more number) ≡ true → ⊥)
    → awaits wanted (item_at (each_item change table ++ more) number) ≡ true → Fact
longer_back Fact change table more number wanted fact added waits = by (item_at table number) refl
  where
    by : (one : Option Process) → item_at table number ≡ one → Fact
    by None at = absurd (added (subst (λ one. awaits wanted one ≡ true)
        (found_after (each_item change table) more number (at_each change table number ∙ ap (option_map (change number)) at)) waits))
    by (Some x) at = fact x at (subst (λ one. awaits wanted one ≡ true) (found_changed change table more number x at) waits)

-- a call stops no process of another partition
pub not_stopped : (call : CallRecord) (who : Who) → nat_eq call.who.part who.part ≡ false → stops call who ≡ false
not_stopped call who elsewhere =
    not_second (is_no_error call.claim.out) (nat_eq who.part call.who.part && is_target (stop_of call.request) who.proc)
    (not_first (nat_eq who.part call.who.part) (is_target (stop_of call.request) who.proc) (differs_back call.who.part who.part elsewhere))

-- a caller that enters a set
abbrev pub Entering : Body → Who → Awaited → Type 0
Entering (Call call) who wanted = (who ≡ call.who) × (goes_in wanted call ≡ true)
Entering _ who wanted = ⊥

-- who waits after a record of others waited before, and is not named
waits_after : (place : ℕ) (message : List ℕ) (woken : List Who) (table : Table) (who : Who) (wanted : Awaited)
    → awaits wanted (item_at (woken_table place who.part message woken table) who.proc) ≡ true
    → ((is_named who woken ≡ false) × (awaits wanted (item_at table who.proc) ≡ true)) ⊎ ⊥
waits_after place message woken table who wanted waits =
    each_back (((is_named who woken ≡ false) × (awaits wanted (item_at table who.proc) ≡ true)) ⊎ ⊥)
    (λ other process. woken_if_named place message woken (record { part = who.part; proc = other }) process) table who.proc wanted
    (λ x at waits. (let back = woken_if_named_back place message woken who x wanted waits in inl (back.0, subst (λ one. awaits wanted one ≡ true) (sym at) back.1))) waits

-- who waits in a set after a record waited there and goes on, or enters, if the record's own calls are of ready callers
pub who_waits : (configuration : Configuration) (cores : List CoreState) (place core : ℕ) (body : Body) (partition : Partition) (who : Who) (wanted : Awaited)
    → CallsReady configuration core who.part body partition → DormantWaitNot partition.table
    → awaits wanted (item_at (partition_by configuration cores place core who.part body partition).table who.proc) ≡ true
    → ((leaves body who ≡ false) × (awaits wanted (item_at partition.table who.proc) ≡ true)) ⊎ Entering body who wanted
who_waits configuration cores place core (Disp one) partition who wanted ready rest waits = inl (refl, waits)
who_waits configuration cores place core (Tick woken) partition who wanted ready rest waits =
    each_back _ (ticked place who.part woken) partition.table who.proc wanted
    (λ x at waits. (let back = ticked_back place who.part woken who.proc x wanted waits in inl (back.0, subst (λ one. awaits wanted one ≡ true) (sym at) back.1))) waits
who_waits configuration cores place core (Ret ret) partition who wanted ready rest waits =
    let Fact : Type 0 = ((false ≡ false) × (awaits wanted (item_at partition.table who.proc) ≡ true)) ⊎ ⊥ in
    return_case (λ next. awaits wanted (item_at next.table who.proc) ≡ true → Fact) configuration cores place core who.part ret partition
    (λ waits. each_back Fact (returned ret.who.proc) partition.table who.proc wanted
    (λ x at waits. inl (refl, subst (λ one. awaits wanted one ≡ true) (sym at) (by_test (WaitedBefore wanted x) (nat_eq who.proc ret.who.proc) (record x { due = None }) x (λ own waits. waits) (λ other waits. waits) waits))) waits)
    (λ waits. inl (refl, waits)) waits
who_waits configuration cores place core (Arrive crossing) partition who wanted ready rest waits =
    waits_after place crossing.message crossing.woken partition.table who wanted waits
who_waits configuration cores place core (Depart crossing) partition who wanted ready rest waits = waits_after place [] crossing.woken partition.table who wanted waits
who_waits configuration cores place core (Error report) partition who wanted ready rest waits =
    let Fact : Type 0 = ((leaves (Error report) who ≡ false) × (awaits wanted (item_at partition.table who.proc) ≡ true)) ⊎ ⊥ in
    error_case (λ next. awaits wanted (item_at next.table who.proc) ≡ true → Fact) configuration cores place core who.part report partition
    (λ own none waits. each_back Fact (reported place partition report) partition.table who.proc wanted
    (λ x at waits. inl (
      error_ends_none configuration core who.part report partition who ready (inr none) refl,
      subst (λ one. awaits wanted one ≡ true) (sym at)
          (reported_case (WaitedBefore wanted x) place partition report who.proc x (λ deadline faulted waits. waits)
          (λ handler deadline was waits. absurd (rests_not wanted x (rest who.proc x at) was waits)) waits),
    )) waits)
    (λ own restart is waits. absurd (start_awaits_not restart.mode (first_core configuration report.who.part) place who.proc wanted waits))
    (λ elsewhere waits. inl (error_ends_none configuration core who.part report partition who ready (inl elsewhere) refl, waits)) waits
who_waits configuration cores place core (Call call) partition who wanted ready rest waits =
    let Fact : Type 0 = ((ends_wait call who ≡ false) × (awaits wanted (item_at partition.table who.proc) ≡ true)) ⊎ ((who ≡ call.who) × (goes_in wanted call ≡ true)) in
    let table = partition.table in
    let now = time_of cores core in
    let period = period_of configuration call.who.part in
    let added = created_by (first_core configuration call.who.part) call call.request in
    call_case (λ next. awaits wanted (item_at next.table who.proc) ≡ true → Fact) configuration cores place core who.part call partition
    (λ own none in_table.
    (let here : call.who.part ≡ who.part = eqb-true call.who.part who.part own in
    let goes_on_here : is_restart call ≡ false = cannot_hold (is_restart call) (λ is. never_found (sym none ∙ ((ready own).anew is).1)) in
    let same : record { part = call.who.part; proc = who.proc } ≡ who = same_who (record { part = call.who.part; proc = who.proc }) who here refl in
    longer_back Fact (called place now period cores partition call) table added who.proc wanted
    (λ x at waits. elim (called_back place now period cores partition call who.proc x wanted (rest who.proc x at) goes_on_here waits) [
      | inl caller ↦
          let number : who.proc ≡ call.who.proc = eqb-true who.proc call.who.proc caller.0 in
          let begun = caller_back place now (handles_more partition call.who.proc call.request) call (adjusted place period cores partition call who.proc x) wanted call.claim.out
          (λ waits. ready_awaits_not core (item_at table call.who.proc) wanted (ready own).ready
          (subst (λ one. awaits wanted one ≡ true) (sym at ∙ ap (item_at table) number) (adjusted_back place period cores partition call who.proc x wanted (rest who.proc x at) waits))) caller.1 in
          inr (same_who who call.who (sym here) number, and_from _ _ begun.0 begun.1)
      | inr other ↦ inl (subst (λ one. ends_wait call one ≡ false) same other.0, subst (λ one. awaits wanted one ≡ true) (sym at) other.1)
    ])
    (λ new. created_not (first_core configuration call.who.part) call call.request who.proc wanted new) in_table))
    (λ own restart is in_table. absurd (start_awaits_not restart.mode (first_core configuration call.who.part) place who.proc wanted in_table))
    (λ elsewhere in_table. each_back Fact _ table who.proc wanted
    (λ x at waits. (let back = woken_if_named_back place (message_of call.request) call.claim.woken who x wanted waits in
    let stays : stops call who ≡ false = not_stopped call who elsewhere in
    inl (goes_on call who (restarts_other call who.part (differs_back call.who.part who.part elsewhere)) back.0 stays, subst (λ one. awaits wanted one ≡ true) (sym at) back.1))) in_table) waits

-- so it is with the sets
set_waits : (configuration : Configuration) (cores : List CoreState) (place core : ℕ) (body : Body) (partition : Partition) (who : Who) (wanted : WaitingSet)
    → CallsReady configuration core who.part body partition → DormantWaitNot partition.table
    → waits_at wanted (item_at (partition_by configuration cores place core who.part body partition).table who.proc) ≡ true
    → ((leaves body who ≡ false) × (waits_at wanted (item_at partition.table who.proc) ≡ true)) ⊎ Entering body who (Awaited.TheSet wanted)
set_waits configuration cores place core body partition who wanted ready rest waits =
    elim (who_waits configuration cores place core body partition who (Awaited.TheSet wanted) ready rest
    (set_awaits wanted (item_at (partition_by configuration cores place core who.part body partition).table who.proc) ∙ waits)) [
      | inl goes ↦ inl (goes.0, sym (set_awaits wanted (item_at partition.table who.proc)) ∙ goes.1)
      | inr enters ↦ inr enters
    ]

-- Every process that waits in a set has an entry in it.

-- which processes have an entry in a set after a record

has_entry_without : (leaves : Who → Bool) (who : Who) (entries : List Entry) → leaves who ≡ false → has_entry_in who entries ≡ true → has_entry_in who (without leaves entries) ≡ true
has_entry_without leaves who [] stays is_member = is_member
has_entry_without leaves who (entry ∷ entries) stays is_member =
    either_way (is_same who entry.who)
    (λ same. (let one : leaves entry.who ≡ false = subst (λ one. leaves one ≡ false) (same_is who entry.who same) stays in
    rw one (first_holds (is_same who entry.who) (has_entry_in who (without leaves entries)) same)))
    (λ differs. (let rest = has_entry_without leaves who entries stays (other_holds (is_same who entry.who) (has_entry_in who entries) is_member differs) in
    by_test (λ kept. has_entry_in who kept ≡ true) (leaves entry.who) (without leaves entries) (entry ∷ without leaves entries)
    (λ goes. rest) (λ stays. later_holds (is_same who entry.who) (has_entry_in who (without leaves entries)) rest)))

has_entry_in_front : (who : Who) (entries more : List Entry) → has_entry_in who entries ≡ true → has_entry_in who (entries ++ more) ≡ true
has_entry_in_front who [] more is_member = impossible is_member
has_entry_in_front who (entry ∷ entries) more is_member =
    either_way (is_same who entry.who) (λ same. first_holds (is_same who entry.who) (has_entry_in who (entries ++ more)) same)
    (λ differs. later_holds (is_same who entry.who) (has_entry_in who (entries ++ more))
    (has_entry_in_front who entries more (other_holds (is_same who entry.who) (has_entry_in who entries) is_member differs)))

has_entry_last : (entry : Entry) (entries : List Entry) → has_entry_in entry.who (entries ++ entry ∷ []) ≡ true
has_entry_last entry [] = first_holds (is_same entry.who entry.who) false (same_itself entry.who)
has_entry_last entry (other ∷ entries) = later_holds (is_same entry.who other.who) (has_entry_in entry.who (entries ++ entry ∷ [])) (has_entry_last entry entries)

-- whose wait goes on stays
set_keeps : (place : ℕ) (body : Body) (who : Who) (wanted : WaitingSet) (entries : List Entry) → leaves body who ≡ false → has_entry_in who entries ≡ true → has_entry_in who (set_after place body wanted entries) ≡ true
set_keeps place (Disp one) who wanted entries stays is_member = is_member
set_keeps place (Ret ret) who wanted entries stays is_member = is_member
set_keeps place (Tick woken) who wanted entries stays is_member = has_entry_without (λ who. is_named who woken) who entries stays is_member
set_keeps place (Arrive crossing) who wanted entries stays is_member = has_entry_without (λ who. is_named who crossing.woken) who entries stays is_member
set_keeps place (Depart crossing) who wanted entries stays is_member = has_entry_without (λ who. is_named who crossing.woken) who entries stays is_member
set_keeps place (Error report) who wanted entries stays is_member =
    by_test (λ kept. has_entry_in who kept ≡ true) report.restarts (without (λ one. nat_eq one.part report.who.part) entries) entries
    (λ restarts. has_entry_without (λ one. nat_eq one.part report.who.part) who entries (subst (λ test. (test && nat_eq who.part report.who.part) ≡ false) restarts stays) is_member)
    (λ goes_on. is_member)
set_keeps place (Call call) who wanted entries stays is_member =
    let rest = has_entry_without (ends_wait call) who entries stays is_member in
    by_test (λ kept. has_entry_in who kept ≡ true) (enters call wanted) (without (ends_wait call) entries ++ entry_of place call ∷ []) (without (ends_wait call) entries)
    (λ here. has_entry_in_front who (without (ends_wait call) entries) (entry_of place call ∷ []) rest) (λ elsewhere. rest)

-- a caller that enters has an entry there
set_takes : (place : ℕ) (call : CallRecord) (wanted : WaitingSet) (entries : List Entry) → enters call wanted ≡ true → has_entry_in call.who (set_after place (Call call) wanted entries) ≡ true
set_takes place call wanted entries here = rw here (has_entry_last (entry_of place call) (without (ends_wait call) entries))

entering_has_entry : (place : ℕ) (body : Body) (who : Who) (wanted : WaitingSet) (entries : List Entry) → Entering body who (Awaited.TheSet wanted) → has_entry_in who (set_after place body wanted entries) ≡ true
entering_has_entry place (Call call) who wanted entries is =
    subst (λ one. has_entry_in one (set_after place (Call call) wanted entries) ≡ true) (sym is.0) (set_takes place call wanted entries is.1)
entering_has_entry place (Disp one) who wanted entries is = absurd is
entering_has_entry place _ who wanted entries is = absurd is

-- the sets of a partition

there_if : {Object : Type 0} (who : Who) (entries_of : Object → List Entry) (found : Option Object) → has_entry_in who (entries_in entries_of found) ≡ true → is_some found ≡ true
there_if who entries_of None is_member = impossible is_member
there_if who entries_of (Some object) is_member = refl

-- the object of a set in which a process has an entry is created
waiting_there : (who : Who) (partition : Partition) (wanted : WaitingSet) → has_entry_in who (entries_at partition wanted) ≡ true → is_created_at partition wanted ≡ true
waiting_there who partition wanted is_member =
    either_way (has_end wanted.kind wanted.end)
    (λ there. rw there (there_if who (entries_at_end wanted.kind wanted.end) (item_at (objects_of partition wanted.kind) wanted.number) is_member))
    (λ none. absurd (true≢false (sym is_member ∙ ap (has_entry_in who) (none_there wanted.kind wanted.end (item_at (objects_of partition wanted.kind) wanted.number) none))))

each_has_entry : (who : Who) (change : WaitingSet → List Entry → List Entry) (partition : Partition) (wanted : WaitingSet) → is_created_at partition wanted ≡ true
    → has_entry_in who (change wanted (entries_at partition wanted)) ≡ true → has_entry_in who (entries_at (each_set change partition) wanted) ≡ true
each_has_entry who change partition wanted there is_member =
    each_set_holds (λ entries. has_entry_in who entries ≡ true) change partition wanted (λ absent empty. absurd (true≢false (sym there ∙ absent))) is_member

-- the object at which a caller waits is created

mapped : {Object : Type 0} (change : Object → Object) (found : Option Object) → is_some found ≡ true → is_some (option_map change found) ≡ true
mapped change None there = impossible there
mapped change (Some object) there = refl

given_there : {Object : Type 0} (objects : List (ℕ × Object)) (given : ℤ) (found : Object) → given_object objects given ≡ Some found → is_some (item_at objects (natural_of given)) ≡ true
given_there objects (pos number) found at = ap is_some at
given_there objects (negsuc n) found at = cc

changed_there : {Object : Type 0} (objects : List (ℕ × Object)) (given : ℤ) (found : Object) (change : Object → Object) → given_object objects given ≡ Some found
    → is_some (item_at (change_at (natural_of given) change objects) (natural_of given)) ≡ true
changed_there {Object} objects given found change at =
    ap is_some (at_each (λ other (object : Object). cond (nat_eq other (natural_of given)) (change object) object) objects (natural_of given))
    ∙ mapped (λ (object : Object). cond (nat_eq (natural_of given) (natural_of given)) (change object) object) (item_at objects (natural_of given)) (given_there objects given found at)

used_there : {Object : Type 0} (who : Who) (partition : Partition) (objects : List (ℕ × Object)) (given time_out : ℤ) (change : Object → Object)
    → object_conditions who partition (given_object objects given) time_out ≡ [] → is_some (item_at (change_at (natural_of given) change objects) (natural_of given)) ≡ true
used_there who partition objects given time_out change none =
    let there = object_there who partition (given_object objects given) time_out none in changed_there objects given there.0 change there.1

waits_there : (configuration : Configuration) (now : ℕ) (who : Who) (claimed : Option ℤ) {asked : Request} {chan : Option ℕ} {wanted : WaitingSet} (partition : Partition) → WaitsIn asked chan wanted
    → is_of_channel wanted ≡ false → conditions_of configuration now who partition asked ≡ [] → is_created_at (objects_by configuration who claimed asked partition) wanted ≡ true
waits_there configuration now who claimed partition (WaitsIn.sends_to_buffer {buffer = buffer} {length = length}) off none =
    let there = message_there (λ (found : Buffer). found.size) (given_object partition.buffers buffer) length (first_empty _ _ (first_empty _ _ none)) in
    changed_there partition.buffers buffer there.0 _ there.1
waits_there configuration now who claimed partition (WaitsIn.receives_from_buffer {buffer = buffer} {time_out = time_out}) off none = used_there who partition partition.buffers buffer time_out _ none
waits_there configuration now who claimed partition (WaitsIn.reads_blackboard {blackboard = blackboard} {time_out = time_out}) off none = used_there who partition partition.blackboards blackboard time_out _ none
waits_there configuration now who claimed partition (WaitsIn.waits_for_semaphore {semaphore = semaphore} {time_out = time_out}) off none = used_there who partition partition.semaphores semaphore time_out _ none
waits_there configuration now who claimed partition (WaitsIn.waits_for_event {event = event} {time_out = time_out}) off none = used_there who partition partition.events event time_out _ none
waits_there configuration now who claimed partition (WaitsIn.acquires_mutex {mutex = mutex} {time_out = time_out}) off none =
    let there = mutex_there who partition mutex time_out none in changed_there partition.mutexes mutex there.0 _ there.1
waits_there configuration now who claimed partition _ off none = impossible (sym off)

waiting_is_done : (given : Out) → is_waiting given ≡ true → is_done given ≡ true
waiting_is_done Out.Waits is = refl
waiting_is_done Out.Never is = refl
waiting_is_done (Out.Answer code) is = impossible is

-- a caller that enters a set of its partition
own_takes : (configuration : Configuration) (cores : List CoreState) (place core : ℕ) (call : CallRecord) (partition : Partition) → IsReadyCall configuration partition core call → (wanted : WaitingSet)
    → is_of_channel wanted ≡ false → enters call wanted ≡ true
    → has_entry_in call.who (entries_at (partition_by configuration cores place core call.who.part (Call call) partition) wanted) ≡ true
own_takes configuration cores place core call partition ready wanted off here =
    let parts = and_parts (is_waiting call.claim.out) (is_the_set wanted (set_of call.request call.claim.chan)) here in
    let done = waiting_is_done call.claim.out parts.0 in
    let objects : Partition = cond (is_done call.claim.out) (objects_by configuration call.who call.claim.val call.request partition) partition in
    let there : is_created_at objects wanted ≡ true = rw done
    (waits_there configuration ready.now call.who call.claim.val partition ((entering_is_the_sentence call wanted).0 here).1 off (ready.none done)) in
    rw (is_itself call.who.part, no_restart configuration call (waiting_goes_on call parts.0)) (subst (λ entries. has_entry_in call.who entries ≡ true) (sym (called_sets configuration cores place core call partition wanted))
    (each_has_entry call.who (set_after place (Call call)) objects wanted there (set_takes place call wanted (entries_at objects wanted) here)))

-- a process that waits in a set of a partition's object after a record has an entry in it, if the record's own calls are of ready callers
pub object_has_entry : (configuration : Configuration) (cores : List CoreState) (place core : ℕ) (body : Body) (partition : Partition) (who : Who) (wanted : WaitingSet)
    → CallsReady configuration core who.part body partition → DormantWaitNot partition.table → is_of_channel wanted ≡ false
    → (waits_at wanted (item_at partition.table who.proc) ≡ true → has_entry_in who (entries_at partition wanted) ≡ true)
    → waits_at wanted (item_at (partition_by configuration cores place core who.part body partition).table who.proc) ≡ true
    → has_entry_in who (entries_at (partition_by configuration cores place core who.part body partition) wanted) ≡ true
object_has_entry configuration cores place core body partition who wanted ready rest off before waits =
    elim (set_waits configuration cores place core body partition who wanted ready rest waits) [
      | inl goes ↦ stays body goes.0 (before goes.1)
      | inr enters ↦ entered body ready enters
    ]
  where
    Has : Partition → Type 0
    Has next = has_entry_in who (entries_at next wanted) ≡ true

    stays : (body : Body) → leaves body who ≡ false → Has partition → Has (partition_by configuration cores place core who.part body partition)
    stays (Disp one) goes has = has
    stays (Ret ret) goes has =
        return_case Has configuration cores place core who.part ret partition
        (subst (λ entries. has_entry_in who entries ≡ true) (sym (same_sets partition (each_item (returned ret.who.proc) partition.table) wanted)) has) has
    stays (Tick woken) goes has =
        subst (λ entries. has_entry_in who entries ≡ true) (sym (same_sets_with (each_set (set_after place (Tick woken)) partition) (lock_left place (Tick woken) partition.lock) (each_item (ticked place who.part woken) partition.table) wanted))
        (each_has_entry who (set_after place (Tick woken)) partition wanted (waiting_there who partition wanted has) (set_keeps place (Tick woken) who wanted (entries_at partition wanted) goes has))
    stays (Arrive crossing) goes has =
        subst (λ entries. has_entry_in who entries ≡ true) (sym (same_sets partition (woken_table place who.part crossing.message crossing.woken partition.table) wanted)) has
    stays (Depart crossing) goes has =
        subst (λ entries. has_entry_in who entries ≡ true) (sym (same_sets partition (woken_table place who.part [] crossing.woken partition.table) wanted)) has
    stays (Error report) goes has =
        error_case Has configuration cores place core who.part report partition
        (λ own none. subst (λ entries. has_entry_in who entries ≡ true)
        (sym (same_sets_reported partition (errors_after partition report) (each_item (reported place partition report) partition.table) wanted)) has)
        (λ own restart is. absurd (told_ends configuration report who restart is own goes)) (λ elsewhere. has)
    stays (Call call) goes has =
        let objects : Partition = cond (is_done call.claim.out) (objects_by configuration call.who call.claim.val call.request partition) partition in
        let used = used_sets (λ entries. has_entry_in who entries ≡ true) configuration call partition wanted has in
        call_case Has configuration cores place core who.part call partition
        (λ own none. subst (λ entries. has_entry_in who entries ≡ true) (sym (called_sets configuration cores place core call partition wanted))
        (each_has_entry who (set_after place (Call call)) objects wanted (waiting_there who objects wanted used) (set_keeps place (Call call) who wanted (entries_at objects wanted) goes used)))
        (λ own restart is. never_found (sym (no_restart configuration call (not_restarted call who (sym (eqb-true call.who.part who.part own)) goes)) ∙ is))
        (λ elsewhere. subst (λ entries. has_entry_in who entries ≡ true) (sym (same_sets partition (woken_table place who.part (message_of call.request) call.claim.woken partition.table) wanted)) has)

    entered : (body : Body) → CallsReady configuration core who.part body partition → Entering body who (Awaited.TheSet wanted) → Has (partition_by configuration cores place core who.part body partition)
    entered (Call call) ready entering =
        let own : nat_eq call.who.part who.part ≡ true = eq-eqb call.who.part who.part (ap (λ one. one.part) (sym entering.0)) in
        subst (λ one. has_entry_in one (entries_at (partition_by configuration cores place core one.part (Call call) partition) wanted) ≡ true) (sym entering.0)
        (own_takes configuration cores place core call partition (ready own) wanted off entering.1)
    entered (Disp one) ready enters = absurd enters
    entered _ ready enters = absurd enters

-- the lock

-- whose wait goes on stays
lock_keeps : (place : ℕ) (call : CallRecord) (who : Who) (entries : List Entry) → ends_wait call who ≡ false → has_entry_in who entries ≡ true
    → has_entry_in who (lock_waiters_after place (Call call) entries) ≡ true
lock_keeps place call who entries stays is_member =
    let rest = has_entry_without (ends_wait call) who entries stays is_member in
    by_test (λ kept. has_entry_in who kept ≡ true) (enters_lock call) (without (ends_wait call) entries ++ entry_of place call ∷ []) (without (ends_wait call) entries)
    (λ here. has_entry_in_front who (without (ends_wait call) entries) (entry_of place call ∷ []) rest) (λ elsewhere. rest)

-- a caller that enters
lock_takes : (configuration : Configuration) (cores : List CoreState) (place core : ℕ) (call : CallRecord) (partition : Partition) → enters_lock call ≡ true
    → has_entry_in call.who (partition_by configuration cores place core call.who.part (Call call) partition).lock.waiters ≡ true
lock_takes configuration cores place core call partition here =
    let parts = and_parts (is_waiting call.claim.out) (is_of_lock call.request) here in
    let taken : has_entry_in call.who (lock_waiters_after place (Call call) partition.lock.waiters) ≡ true =
    rw here (has_entry_last (entry_of place call) (without (ends_wait call) partition.lock.waiters)) in
    rw (is_itself call.who.part, no_restart configuration call (waiting_goes_on call parts.0)) (subst (λ entries. has_entry_in call.who entries ≡ true) (sym (called_waiters place call partition.lock)) taken)

-- a process that waits for the lock of its partition after a record has an entry in its set, if the record's own calls are of ready callers
pub lock_has_entry : (configuration : Configuration) (cores : List CoreState) (place core : ℕ) (body : Body) (partition : Partition) (who : Who)
    → CallsReady configuration core who.part body partition → DormantWaitNot partition.table
    → (waits_for_lock (item_at partition.table who.proc) ≡ true → has_entry_in who partition.lock.waiters ≡ true)
    → waits_for_lock (item_at (partition_by configuration cores place core who.part body partition).table who.proc) ≡ true
    → has_entry_in who (partition_by configuration cores place core who.part body partition).lock.waiters ≡ true
lock_has_entry configuration cores place core body partition who ready rest before waits =
    elim (who_waits configuration cores place core body partition who Awaited.TheLock ready rest
    (lock_awaits (item_at (partition_by configuration cores place core who.part body partition).table who.proc) ∙ waits)) [
      | inl goes ↦ stays body goes.0 (before (sym (lock_awaits (item_at partition.table who.proc)) ∙ goes.1))
      | inr enters ↦ entered body enters
    ]
  where
    Has : Partition → Type 0
    Has next = has_entry_in who next.lock.waiters ≡ true

    stays : (body : Body) → leaves body who ≡ false → Has partition → Has (partition_by configuration cores place core who.part body partition)
    stays (Disp one) goes has = has
    stays (Ret ret) goes has = return_case Has configuration cores place core who.part ret partition has has
    stays (Tick woken) goes has = has_entry_without (λ who. is_named who woken) who partition.lock.waiters goes has
    stays (Arrive crossing) goes has = has
    stays (Depart crossing) goes has = has
    stays (Error report) goes has =
        error_case Has configuration cores place core who.part report partition (λ own none. has)
        (λ own restart is. absurd (told_ends configuration report who restart is own goes)) (λ elsewhere. has)
    stays (Call call) goes has =
        call_case Has configuration cores place core who.part call partition
        (λ own none. subst (λ entries. has_entry_in who entries ≡ true) (sym (called_waiters place call partition.lock)) (lock_keeps place call who partition.lock.waiters goes has))
        (λ own restart is. never_found (sym (no_restart configuration call (not_restarted call who (sym (eqb-true call.who.part who.part own)) goes)) ∙ is))
        (λ elsewhere. has)

    entered : (body : Body) → Entering body who Awaited.TheLock → Has (partition_by configuration cores place core who.part body partition)
    entered (Call call) entering =
        subst (λ one. has_entry_in one (partition_by configuration cores place core one.part (Call call) partition).lock.waiters ≡ true) (sym entering.0)
        (lock_takes configuration cores place core call partition entering.1)
    entered (Disp one) enters = absurd enters
    entered _ enters = absurd enters

-- the whole state

-- a process that waits in a set of a channel after a record has an entry in it
channel_has_entry : (configuration : Configuration) (state : State) (place core : ℕ) (body : Body) → AreTied configuration state
    → IsLawfulBody configuration state core body → (who : Who) (wanted : WaitingSet) (entries : List Entry)
    → (waits_at wanted (found state.partitions who) ≡ true → has_entry_in who entries ≡ true)
    → waits_at wanted (item_at (partition_by configuration state.cores place core who.part body (state.partitions who.part)).table who.proc) ≡ true
    → has_entry_in who (set_after place body wanted entries) ≡ true
channel_has_entry configuration state place core body tied law who wanted entries before waits =
    elim (set_waits configuration state.cores place core body (state.partitions who.part) who wanted (calls_ready configuration state core body tied law who.part) (tied.dormant who.part) waits) [
      | inl goes ↦ set_keeps place body who wanted entries goes.0 (before goes.1)
      | inr enters ↦ entering_has_entry place body who wanted entries enters
    ]

next_in_sets : (configuration : Configuration) (state : State) (ordered : Ordered) → AreTied configuration state → WaitersHaveEntries state
    → IsLawfulBody configuration state ordered.core ordered.rec.body → (who : Who) (wanted : WaitingSet)
    → waits_at wanted (found (after configuration state ordered).partitions who) ≡ true → has_entry_in who (entries_of (after configuration state ordered) who.part wanted) ≡ true
next_in_sets configuration state ordered tied are_there law who wanted waits =
    either_way (is_of_channel wanted)
    (λ is. subst (λ one. has_entry_in who (entries_of (after configuration state ordered) who.part one) ≡ true) (sym (channel_set_is wanted is))
    (at_channel wanted.number wanted.end (subst (λ one. waits_at one (found (after configuration state ordered).partitions who) ≡ true) (channel_set_is wanted is) waits)))
    (λ off. rw off (object_has_entry configuration state.cores ordered.pos ordered.core ordered.rec.body (state.partitions who.part) who wanted
    (calls_ready configuration state ordered.core ordered.rec.body tied law who.part) (tied.dormant who.part) off
    (λ before. subst (λ test. has_entry_in who (cond test (entries_at_channel wanted.end (state.channels wanted.number)) (entries_at (state.partitions who.part) wanted)) ≡ true) off (are_there.0 who wanted before)) waits))
  where
    at_channel : (channel : ℕ) (end : End) → waits_at (channel_set channel end) (found (after configuration state ordered).partitions who) ≡ true
        → has_entry_in who (entries_of (after configuration state ordered) who.part (channel_set channel end)) ≡ true
    at_channel channel Senders waits =
        channel_has_entry configuration state ordered.pos ordered.core ordered.rec.body tied law who (channel_set channel Senders) (state.channels channel).senders (are_there.0 who (channel_set channel Senders)) waits
    at_channel channel Receivers waits =
        channel_has_entry configuration state ordered.pos ordered.core ordered.rec.body tied law who (channel_set channel Receivers) (state.channels channel).receivers (are_there.0 who (channel_set channel Receivers)) waits

next_has_entries : (configuration : Configuration) (state : State) (ordered : Ordered) → AreTied configuration state → WaitersHaveEntries state
    → IsLawfulBody configuration state ordered.core ordered.rec.body → WaitersHaveEntries (after configuration state ordered)
next_has_entries configuration state ordered tied are_there law = (
  next_in_sets configuration state ordered tied are_there law,
  λ who waits. lock_has_entry configuration state.cores ordered.pos ordered.core ordered.rec.body (state.partitions who.part) who
      (calls_ready configuration state ordered.core ordered.rec.body tied law who.part) (tied.dormant who.part) (are_there.1 who) waits,
)

step_has_entries : (configuration : Configuration) (state : State) (ordered : Ordered) (next : State)
    → AreTied configuration state → WaitersHaveEntries state → Step configuration state ordered next → WaitersHaveEntries next
step_has_entries configuration state ordered next tied are_there step = subst WaitersHaveEntries (sym step.1) (next_has_entries configuration state ordered tied are_there step.0.claims)

-- no process waits in the cold state
cold_has_entries : (configuration : Configuration) → WaitersHaveEntries (cold_state configuration)
cold_has_entries configuration = (
  λ who wanted waits. absurd (start_waits_not Mode.ColdStart (first_core configuration who.part) 0 who.proc wanted waits),
  λ who waits. absurd (start_awaits_not Mode.ColdStart (first_core configuration who.part) 0 who.proc Awaited.TheLock
      (lock_awaits (item_at (first_processes Mode.ColdStart (first_core configuration who.part) 0) who.proc) ∙ waits)),
)

pub who_waits_has_entry : WhoWaitsHasEntry
who_waits_has_entry = (cold_has_entries, step_has_entries, run_keeps WaitersHaveEntries step_has_entries)
