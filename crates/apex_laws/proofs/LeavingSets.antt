-- Which processes leave the waiting sets of a partition: the target of a STOP, those named at a tick, and none at another partition's
-- record.
use Rattle.std.proofs.Common.{◌≡◌, ℕ, List, [], ◌∷◌, true, false, cond, nat_eq, ℤ, pos, Some, None, IsTrue, refl, sym, ap, subst, ◌∙◌, true≢false, ◌&&◌, ◌||◌}
use Rattle.std.proofs.lemmas.Bool.{and_parts, eqb-true}
use Rattle.apex_laws.proofs.Common.{AllEntries, AllHold, Call, CallRecord, Claim, Condition, DueLeave, End, Entry, ForeignCallsLeaveSets, HasDistinctObjects, OnlyProcessesChange, Partition, Process, ProcessOperation, Request, Ret, Return}
use Rattle.apex_laws.proofs.Common.{StoppedLeaves, Wait, WaitingSet, Who, answer_of, at_end, channel_of, conditions_of, each_set, ends_wait, entries_at, entries_at_end, is_done, is_in, is_named, is_no_error, is_of_object, is_same}
use Rattle.apex_laws.proofs.Common.{is_same_end, is_same_set, is_set_used, is_target, item_at, left_by, natural_of, objects_by, objects_of, outcome_demands, partition_by, peer, restarts_by, is_restart, restart_reported, OnlyErrorsChange, set_after, set_at, stop_of}
use Rattle.apex_laws.proofs.Common.{waits_at, with_ends, with_set, without_one}
use Rattle.apex_laws.proofs.Common.{Lock, Table, enters_lock, freed_by_stop, is_for_lock, is_of_lock, is_waiting, lock_by, lock_called, lock_left, lock_stopped, lock_waiters_after, objects_called, stopped_lock, waits_for_lock, waking, without, time_of, Error, ErrorReport}
use Rattle.apex_laws.proofs.Booleans.{cannot_hold, either_way, never_found, not_first, not_second, same_if}
use Rattle.apex_laws.proofs.Objects.{Leaves, of_found, sets_stay}
use Rattle.apex_laws.proofs.PartObjects.{enters_no_other, one_of_kind_changes}
use Rattle.apex_laws.proofs.Restarts.{restarts_none, return_case, error_case}
use Rattle.apex_laws.proofs.SetNames.{ends_agree, same_end_is, set_itself}
use Rattle.apex_laws.proofs.Codes.{no_error_is_done}
use Rattle.apex_laws.proofs.Keeps.{same_sets_with, stopped_waiters}
use Rattle.apex_laws.proofs.SoundParts.{WaitsForLock, WaitsInSet, with_table}
use Rattle.apex_laws.proofs.Waiters.{all_weaker, all_without, none_leaves, without_alike, without_same, without_without}
use Rattle.apex_laws.proofs.WaitersOf.{same_is}
use Rattle.apex_laws.proofs.Wakes.{created_is, freed_wakes, lock_waits_not}

-- ticks

pub due_leave : DueLeave
due_leave number place partition woken sound wanted none =
    none_leaves (WaitsInSet number wanted partition) (λ who. is_named who woken)
    (λ entry is_member. cannot_hold (is_named entry.who woken) (λ named.
    true≢false (sym is_member.1 ∙ none entry.who.proc (subst (λ part. is_named (record { part = part; proc = entry.who.proc }) woken ≡ true) is_member.0 named))))
    (entries_at partition wanted) (sound.is_member wanted)

-- other records

pub foreign_calls_leave_sets : ForeignCallsLeaveSets
foreign_calls_leave_sets configuration cores place core number partition = (called, λ crossing. refl, λ crossing. refl, given_back, λ who. refl, reported)
  where
    called : (call : CallRecord) → ¬ (call.who.part ≡ number) → OnlyProcessesChange partition (partition_by configuration cores place core number (Call call) partition)
    called call elsewhere =
        let off : nat_eq call.who.part number ≡ false = cannot_hold (nat_eq call.who.part number) (λ own. elsewhere (eqb-true call.who.part number own)) in
        rw off refl

    given_back : (ret : Return) → OnlyProcessesChange partition (partition_by configuration cores place core number (Ret ret) partition)
    given_back ret = return_case (OnlyProcessesChange partition) configuration cores place core number ret partition refl refl

    reported : (report : ErrorReport) → restart_reported configuration report ≡ None → OnlyErrorsChange partition (partition_by configuration cores place core number (Error report) partition)
    reported report none =
        error_case (OnlyErrorsChange partition) configuration cores place core number report partition (λ own goes_on. refl) (λ own restart is. never_found (sym none ∙ is)) (λ elsewhere. refl)

-- one set changes

-- a change that leaves every set but one is a change of that set
pub one_set_alone : (change : WaitingSet → List Entry → List Entry) (through : List Entry → List Entry) (partition : Partition) (wanted : WaitingSet) → HasDistinctObjects partition
    → change wanted (entries_at partition wanted) ≡ through (entries_at partition wanted) → ((other : WaitingSet) → is_same_set wanted other ≡ false → Leaves change partition other)
    → each_set change partition ≡ with_set wanted through partition
one_set_alone change through partition wanted has becomes leaves =
    one_of_kind_changes wanted.kind change partition false wanted.number (λ found. found) (with_ends wanted.kind (at_end wanted.end through)) has
    (λ found at. ends_agree wanted.kind (λ end. change (set_at wanted.kind wanted.number end)) (at_end wanted.end through) found (λ off end.
    of_found (entries_at_end wanted.kind end) (λ entries. change (set_at wanted.kind wanted.number end) entries ≡ at_end wanted.end through end entries)
    (item_at (objects_of partition wanted.kind) wanted.number) found at (at_each_end end)))
    (λ other off. leaves other (not_first (is_of_object wanted.kind wanted.number other) (is_same_end wanted.end other.end) off))
  where
    at_each_end : (end : End) → change (set_at wanted.kind wanted.number end) (entries_at partition (set_at wanted.kind wanted.number end))
        ≡ at_end wanted.end through end (entries_at partition (set_at wanted.kind wanted.number end))
    at_each_end end =
        either_way (is_same_end wanted.end end)
        (λ same. rw same (subst (λ one. change (set_at wanted.kind wanted.number one) (entries_at partition (set_at wanted.kind wanted.number one))
        ≡ through (entries_at partition (set_at wanted.kind wanted.number one))) (same_end_is wanted.end end same) becomes))
        (λ differs. rw differs (leaves (set_at wanted.kind wanted.number end) (not_second (is_of_object wanted.kind wanted.number (set_at wanted.kind wanted.number end)) (is_same_end wanted.end end) differs)))

-- a STOP that is done

-- it ends the wait of its target, and the waits of those that it names
stop_ends : (call : CallRecord) (process : ℤ) (number : ℕ) (who : Who) → process ≡ pos number → call.request ≡ Request.Process process ProcessOperation.Stop → is_no_error call.claim.out ≡ true
    → ends_wait call who ≡ (is_named who call.claim.woken || is_same who (peer call.who process))
stop_ends call process number who at asked no_error =
    let stopped : (nat_eq who.part call.who.part && is_target (Some process) who.proc) ≡ is_same who (peer call.who process) =
    subst (λ one. (nat_eq who.part call.who.part && is_target (Some one) who.proc) ≡ is_same who (peer call.who one)) (sym at) refl in
    let no_restart : is_restart call ≡ false = ap (λ one. restarts_by one call.claim.out) asked in
    (λ i. restarts_none call who.part no_restart i || (is_named who call.claim.woken || (no_error i && (nat_eq who.part call.who.part && is_target (stop_of (asked i)) who.proc))))
    ∙ ap (λ test. is_named who call.claim.woken || test) stopped

-- those that it names are the ones that its answer names
stop_names : (conditions : List Condition) (number : ℕ) (asked : Request) (woken : List Who) (claim : Claim) → AllHold (outcome_demands conditions None number asked (waking woken) claim)
    → (who : Who) → is_named who claim.woken ≡ true → is_named who woken ≡ true
stop_names [] number asked woken claim hold who named = sym (hold.1.1.1.1.0 who) ∙ named
stop_names (condition ∷ conditions) number asked woken claim hold who named = absurd (true≢false (sym named ∙ ap (is_named who) hold.1.1.1.1.0))

-- who leaves by its wait alone
pub stays_without : (number : ℕ) (partition : Partition) (wanted : WaitingSet) (who : Who) (process : Process) → item_at partition.table who.proc ≡ Some process → is_in wanted process.wait ≡ false
    → (entries : List Entry) → AllEntries (WaitsInSet number wanted partition) entries → without_one who entries ≡ entries
stays_without number partition wanted who process at off entries all =
    none_leaves (WaitsInSet number wanted partition) (λ other. is_same other who)
    (λ entry is_member. cannot_hold (is_same entry.who who) (λ same.
    (let here : waits_at wanted (Some process) ≡ true =
    subst (λ one. waits_at wanted one ≡ true) (ap (λ one. item_at partition.table one.proc) (same_is entry.who who same) ∙ at) is_member.1 in
    true≢false (sym (and_parts process.alive (is_in wanted process.wait) here).1 ∙ off)))) entries all

-- so it is with the lock
pub lock_stays_without : (number : ℕ) (table : Table) (who : Who) (process : Process) → item_at table who.proc ≡ Some process → is_for_lock process.wait ≡ false
    → (entries : List Entry) → AllEntries (λ entry. (entry.who.part ≡ number) × IsTrue (waits_for_lock (item_at table entry.who.proc))) entries → without_one who entries ≡ entries
lock_stays_without number table who process at off entries all =
    none_leaves (λ entry. (entry.who.part ≡ number) × IsTrue (waits_for_lock (item_at table entry.who.proc))) (λ other. is_same other who)
    (λ entry is_member. cannot_hold (is_same entry.who who) (λ same.
    (let here : waits_for_lock (Some process) ≡ true =
    subst (λ one. waits_for_lock one ≡ true) (ap (λ one. item_at table one.proc) (same_is entry.who who same) ∙ at) is_member.1 in
    true≢false (sym (and_parts process.alive (is_for_lock process.wait) here).1 ∙ off)))) entries all

-- a partition with each set changed, and the set of its lock
abbrev pub all_changed : (WaitingSet → List Entry → List Entry) → (List Entry → List Entry) → Partition → Partition
all_changed change through partition = record (each_set change partition) { lock = record partition.lock { waiters = through partition.lock.waiters } }

-- the partition after one process left
pub one_leaves : (change : WaitingSet → List Entry → List Entry) (through : List Entry → List Entry) (partition : Partition) (who : Who) (one : Wait) → HasDistinctObjects partition
    → ((wanted : WaitingSet) → is_in wanted one ≡ true → change wanted (entries_at partition wanted) ≡ without_one who (entries_at partition wanted))
    → ((wanted : WaitingSet) → is_in wanted one ≡ false → Leaves change partition wanted)
    → (is_for_lock one ≡ true → through partition.lock.waiters ≡ without_one who partition.lock.waiters)
    → (is_for_lock one ≡ false → through partition.lock.waiters ≡ partition.lock.waiters) → all_changed change through partition ≡ left_by who one partition
one_leaves change through partition who (Wait.At wanted due) has becomes leaves on off =
    let set : each_set change partition ≡ with_set wanted (without_one who) partition = one_set_alone change (without_one who) partition wanted has (becomes wanted (set_itself wanted)) leaves in
    (λ i. record (each_set change partition) { lock = record partition.lock { waiters = off refl i } }) ∙ set
one_leaves change through partition who Wait.ForLock has becomes leaves on off =
    let stay = sets_stay change partition has (λ wanted off. leaves wanted refl) in
    λ i. record (stay i) { lock = record partition.lock { waiters = on refl i } }
one_leaves change through partition who _ has becomes leaves on off =
    let stay = sets_stay change partition has (λ wanted off. leaves wanted refl) in
    λ i. record (stay i) { lock = record partition.lock { waiters = off refl i } }

-- a STOP, by its target's wait
pub stopped_leaves : StoppedLeaves
stopped_leaves configuration number place core cores partition call is process asked no_error target found =
    let change = set_after place (Call call) in
    let who = peer call.who process in
    let at = created_is partition.table process target found in
    let own = subst (λ one. AllHold (outcome_demands (conditions_of configuration (time_of cores core) call.who partition one) (channel_of partition one) number one
    (answer_of configuration cores core call.who partition one) call.claim)) asked is.demands.1.1.1.1.1.1 in
    let ends : (other : Who) → ends_wait call other ≡ (is_named other call.claim.woken || is_same other who) = λ other. stop_ends call process at.0 other at.1 asked no_error in
    let frees : (other : Who) → is_named other call.claim.woken ≡ true → waits_for_lock (item_at partition.table other.proc) ≡ true = λ other named.
    freed_wakes (λ one. waits_for_lock (item_at partition.table one.proc) ≡ true) (natural_of process) partition.lock
    (all_weaker (WaitsForLock number partition) (λ entry. waits_for_lock (item_at partition.table entry.who.proc) ≡ true) (λ entry is_member. is_member.1) partition.lock.waiters is.sound.lock.is_member)
    other (stop_names (conditions_of configuration (time_of cores core) call.who partition (Request.Process process ProcessOperation.Stop)) number (Request.Process process ProcessOperation.Stop)
    (freed_by_stop (natural_of process) partition.lock) call.claim own other named) in
    let becomes : (wanted : WaitingSet) → change wanted (entries_at partition wanted) ≡ without_one who (entries_at partition wanted) =
    λ wanted. (let off = enters_no_other call wanted (ap (λ one. is_set_used one wanted) asked) in
    rw off (without_alike (WaitsInSet number wanted partition) (ends_wait call) (λ other. is_same other who)
    (λ entry is_member. (let unnamed : is_named entry.who call.claim.woken ≡ false = cannot_hold (is_named entry.who call.claim.woken) (λ named.
    lock_waits_not wanted (item_at partition.table entry.who.proc) (frees entry.who named) is_member.1) in
    ends entry.who ∙ ap (λ test. test || is_same entry.who who) unnamed)) (entries_at partition wanted) (is.sound.is_member wanted))) in
    let there : item_at partition.table who.proc ≡ Some target = ap (λ one. item_at partition.table (natural_of one)) at.1 ∙ at.2 in
    let leaves : (wanted : WaitingSet) → is_in wanted target.wait ≡ false → Leaves change partition wanted =
    λ wanted off. becomes wanted ∙ stays_without number partition wanted who target there off (entries_at partition wanted) (is.sound.is_member wanted) in
    let named : List Entry → List Entry = without (λ one. is_named one call.claim.woken) in
    let lock : Lock = stopped_lock (natural_of process) call.claim.woken partition.lock in
    let stopped : Partition = record partition { lock = lock } in
    let same : (wanted : WaitingSet) → entries_at stopped wanted ≡ entries_at partition wanted = same_sets_with partition lock partition.table in
    let still : AllEntries (WaitsForLock number partition) (named partition.lock.waiters) =
    all_without (WaitsForLock number partition) (WaitsForLock number partition) (λ one. is_named one call.claim.woken) (λ entry stays is_member. is_member) partition.lock.waiters is.sound.lock.is_member in
    let waiters : lock_waiters_after place (Call call) partition.lock.waiters ≡ without_one who (named partition.lock.waiters) =
    (let off : enters_lock call ≡ false = not_second (is_waiting call.claim.out) (is_of_lock call.request) (ap is_of_lock asked) in
    rw off (without_same (ends_wait call) (λ other. is_named other call.claim.woken || is_same other who) ends partition.lock.waiters
    ∙ sym (without_without (λ other. is_named other call.claim.woken) (λ other. is_same other who) partition.lock.waiters))) in
    let lock_is : lock_called place call partition.lock ≡ record lock { waiters = without_one who lock.waiters } =
    ap (λ test. lock_left place (Call call) (cond test (lock_by call.who.proc call.request partition.lock) partition.lock)) (no_error_is_done call.claim.out no_error)
    ∙ ap (λ one. lock_left place (Call call) (lock_by call.who.proc one partition.lock)) asked
    ∙ (λ i. record (lock_stopped (natural_of process) partition.lock) { waiters = lock_waiters_after place (Call call) (stopped_waiters (natural_of process) partition.lock i) })
    ∙ (λ i. record (lock_stopped (natural_of process) partition.lock) { waiters = waiters i }) in
    let objects : objects_called configuration place call partition ≡ each_set change partition =
    ap (λ one. each_set change (cond (is_done call.claim.out) (objects_by configuration call.who call.claim.val one partition) partition)) asked
    ∙ ap (each_set change) (same_if (is_done call.claim.out) partition) in (
      becomes,
      leaves,
      (λ i. record (objects i) { lock = lock_is i })
          ∙ one_leaves change (without_one who) stopped who target.wait (with_table partition partition.mode partition.handler partition.errors lock partition.table is.sound.objects)
          (λ wanted on. subst (λ entries. change wanted entries ≡ without_one who entries) (sym (same wanted)) (becomes wanted))
          (λ wanted off. subst (λ entries. change wanted entries ≡ entries) (sym (same wanted)) (leaves wanted off))
          (λ on. refl) (λ off. lock_stays_without number partition.table who target there off (named partition.lock.waiters) still),
    )
