-- The waiting sets of a sound partition, changed one after another.
use Rattle.std.proofs.Common.{◌≡◌, ℕ, List, [], ◌∷◌, ◌++◌, true, false, cond, nat_eq, ℤ, Option, Some, None, IsTrue, is_some, refl, sym, ap, subst, ◌∙◌, true≢false, ◌&&◌, ◌||◌}
use Rattle.std.proofs.lemmas.Bool.{eq-eqb}
use Rattle.apex_laws.specs.PartSets.{EachNamedLeaves, LeavesEverySet, left_if_there, named_left, NamedLeave}
use Rattle.apex_laws.proofs.Common.{AllEntries, Entry, HasDistinctObjects, Partition, Process, Table, WaitingSet, Who, each_set, ends_wait, entries_at, entry_of, is_named, is_no_error, is_same, item_at, left_by, stops, waits_at, without}
use Rattle.apex_laws.proofs.Common.{waits_for_lock, without_one}
use Rattle.apex_laws.proofs.Awaited.{Awaited, awaits, lock_awaits, set_awaits}
use Rattle.apex_laws.proofs.Keeps.{same_sets_with}
use Rattle.apex_laws.proofs.Booleans.{cannot_hold, either_way, or_false}
use Rattle.apex_laws.proofs.LeavingSets.{lock_stays_without, one_leaves, stays_without}
use Rattle.apex_laws.proofs.Objects.{each_set_has, sets_stay}
use Rattle.apex_laws.proofs.PartObjects.{stops_nobody}
use Rattle.apex_laws.proofs.Records.{sets_changed}
use Rattle.apex_laws.proofs.Restarts.{restarts_none}
use Rattle.apex_laws.proofs.TickLeaves.{left_as, left_distinct, left_twice, none_left}
use Rattle.apex_laws.proofs.Waiters.{all_without, none_leaves, without_same}
use Rattle.apex_laws.proofs.WaitersOf.{same_is}

-- calls

pub named_leave : NamedLeave
named_leave place call wanted entries no_stop no_restart = (λ here. rw here (ap (λ others. others ++ entry_of place call ∷ []) leave), λ elsewhere. rw elsewhere leave)
  where
    ends : (who : Who) → ends_wait call who ≡ is_named who call.claim.woken
    ends who =
        let stopped : stops call who ≡ false = stops_nobody call who (ap (λ (one : Option ℤ). is_some one && is_no_error call.claim.out) no_stop) in
        (λ i. restarts_none call who.part no_restart i || (is_named who call.claim.woken || stopped i)) ∙ or_false (is_named who call.claim.woken)

    leave : without (ends_wait call) entries ≡ without (λ who. is_named who call.claim.woken) entries
    leave = without_same (ends_wait call) (λ who. is_named who call.claim.woken) ends entries

-- one process

-- a process with an entry in a set waits there, by a table, and so it is with the lock
abbrev pub AllWaitThere : ℕ → Table → Partition → Type 0
AllWaitThere number table partition =
    ((wanted : WaitingSet) → AllEntries (λ entry. (entry.who.part ≡ number) × IsTrue (waits_at wanted (item_at table entry.who.proc))) (entries_at partition wanted))
    × AllEntries (λ entry. (entry.who.part ≡ number) × IsTrue (waits_for_lock (item_at table entry.who.proc))) partition.lock.waiters

-- each set without this process
abbrev leave_all : Who → WaitingSet → List Entry → List Entry
leave_all who wanted entries = without_one who entries

-- a partition without this process in its sets and in that of its lock
abbrev left_everywhere : Who → Partition → Partition
left_everywhere who partition = left_as (λ wanted other. is_same other who) partition

-- a process that leaves the set that its wait names has left every set
pub leaves_all : (number : ℕ) (table : Table) (partition : Partition) (who : Who) (process : Process) → HasDistinctObjects partition → AllWaitThere number table partition
    → item_at table who.proc ≡ Some process → left_by who process.wait partition ≡ left_everywhere who partition
leaves_all number table partition who process has are_there at =
    sym (one_leaves (leave_all who) (without_one who) partition who process.wait has (λ wanted on. refl)
    (λ wanted off. stays_without number (record partition { table = table }) wanted who process at off (entries_at partition wanted) (are_there.0 wanted))
    (λ on. refl) (λ off. lock_stays_without number table who process at off partition.lock.waiters are_there.1))

-- if there is no process of this name, each set stays
nobody_leaves : (number : ℕ) (table : Table) (partition : Partition) (who : Who) → HasDistinctObjects partition → AllWaitThere number table partition
    → ((wanted : Awaited) → who.part ≡ number → awaits wanted (item_at table who.proc) ≡ true → ⊥) → left_everywhere who partition ≡ partition
nobody_leaves number table partition who has are_there absent =
    let stay = sets_stay (leave_all who) partition has (λ wanted off.
    none_leaves (λ entry. (entry.who.part ≡ number) × IsTrue (waits_at wanted (item_at table entry.who.proc))) (λ other. is_same other who)
    (λ entry is_member. cannot_hold (is_same entry.who who) (λ same.
    (let is = same_is entry.who who same in
    absent (Awaited.TheSet wanted) (subst (λ one. one.part ≡ number) is is_member.0)
    (set_awaits wanted (item_at table who.proc) ∙ subst (λ one. waits_at wanted (item_at table one.proc) ≡ true) is is_member.1))))
    (entries_at partition wanted) (are_there.0 wanted)) in
    let lock = none_leaves (λ entry. (entry.who.part ≡ number) × IsTrue (waits_for_lock (item_at table entry.who.proc))) (λ other. is_same other who)
    (λ entry is_member. cannot_hold (is_same entry.who who) (λ same.
    (let is = same_is entry.who who same in
    absent Awaited.TheLock (subst (λ one. one.part ≡ number) is is_member.0)
    (lock_awaits (item_at table who.proc) ∙ subst (λ one. waits_for_lock (item_at table one.proc) ≡ true) is is_member.1))))
    partition.lock.waiters are_there.1 in
    λ i. record (stay i) { lock = record partition.lock { waiters = lock i } }

pub leaves_every_set : LeavesEverySet
leaves_every_set number place partition who process sound at =
    let all = leaves_all number partition.table partition who process sound.objects (sound.is_member, sound.lock.is_member) at in (
      λ wanted. ap (λ (one : Partition). entries_at one wanted) all
          ∙ same_sets_with (each_set (leave_all who) partition) (left_everywhere who partition).lock partition.table wanted ∙ sets_changed (leave_all who) partition (λ one. refl) wanted,
      ap (λ (one : Partition). one.lock.waiters) all,
      all ∙ (λ i. each_set (leave_all who) (record partition { lock = ap (λ (one : Partition). one.lock) (sym all) i })),
    )

-- ticks

-- one that is named
there_leaves : (number : ℕ) (table : Table) (partition : Partition) (who : Who) (found : Option Process) → item_at table who.proc ≡ found → HasDistinctObjects partition → AllWaitThere number table partition
    → left_if_there who found partition ≡ left_everywhere who partition
there_leaves number table partition who (Some process) at has are_there = leaves_all number table partition who process has are_there at
there_leaves number table partition who None at has are_there =
    sym (nobody_leaves number table partition who has are_there (λ wanted here waits. true≢false (sym (subst (λ one. awaits wanted one ≡ true) at waits))))

one_named_leaves : (number : ℕ) (table : Table) (partition : Partition) (who : Who) → HasDistinctObjects partition → AllWaitThere number table partition
    → cond (nat_eq who.part number) (left_if_there who (item_at table who.proc) partition) partition ≡ left_everywhere who partition
one_named_leaves number table partition who has are_there =
    either_way (nat_eq who.part number) (λ here. rw here (there_leaves number table partition who (item_at table who.proc) refl has are_there))
    (λ elsewhere. rw elsewhere (sym (nobody_leaves number table partition who has are_there
    (λ wanted here waits. true≢false (sym (eq-eqb who.part number here) ∙ elsewhere)))))

-- the entries that are left when one process has left
still_wait_there : (number : ℕ) (table : Table) (partition : Partition) (who : Who) → AllWaitThere number table partition → AllWaitThere number table (left_everywhere who partition)
still_wait_there number table partition who are_there = (sets, lock)
  where
    sets : (wanted : WaitingSet) → AllEntries (λ entry. (entry.who.part ≡ number) × IsTrue (waits_at wanted (item_at table entry.who.proc))) (entries_at (left_everywhere who partition) wanted)
    sets wanted =
        let Fact : Entry → Type 0 = λ entry. (entry.who.part ≡ number) × IsTrue (waits_at wanted (item_at table entry.who.proc)) in
        subst (AllEntries Fact) (sym (same_sets_with (each_set (leave_all who) partition) (left_everywhere who partition).lock partition.table wanted))
        (each_set_has (AllEntries Fact) tt (leave_all who) partition wanted
        (all_without Fact Fact (λ other. is_same other who) (λ entry stays is_member. is_member) (entries_at partition wanted) (are_there.0 wanted)))

    lock : AllEntries (λ entry. (entry.who.part ≡ number) × IsTrue (waits_for_lock (item_at table entry.who.proc))) (left_everywhere who partition).lock.waiters
    lock =
        let Fact : Entry → Type 0 = λ entry. (entry.who.part ≡ number) × IsTrue (waits_for_lock (item_at table entry.who.proc)) in
        all_without Fact Fact (λ other. is_same other who) (λ entry stays is_member. is_member) partition.lock.waiters are_there.1

-- all that are named, by the entries that there are
pub all_named_leave : (number : ℕ) (table : Table) (woken : List Who) (partition : Partition) → HasDistinctObjects partition → AllWaitThere number table partition
    → named_left number table woken partition ≡ left_as (λ wanted who. is_named who woken) partition
all_named_leave number table [] partition has are_there = sym (none_left partition has)
all_named_leave number table (who ∷ others) partition has are_there =
    ap (named_left number table others) (one_named_leaves number table partition who has are_there)
    ∙ all_named_leave number table others (left_everywhere who partition) (left_distinct (λ wanted other. is_same other who) partition has) (still_wait_there number table partition who are_there)
    ∙ left_twice (λ wanted other. is_same other who) (λ wanted other. is_named other others) partition

pub each_named_leaves : EachNamedLeaves
each_named_leaves number place partition woken sound = all_named_leave number partition.table woken partition sound.objects (sound.is_member, sound.lock.is_member)
