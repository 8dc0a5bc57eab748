-- At a tick each process that is named leaves the waiting set that its wait names.
use Rattle.std.proofs.Common.{◌≡◌, ℕ, List, [], ◌∷◌, Bool, true, false, cond, nat_eq, Some, refl, sym, ap, subst, ◌∙◌, true≢false, ◌&&◌, ◌||◌}
use Rattle.std.proofs.lemmas.Bool.{and_from, and_parts, eqb-true}
use Rattle.apex_laws.proofs.Common.{EachLeavesItsSet, Entry, HasDistinctObjects, Partition, Table, Tick, Wait, Who, all_left, each_set, entries_at, is_in, is_named, is_same, item_at, left_by, set_after}
use Rattle.apex_laws.proofs.Common.{is_for_lock, without}
use Rattle.apex_laws.proofs.Booleans.{cannot_hold, either_way, first_holds, later_holds, other_holds}
use Rattle.apex_laws.proofs.Awaited.{Awaited, awaits, is_for, lock_awaits, set_awaits}
use Rattle.apex_laws.proofs.LeavingSets.{all_changed, one_leaves}
use Rattle.apex_laws.proofs.Objects.{each_set_as, each_set_each, sets_stay}
use Rattle.apex_laws.proofs.SoundParts.{sets_distinct, WaitsForLock, WaitsInSet, with_table}
use Rattle.apex_laws.proofs.Waiters.{without_alike, without_without}
use Rattle.apex_laws.proofs.WaitersOf.{same_is, same_itself, same_who}

-- leaving one after another

-- if none leaves, all stay
pub without_none : (entries : List Entry) → without (λ who. false) entries ≡ entries
without_none [] = refl
without_none (entry ∷ entries) = ap (λ others. entry ∷ others) (without_none entries)

-- one process of a table

-- a partition without those that leave each set, and that of its lock
abbrev pub left_as : (Awaited → Who → Bool) → Partition → Partition
left_as leaves partition = all_changed (λ wanted entries. without (leaves (Awaited.TheSet wanted)) entries) (without (leaves Awaited.TheLock)) partition

-- if none leaves, the partition stays
pub none_left : (partition : Partition) → HasDistinctObjects partition → left_as (λ wanted other. false) partition ≡ partition
none_left partition has =
    let stay = sets_stay (λ wanted entries. without (λ other. false) entries) partition has (λ wanted off. without_none (entries_at partition wanted)) in
    λ i. record (stay i) { lock = record partition.lock { waiters = without_none partition.lock.waiters i } }

-- those who leave first, and those who leave then
pub left_twice : (first second : Awaited → Who → Bool) (partition : Partition) → left_as second (left_as first partition) ≡ left_as (λ wanted who. first wanted who || second wanted who) partition
left_twice first second partition =
    let sets = each_set_each (λ wanted entries. without (first (Awaited.TheSet wanted)) entries) (λ wanted entries. without (second (Awaited.TheSet wanted)) entries) partition
    ∙ (λ i. each_set (λ wanted entries. without_without (first (Awaited.TheSet wanted)) (second (Awaited.TheSet wanted)) entries i) partition) in
    λ i. record (sets i) { lock = record partition.lock { waiters = without_without (first Awaited.TheLock) (second Awaited.TheLock) partition.lock.waiters i } }

-- the objects stay distinct
pub left_distinct : (leaves : Awaited → Who → Bool) (partition : Partition) → HasDistinctObjects partition → HasDistinctObjects (left_as leaves partition)
left_distinct leaves partition has =
    with_table (each_set (λ wanted entries. without (leaves (Awaited.TheSet wanted)) entries) partition) partition.mode partition.handler partition.errors
    (left_as leaves partition).lock partition.table (sets_distinct (λ wanted entries. without (leaves (Awaited.TheSet wanted)) entries) partition has)

-- whether a process of this number and wait leaves a set as this one
abbrev leaves_as : ℕ → List Who → ℕ → Wait → Awaited → Who → Bool
leaves_as number woken process one wanted who =
    is_named (record { part = number; proc = process }) woken && (is_for wanted one && is_same who (record { part = number; proc = process }))

-- who leaves its own set
left_is : (who : Who) (one : Wait) (partition : Partition) → HasDistinctObjects partition
    → left_by who one partition ≡ left_as (λ wanted other. is_for wanted one && is_same other who) partition
left_is who one partition has =
    sym (one_leaves (λ wanted entries. without (λ other. is_in wanted one && is_same other who) entries) (without (λ other. is_for_lock one && is_same other who)) partition who one has
    (λ wanted on i. without (λ other. on i && is_same other who) (entries_at partition wanted))
    (λ wanted off. (λ i. without (λ other. off i && is_same other who) (entries_at partition wanted)) ∙ without_none (entries_at partition wanted))
    (λ on i. without (λ other. on i && is_same other who) partition.lock.waiters)
    (λ off. (λ i. without (λ other. off i && is_same other who) partition.lock.waiters) ∙ without_none partition.lock.waiters))

-- and does so only if it is named
left_if : (who : Who) (named : Bool) (one : Wait) (partition : Partition) → HasDistinctObjects partition
    → cond named (left_by who one partition) partition ≡ left_as (λ wanted other. named && (is_for wanted one && is_same other who)) partition
left_if who true one partition has = left_is who one partition has
left_if who false one partition has = sym (none_left partition has)

-- the processes of a table

-- whether a process leaves a set as one of a table
abbrev leaves_among : ℕ → List Who → Table → Awaited → Who → Bool
leaves_among number woken [] wanted who = false
leaves_among number woken (entry ∷ entries) wanted who = leaves_as number woken entry.0 entry.1.wait wanted who || leaves_among number woken entries wanted who

all_leave : (number : ℕ) (woken : List Who) (table : Table) (partition : Partition) → HasDistinctObjects partition
    → all_left number woken table partition ≡ left_as (leaves_among number woken table) partition
all_leave number woken [] partition has = sym (none_left partition has)
all_leave number woken (entry ∷ entries) partition has =
    let who : Who = record { part = number; proc = entry.0 } in
    let named = is_named who woken in
    let one : Awaited → Who → Bool = leaves_as number woken entry.0 entry.1.wait in
    let rest : Awaited → Who → Bool = leaves_among number woken entries in
    let first = left_if who named entry.1.wait partition has in
    let next : HasDistinctObjects (cond named (left_by who entry.1.wait partition) partition) = subst HasDistinctObjects (sym first) (left_distinct one partition has) in
    all_leave number woken entries (cond named (left_by who entry.1.wait partition) partition) next
    ∙ ap (left_as rest) first
    ∙ left_twice one rest partition

-- who leaves

-- a process that is named and waits in the set leaves it
leaves_found : (number : ℕ) (woken : List Who) (table : Table) (wanted : Awaited) (process : ℕ) → is_named (record { part = number; proc = process }) woken ≡ true
    → awaits wanted (item_at table process) ≡ true → leaves_among number woken table wanted (record { part = number; proc = process }) ≡ true
leaves_found number woken [] wanted process named waits = absurd (true≢false (sym waits))
leaves_found number woken (entry ∷ entries) wanted process named waits =
    let who : Who = record { part = number; proc = process } in
    either_way (nat_eq process entry.0)
    (λ same. (let here : awaits wanted (Some entry.1) ≡ true = subst (λ test. awaits wanted (cond test (Some entry.1) (item_at entries process)) ≡ true) same waits in
    let is : who ≡ record { part = number; proc = entry.0 } = same_who who (record { part = number; proc = entry.0 }) refl (eqb-true process entry.0 same) in
    first_holds (leaves_as number woken entry.0 entry.1.wait wanted who) (leaves_among number woken entries wanted who)
    (and_from (is_named (record { part = number; proc = entry.0 }) woken) (is_for wanted entry.1.wait && is_same who (record { part = number; proc = entry.0 }))
    (subst (λ one. is_named one woken ≡ true) is named)
    (and_from (is_for wanted entry.1.wait) (is_same who (record { part = number; proc = entry.0 }))
    (and_parts entry.1.alive (is_for wanted entry.1.wait) here).1 (subst (λ one. is_same who one ≡ true) is (same_itself who))))))
    (λ differs. (let those_after : awaits wanted (item_at entries process) ≡ true = subst (λ test. awaits wanted (cond test (Some entry.1) (item_at entries process)) ≡ true) differs waits in
    later_holds (leaves_as number woken entry.0 entry.1.wait wanted who) (leaves_among number woken entries wanted who) (leaves_found number woken entries wanted process named those_after)))

-- who leaves is named
leaves_named : (number : ℕ) (woken : List Who) (table : Table) (wanted : Awaited) (who : Who) → leaves_among number woken table wanted who ≡ true → is_named who woken ≡ true
leaves_named number woken [] wanted who leaves = absurd (true≢false (sym leaves))
leaves_named number woken (entry ∷ entries) wanted who leaves =
    let one : Who = record { part = number; proc = entry.0 } in
    either_way (leaves_as number woken entry.0 entry.1.wait wanted who)
    (λ here. (let parts = and_parts (is_named one woken) (is_for wanted entry.1.wait && is_same who one) here in
    let same = and_parts (is_for wanted entry.1.wait) (is_same who one) parts.1 in
    subst (λ other. is_named other woken ≡ true) (sym (same_is who one same.1)) parts.0))
    (λ elsewhere. leaves_named number woken entries wanted who (other_holds (leaves_as number woken entry.0 entry.1.wait wanted who) (leaves_among number woken entries wanted who) leaves elsewhere))

-- so of those who wait exactly those leave who are named
leaves_alike : (number : ℕ) (woken : List Who) (table : Table) (wanted : Awaited) (entry : Entry) → entry.who.part ≡ number → awaits wanted (item_at table entry.who.proc) ≡ true
    → is_named entry.who woken ≡ leaves_among number woken table wanted entry.who
leaves_alike number woken table wanted entry here waits =
    let who : Who = record { part = number; proc = entry.who.proc } in
    let same : entry.who ≡ who = same_who entry.who who here refl in
    either_way (is_named entry.who woken)
    (λ named. (let leaves = leaves_found number woken table wanted entry.who.proc (subst (λ one. is_named one woken ≡ true) same named) waits in
    named ∙ sym (subst (λ one. leaves_among number woken table wanted one ≡ true) (sym same) leaves)))
    (λ not_named. not_named ∙ sym (cannot_hold (leaves_among number woken table wanted entry.who)
    (λ leaves. true≢false (sym (leaves_named number woken table wanted entry.who leaves) ∙ not_named))))

pub each_leaves_its_set : EachLeavesItsSet
each_leaves_its_set number place partition woken sound =
    let table = partition.table in
    let sets = each_set_as (set_after place (Tick woken)) (λ wanted entries. without (leaves_among number woken table (Awaited.TheSet wanted)) entries) partition sound.objects
    (λ wanted off. without_alike (WaitsInSet number wanted partition) (λ who. is_named who woken) (leaves_among number woken table (Awaited.TheSet wanted))
    (λ entry is_member. leaves_alike number woken table (Awaited.TheSet wanted) entry is_member.0 (set_awaits wanted (item_at table entry.who.proc) ∙ is_member.1))
    (entries_at partition wanted) (sound.is_member wanted)) in
    let lock = without_alike (WaitsForLock number partition) (λ who. is_named who woken) (leaves_among number woken table Awaited.TheLock)
    (λ entry is_member. leaves_alike number woken table Awaited.TheLock entry is_member.0 (lock_awaits (item_at table entry.who.proc) ∙ is_member.1))
    partition.lock.waiters sound.lock.is_member in
    (λ i. record (sets i) { lock = record partition.lock { waiters = lock i } })
    ∙ sym (all_leave number woken table partition sound.objects)
