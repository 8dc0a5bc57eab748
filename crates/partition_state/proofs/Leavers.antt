-- Which processes leave a waiting set of a partition, and which are in it then.
use Rattle.std.proofs.Common.{◌≡◌, ℕ, List, [], ◌∷◌, ◌++◌, if◌then◌else◌, nat_eq, IsTrue, Option, Some, None, Bool, true, false, refl, sym, ap, ◌∙◌, true≢false, ◌⊎◌, inl, inr, subst}
use Rattle.std.proofs.lemmas.Bool.{and_parts, cases_Bool}
use Rattle.apex_types.specs.declared.object_kind.ObjectKind.TheVariants as kind
use Rattle.apex_types.specs.declared.record.Who.{Who}
use Rattle.apex_machine.specs.declared.state.Entry.{Entry}
use Rattle.apex_machine.specs.declared.state.Wait.TheVariants as wait
use Rattle.apex_machine.specs.declared.state.WaitingSet.{WaitingSet}
use Rattle.apex_types.specs.declared.record.Body.TheVariants.{Tick}
use Rattle.apex_machine.specs.After.{each_set, sets_left}
use Rattle.apex_machine.specs.Demands.{has_entry_in}
use Rattle.apex_machine.specs.Locks.{lock_left}
use Rattle.apex_machine.specs.State.{Lock, Partition, Table, change_at, is_named, is_same, item_at, set_at, is_of_object, is_same_end, entries_at_end, with_ends, with_objects, objects_of, ObjectOf}
use Rattle.apex_machine.specs.Waiting.{is_in, set_after, waits_at}
use Rattle.apex_laws.specs.Laws.{AllEntries, entries_at}
use Rattle.apex_laws.specs.PartLaws.{HasDistinctObjects, IsSoundPart}
use Rattle.apex_laws.specs.PartObjects.{left_by, without_one, at_end, with_set}
use Rattle.apex_laws.specs.PartSets.{left_if_there, named_left}
use Rattle.apex_laws.proofs.Booleans.{cannot_hold, neither_first, neither_later, other_holds, same_if}
use Rattle.apex_laws.proofs.Objects.{each_set_has}
use Rattle.apex_laws.proofs.PartSets.{each_named_leaves}
use Rattle.apex_laws.proofs.SoundParts.{sets_distinct}
use Rattle.apex_laws.proofs.Waiters.{all_without}
use Rattle.apex_laws.proofs.WaitersOf.{same_is, same_itself}
use Rattle.partition_objects.proofs.Tables.{change-absent}
use Rattle.partition_state.specs.Calls.{IsAtWork}
use Rattle.partition_state.specs.Leaving.{HasEntryOnlyAt, HasEntryWhereItWaits}
use Rattle.partition_state.proofs.Sets.{change_found}
use Rattle.apex_laws.proofs.SetNames.{ends_agree}
use Rattle.apex_types.specs.declared.shape.End.{End}
use Rattle.apex_types.specs.declared.object_kind.ObjectKind.{ObjectKind}

-- one set

same_swap : (one other : Who) → is_same one other ≡ is_same other one
same_swap one other = by (is_same one other) refl
  where
    by : (b : Bool) → is_same one other ≡ b → b ≡ is_same other one
    by true e = rw (same_is one other e) (sym (same_itself other))
    by false e = sym (cannot_hold (is_same other one) (λ same. true≢false (sym (rw (same_is other one same) (same_itself one)) ∙ e)))

-- a set stays if a process leaves that is not in it
stays_apart : (who : Who) (entries : List Entry) → has_entry_in who entries ≡ false → without_one who entries ≡ entries
stays_apart who [] apart = refl
stays_apart who (entry ∷ entries) apart =
    let first : is_same who entry.who ≡ false = neither_first _ _ apart in
    let swap : is_same entry.who who ≡ is_same who entry.who = same_swap entry.who who in
    let rest = stays_apart who entries (neither_later _ _ apart) in
    rw (swap, first) (ap (λ others. entry ∷ others) rest)

-- who leaves every end of an object leaves the set in which it has its entry
object_left : (who : Who) (wanted : WaitingSet) (partition : Partition) → HasDistinctObjects partition → HasEntryOnlyAt who (wait.At wanted None) partition
    → with_objects wanted.kind (change_at wanted.number (with_ends wanted.kind (λ end. without_one who)) (objects_of partition wanted.kind)) partition ≡ with_set wanted (without_one who) partition
object_left who wanted partition has alone = ap (λ objects. with_objects wanted.kind objects partition) (by (item_at (objects_of partition wanted.kind) wanted.number) refl)
  where
    objects : List (ℕ × ObjectOf wanted.kind)
    objects = objects_of partition wanted.kind

    by : (found : Option (ObjectOf wanted.kind)) → item_at objects wanted.number ≡ found
        → change_at wanted.number (with_ends wanted.kind (λ end. without_one who)) objects ≡ change_at wanted.number (with_ends wanted.kind (at_end wanted.end (without_one who))) objects
    by None none = change-absent wanted.number _ objects none ∙ sym (change-absent wanted.number _ objects none)
    by (Some found) at =
        change_found wanted.number _ _ found objects (has wanted.kind) at
        (ends_agree wanted.kind (λ end. without_one who) (at_end wanted.end (without_one who)) found (λ off end. at_each end (cases_Bool (is_same_end wanted.end end))))
      where
        at_each : (end : End) → (is_same_end wanted.end end ≡ true) ⊎ (is_same_end wanted.end end ≡ false)
            → without_one who (entries_at_end wanted.kind end found) ≡ at_end wanted.end (without_one who) end (entries_at_end wanted.kind end found)
        at_each end (inl same) = rw same refl
        at_each end (inr differs) =
            rw differs (stays_apart who (entries_at_end wanted.kind end found) (cannot_hold (has_entry_in who (entries_at_end wanted.kind end found)) (λ is_member.
            true≢false (sym (and_parts (is_of_object wanted.kind wanted.number (set_at wanted.kind wanted.number end)) (is_same_end wanted.end end) (alone (set_at wanted.kind wanted.number end) (rw at is_member))).1 ∙ differs))))

-- so it is with an object whose kind the set names
pub left_at : (kind : ObjectKind) (who : Who) (wanted : WaitingSet) (partition : Partition) (left : List (ℕ × ObjectOf kind))
    → HasDistinctObjects partition → HasEntryOnlyAt who (wait.At wanted None) partition → wanted.kind ≡ kind
    → left ≡ change_at wanted.number (with_ends kind (λ end. without_one who)) (objects_of partition kind) → with_objects kind left partition ≡ left_by who (wait.At wanted None) partition
left_at kind who wanted partition left has alone is becomes =
    subst (λ kind. (left : List (ℕ × ObjectOf kind)) → left ≡ change_at wanted.number (with_ends kind (λ end. without_one who)) (objects_of partition kind) → with_objects kind left partition ≡ with_set wanted (without_one who) partition) is
    (λ left becomes. ap (λ objects. with_objects wanted.kind objects partition) becomes ∙ object_left who wanted partition has alone) left becomes

-- a port has no waiting set of its own
none_left : (kind : ObjectKind) (who : Who) (wanted : WaitingSet) (partition : Partition) → HasDistinctObjects partition → HasEntryOnlyAt who (wait.At wanted None) partition
    → wanted.kind ≡ kind → change_at wanted.number (with_ends kind (λ end. without_one who)) (objects_of partition kind) ≡ objects_of partition kind
    → with_objects kind (objects_of partition kind) partition ≡ left_by who (wait.At wanted None) partition
none_left kind who wanted partition has alone is stays = left_at kind who wanted partition (objects_of partition kind) has alone is (sym stays)

-- a change of nothing
pub nothing_changes : {Object : Type 0} (number : ℕ) (objects : List (ℕ × Object)) → change_at number (λ (found : Object). found) objects ≡ objects
nothing_changes number [] = refl
nothing_changes number (entry ∷ entries) = λ i. (entry.0, same_if (nat_eq entry.0 number) entry.1 i) ∷ nothing_changes number entries i

-- so a process that waits at a channel leaves no set of the partition
pub port_left : (who : Who) (wanted : WaitingSet) (partition : Partition) → HasDistinctObjects partition → HasEntryOnlyAt who (wait.At wanted None) partition
    → (wanted.kind ≡ kind.SamplingPort) ⊎ (wanted.kind ≡ kind.QueuingPort) → partition ≡ left_by who (wait.At wanted None) partition
port_left who wanted partition has alone (inl is) = none_left kind.SamplingPort who wanted partition has alone is (nothing_changes wanted.number partition.sampling_ports)
port_left who wanted partition has alone (inr is) = none_left kind.QueuingPort who wanted partition has alone is (nothing_changes wanted.number partition.queuing_ports)

-- a process that has an entry waits

-- each process with an entry in a set of an object waits there, by a table
abbrev AllWaitInSets : ℕ → Table → Partition → Type 0
AllWaitInSets number table partition =
    (wanted : WaitingSet) → AllEntries (λ entry. (entry.who.part ≡ number) × IsTrue (waits_at wanted (item_at table entry.who.proc))) (entries_at partition wanted)

-- a process that has an entry in a set waits there, if all do that have an entry in it
waits_in_it : (number : ℕ) (table : Table) (wanted : WaitingSet) (who : Who) (entries : List Entry)
    → AllEntries (λ entry. (entry.who.part ≡ number) × IsTrue (waits_at wanted (item_at table entry.who.proc))) entries → has_entry_in who entries ≡ true
    → waits_at wanted (item_at table who.proc) ≡ true
waits_in_it number table wanted who [] all is_member = absurd (true≢false (sym is_member))
waits_in_it number table wanted who (entry ∷ entries) all is_member =
    by (is_same who entry.who) refl (waits_in_it number table wanted who entries all.1)
  where
    by : (b : Bool) → is_same who entry.who ≡ b → (has_entry_in who entries ≡ true → waits_at wanted (item_at table who.proc) ≡ true)
        → waits_at wanted (item_at table who.proc) ≡ true
    by true e rest = rw (same_is who entry.who e) all.0.1
    by false e rest = rest (other_holds _ _ is_member e)

-- so a process has an entry in no set but the one in which it waits
pub where_it_waits : (number : ℕ) (partition : Partition) (who : Who) → AllWaitInSets number partition.table partition → HasEntryWhereItWaits who partition
where_it_waits number partition who are_there process at wanted is_member =
    let waits : waits_at wanted (Some process) ≡ true = rw at at (waits_in_it number partition.table wanted who (entries_at partition wanted) (are_there wanted) is_member) in
    (and_parts process.alive (is_in wanted process.wait) waits).1

-- the lock

-- its change leaves the objects, and so which sets have entries
lock_distinct : (partition : Partition) (lock : Lock) → HasDistinctObjects partition → HasDistinctObjects (record partition { lock = lock })
lock_distinct partition lock has kind.Buffer = has kind.Buffer
lock_distinct partition lock has other = has other

same_entries : (partition : Partition) (lock : Lock) (kind : ObjectKind) (number : ℕ) (end : End)
    → entries_at (record partition { lock = lock }) (set_at kind number end) ≡ entries_at partition (set_at kind number end)
same_entries partition lock kind.Buffer number end = refl
same_entries partition lock _ number end = refl

lock_where : (partition : Partition) (lock : Lock) (who : Who) → HasEntryWhereItWaits who partition → HasEntryWhereItWaits who (record partition { lock = lock })
lock_where partition lock who alone process at wanted is_member =
    alone process at wanted (rw (same_entries partition lock wanted.kind wanted.number wanted.end) at is_member)

-- so the target of a STOP has its entry where it waits, and numbers are distinct
pub stopped_distinct : (place : ℕ) (partition : Partition) (caller : Who) (lock : Lock) → IsAtWork place partition caller → HasDistinctObjects (record partition { lock = lock })
stopped_distinct place partition caller lock at_work = lock_distinct partition lock at_work.sound.objects

pub stopped_where : (place : ℕ) (partition : Partition) (caller : Who) (number : ℕ) (lock : Lock) → IsAtWork place partition caller
    → HasEntryWhereItWaits (record { part = caller.part; proc = number }) (record partition { lock = lock })
stopped_where place partition caller number lock at_work =
    lock_where partition lock (record { part = caller.part; proc = number })
    (where_it_waits caller.part partition (record { part = caller.part; proc = number }) at_work.sound.is_member)

-- those named, one after another

-- one more that is named leaves last
named_more : (number : ℕ) (table : Table) (named : List Who) (who : Who) (partition : Partition)
    → named_left number table (named ++ who ∷ []) partition
    ≡ (if nat_eq who.part number
    then left_if_there who (item_at table who.proc) (named_left number table named partition)
    else named_left number table named partition)
named_more number table [] who partition = refl
named_more number table (first ∷ named) who partition =
    named_more number table named who (if nat_eq first.part number then left_if_there first (item_at table first.proc) partition else partition)

-- while they leave, the processes stay
named_table : (number place : ℕ) (named : List Who) (partition : Partition) → IsSoundPart number place partition
    → (named_left number partition.table named partition).table ≡ partition.table
named_table number place named partition sound = rw (each_named_leaves number place partition named sound) refl

-- numbers stay distinct
pub named_distinct : (number place : ℕ) (named : List Who) (partition : Partition) → IsSoundPart number place partition
    → HasDistinctObjects (named_left number partition.table named partition)
named_distinct number place named partition sound =
    rw (each_named_leaves number place partition named sound)
    (lock_distinct (each_set (set_after place (Tick named)) partition) (lock_left place (Tick named) partition.lock)
    (sets_distinct (set_after place (Tick named)) partition sound.objects))

-- and a process that has an entry waits
named_wait_there : (number place : ℕ) (named : List Who) (partition : Partition) → IsSoundPart number place partition
    → AllWaitInSets number partition.table (named_left number partition.table named partition)
named_wait_there number place named partition sound =
    rw (each_named_leaves number place partition named sound) (λ wanted. after wanted)
  where
    after : AllWaitInSets number partition.table (sets_left place (Tick named) partition)
    after wanted =
        let Fact : Entry → Type 0 = λ entry. (entry.who.part ≡ number) × IsTrue (waits_at wanted (item_at partition.table entry.who.proc)) in
        rw (same_entries (each_set (set_after place (Tick named)) partition) (lock_left place (Tick named) partition.lock) wanted.kind wanted.number wanted.end)
        (each_set_has (AllEntries Fact) tt (set_after place (Tick named)) partition wanted
        (all_without Fact Fact (λ who. is_named who named) (λ entry stays is_member. is_member) (entries_at partition wanted) (sound.is_member wanted)))

-- so the process that is named next has its entry where it waits
pub named_where : (number place : ℕ) (named : List Who) (partition : Partition) (who : Who) → IsSoundPart number place partition
    → HasEntryWhereItWaits who (named_left number partition.table named partition)
named_where number place named partition who sound =
    let same = named_table number place named partition sound in
    let is_member = named_wait_there number place named partition sound in
    where_it_waits number (named_left number partition.table named partition) who (rw same is_member)

-- who is named next, and is of this partition, leaves the set in which it waits as before
pub next_leaves : (number place : ℕ) (named : List Who) (partition : Partition) (who : Who) → IsSoundPart number place partition → nat_eq who.part number ≡ true
    → left_if_there who (item_at (named_left number partition.table named partition).table who.proc) (named_left number partition.table named partition)
    ≡ named_left number partition.table (named ++ who ∷ []) partition
next_leaves number place named partition who sound here =
    let before : Partition = named_left number partition.table named partition in
    ap (λ table. left_if_there who (item_at table who.proc) before) (named_table number place named partition sound)
    ∙ sym (named_more number partition.table named who partition
    ∙ ap (λ own. if own then left_if_there who (item_at partition.table who.proc) before else before) here)

-- who is named next, and is of another partition, leaves none
pub next_stays : (number : ℕ) (named : List Who) (partition : Partition) (who : Who) → nat_eq who.part number ≡ false
    → named_left number partition.table named partition ≡ named_left number partition.table (named ++ who ∷ []) partition
next_stays number named partition who elsewhere =
    let before : Partition = named_left number partition.table named partition in
    sym (named_more number partition.table named who partition
    ∙ ap (λ own. if own then left_if_there who (item_at partition.table who.proc) before else before) elsewhere)
