-- The numbers of a partition stay bounded, by its own demands.
use Rattle.std.proofs.Common.{Bool, ◌≡◌, ◌⊎◌, ℕ, ◌+◌, ◌<◌, ◌≤◌, List, [], ◌∷◌, ◌++◌, true, false, cond, nat_eq, nat_lt, ◌&&◌, ℤ, pos, negsuc, Option, Some, None, option_map, refl, sym, ap, subst, ◌∙◌, inl, inr, arith, true≢false}
use Rattle.std.proofs.lemmas.Bool.{and_parts, eqb-true, leb-true}
use Rattle.apex_laws.specs.PartBounds.{GivesPeriod, IsBoundedPart, PartStaysBounded, period_limit, PeriodFits, place_limit, ReleasesFit, word_limit}
use Rattle.apex_types.specs.declared.object_kind.ObjectKind.TheVariants as kind
use Rattle.apex_types.specs.declared.operation.ObjectOperation.TheVariants as on
use Rattle.apex_laws.proofs.Common.{AllHold, Body, Call, CallerOperation, CallRecord, Claim, Condition, Configuration, CoreState, Disp, Effect, Entry, IsSoundPart, Mode, Mutex, MutexOperation, NamesThoseDue, NewObject, Out, Partition}
use Rattle.apex_laws.proofs.Common.{Process, ProcessOperation, Request, Ret, SamplingOperation, Table, Tick, Wait, WaitingSet, WakesHere, Who, acquired, acquired_again, acquired_from, adjusted, answer_of, call_demands, called, caller_after}
use Rattle.apex_laws.proofs.Common.{caller_with, change_at, channel_of, cold_partition, conditions_of, created_by, done, due_by, each_item, each_set, entries_at, falls_due, first_core, first_processes, first_waiter, handed_on}
use Rattle.apex_laws.proofs.Common.{initialising_process, is_done, is_in, is_named, is_no_error, is_released, is_suspension, item_at, message_of, mutex_released, names_one_of, natural_of, new_process, next_release, not_acquired, numbered}
use Rattle.apex_laws.proofs.Common.{objects_by, outcome_demands, partition_by, partition_demands, period_given, period_of, release_after, release_reached, release_taken, released, released_once, returned, set_after, set_by, stopped, stops}
use Rattle.apex_laws.proofs.Common.{ticked, time_of, waiting, waits_at, waits_for_normal, with_sets, woken_by, woken_if_named}
use Rattle.apex_laws.proofs.Common.{Arrive, Depart, Receivers, Senders, channel_set, time_of}
use Rattle.apex_laws.proofs.Common.{is_for_lock, waits_for_lock, Error, handles_more, reported}
use Rattle.apex_laws.proofs.Booleans.{by_test, either_way, impossible, never_found, one_item}
use Rattle.apex_laws.proofs.Codes.{no_error_is_done, not_done}
use Rattle.apex_laws.proofs.Errors.{reported_case}
use Rattle.apex_laws.proofs.Keeps.{set_by_wait, set_case}
use Rattle.apex_laws.proofs.Restarts.{call_case, done_case, return_case, woken_table, error_case}
use Rattle.apex_laws.proofs.SoundParts.{named_across, named_wait, own_holds, WaitsInSet, WaitsForLock}
use Rattle.apex_laws.proofs.Tables.{at_each}
use Rattle.apex_laws.proofs.Waiters.{all_weaker}
use Rattle.apex_laws.proofs.WaitersOf.{not_named}
use Rattle.apex_laws.proofs.Wakes.{answer_wakes, created_is, nobody}

-- lists of processes and objects

-- each that is found under its number has this
abbrev AllFound : {Item : Type 0} → (Item → Type 0) → List (ℕ × Item) → Type 0
AllFound {Item} Fact items = (number : ℕ) (item : Item) → item_at items number ≡ Some item → Fact item

-- each that a change makes has it
each_has : {Item : Type 0} (Fact : Item → Type 0) (change : ℕ → Item → Item) (items : List (ℕ × Item))
    → ((number : ℕ) (item : Item) → item_at items number ≡ Some item → Fact (change number item)) → AllFound Fact (each_item change items)
each_has {Item} Fact change items has number item at = by (item_at items number) refl (sym (at_each change items number) ∙ at)
  where
    by : (found : Option Item) → item_at items number ≡ found → option_map (change number) found ≡ Some item → Fact item
    by None none is = never_found is
    by (Some old) some is = subst Fact (one_item is) (has number old some)

-- what is found in two lists is found in one of them
found_either : {Item : Type 0} (items more : List (ℕ × Item)) (number : ℕ) (item : Item) → item_at (items ++ more) number ≡ Some item
    → (item_at items number ≡ Some item) ⊎ (item_at more number ≡ Some item)
found_either [] more number item at = inr at
found_either (entry ∷ entries) more number item at =
    either_way (nat_eq number entry.0) (λ same. inl (rw same (rw same at at))) (λ other. rw other (found_either entries more number item (rw other at at)))

-- so each of two lists has what each of either has
joined_has : {Item : Type 0} (Fact : Item → Type 0) (items more : List (ℕ × Item)) → AllFound Fact items → AllFound Fact more → AllFound Fact (items ++ more)
joined_has Fact items more first second number item at =
    elim (found_either items more number item at) [
      | inl here ↦ first number item here
      | inr those_after ↦ second number item those_after
    ]

-- what is created is the new one
numbered_has : {Item : Type 0} (Fact : Item → Type 0) (claimed : Option ℤ) (new : Item) → Fact new → AllFound Fact (numbered claimed new)
numbered_has Fact None new has number item at = never_found at
numbered_has Fact (Some (negsuc n)) new has number item at = never_found at
numbered_has Fact (Some (pos n)) new has number item at =
    by_test (λ found. found ≡ Some item → Fact item) (nat_eq number n) (Some new) None (λ same at. subst Fact (one_item at) has) (λ other at. never_found at) at

-- mutexes

-- a mutex was acquired at most so often
abbrev CountsTo : ℕ → Mutex → Type 0
CountsTo most mutex = mutex.count ≤ most

-- one call acquires a mutex once at most
acquired_counts : (place : ℕ) (owner : Option ℕ) (caller : ℕ) (time_out : ℤ) (mutex : Mutex) → CountsTo place mutex → CountsTo (place + 1) (acquired_from owner caller time_out mutex).next
acquired_counts place None caller time_out mutex most = omega arith
acquired_counts place (Some owner) caller time_out mutex most =
    by_test (λ (effect : Effect Mutex). CountsTo (place + 1) effect.next) (nat_eq owner caller) (acquired_again mutex) (not_acquired time_out mutex) (λ own. omega (arith, most)) (λ other. omega (arith, most))

handed_on_counts : (place : ℕ) (first : Option Entry) (mutex : Mutex) → CountsTo (place + 1) (handed_on first mutex).next
handed_on_counts place None mutex = omega arith
handed_on_counts place (Some waiter) mutex = omega arith

released_counts : (place : ℕ) (first : Option Entry) (mutex : Mutex) → CountsTo place mutex → CountsTo (place + 1) (mutex_released first mutex).next
released_counts place first mutex most =
    by_test (λ (effect : Effect Mutex). CountsTo (place + 1) effect.next) (nat_lt 1 mutex.count) (released_once mutex) (handed_on first mutex) (λ more. omega (arith, most)) (λ last. handed_on_counts place first mutex)

-- a change of one mutex
change_counts : (place number : ℕ) (change : Mutex → Mutex) (mutexes : List (ℕ × Mutex)) → ((mutex : Mutex) → CountsTo place mutex → CountsTo (place + 1) (change mutex))
    → AllFound (CountsTo place) mutexes → AllFound (CountsTo (place + 1)) (change_at number change mutexes)
change_counts place number change mutexes counts all =
    each_has (CountsTo (place + 1)) (λ other mutex. cond (nat_eq other number) (change mutex) mutex) mutexes
    (λ other mutex at. (let most = all other mutex at in
    by_test (CountsTo (place + 1)) (nat_eq other number) (change mutex) mutex (λ here. counts mutex most) (λ elsewhere. omega (arith, most))))

counts_later : (place : ℕ) (mutexes : List (ℕ × Mutex)) → AllFound (CountsTo place) mutexes → AllFound (CountsTo (place + 1)) mutexes
counts_later place mutexes all number mutex at = let most = all number mutex at in omega (arith, most)

-- the mutexes that a call uses or creates
used_counts : (configuration : Configuration) (place : ℕ) (who : Who) (claimed : Option ℤ) (asked : Request) (partition : Partition) → AllFound (CountsTo place) partition.mutexes
    → AllFound (CountsTo (place + 1)) (objects_by configuration who claimed asked partition).mutexes
used_counts configuration place who claimed (Request.Create name (NewObject.Mutex priority discipline)) partition all =
    joined_has (CountsTo (place + 1)) partition.mutexes _ (counts_later place partition.mutexes all) (numbered_has (CountsTo (place + 1)) claimed _ (omega arith))
used_counts configuration place who claimed (Request.Object mutex (on.Mutex (MutexOperation.Acquire time_out))) partition all =
    change_counts place (natural_of mutex) (λ found. (acquired who.proc time_out found).next) partition.mutexes
    (λ found most. acquired_counts place found.owner who.proc time_out found most) all
used_counts configuration place who claimed (Request.Object mutex (on.Mutex MutexOperation.Release)) partition all =
    change_counts place (natural_of mutex) (λ found. (mutex_released (first_waiter found.discipline found.waiters) found).next) partition.mutexes
    (λ found most. released_counts place (first_waiter found.discipline found.waiters) found most) all
used_counts configuration place who claimed (Request.Object mutex (on.Mutex (MutexOperation.Reset process))) partition all =
    change_counts place (natural_of mutex) (λ found. (handed_on (first_waiter found.discipline found.waiters) found).next) partition.mutexes
    (λ found most. handed_on_counts place (first_waiter found.discipline found.waiters) found) all
used_counts configuration place who claimed (Request.SamplingPort port SamplingOperation.Read) partition all = counts_later place partition.mutexes all
used_counts configuration place who claimed _ partition all = counts_later place partition.mutexes all

-- a change of the waiting sets leaves the counts
sets_count : (most : ℕ) (change : WaitingSet → List Entry → List Entry) (partition : Partition) → AllFound (CountsTo most) partition.mutexes → AllFound (CountsTo most) (each_set change partition).mutexes
sets_count most change partition all =
    each_has (CountsTo most) (with_sets kind.Mutex change) partition.mutexes (λ number found at. all number found at)

-- the mutexes of a partition after a record
counts_after : (configuration : Configuration) (cores : List CoreState) (place core number : ℕ) (body : Body) (partition : Partition) → AllFound (CountsTo place) partition.mutexes
    → AllFound (CountsTo (place + 1)) (partition_by configuration cores place core number body partition).mutexes
counts_after configuration cores place core number (Disp who) partition all = counts_later place partition.mutexes all
counts_after configuration cores place core number (Tick woken) partition all =
    sets_count (place + 1) (set_after place (Tick woken)) partition (counts_later place partition.mutexes all)
counts_after configuration cores place core number (Ret ret) partition all =
    return_case (λ next. AllFound (CountsTo (place + 1)) next.mutexes) configuration cores place core number ret partition (counts_later place partition.mutexes all) (counts_later place partition.mutexes all)
counts_after configuration cores place core number (Arrive crossing) partition all = counts_later place partition.mutexes all
counts_after configuration cores place core number (Depart crossing) partition all = counts_later place partition.mutexes all
counts_after configuration cores place core number (Error report) partition all =
    error_case (λ next. AllFound (CountsTo (place + 1)) next.mutexes) configuration cores place core number report partition
    (λ own none. counts_later place partition.mutexes all) (λ own restart is object mutex at. never_found at) (λ elsewhere. counts_later place partition.mutexes all)
counts_after configuration cores place core number (Call call) partition all =
    call_case (λ next. AllFound (CountsTo (place + 1)) next.mutexes) configuration cores place core number call partition
    (λ own none. sets_count (place + 1) (set_after place (Call call)) (cond (is_done call.claim.out) (objects_by configuration call.who call.claim.val call.request partition) partition)
    (done_case (λ next. AllFound (CountsTo (place + 1)) next.mutexes) configuration call partition
    (λ done. used_counts configuration place call.who call.claim.val call.request partition all) (counts_later place partition.mutexes all)))
    (λ own restart is object mutex at. never_found at)
    (λ elsewhere. counts_later place partition.mutexes all)

-- one process

-- its last release is at most this, and its period is one that a caller can give
abbrev IsBounded : ℕ → Process → Type 0
IsBounded most process = (process.last_release ≤ most) × ((period : ℕ) → process.period ≡ Some period → period < period_limit)

bounded_later : (place : ℕ) (process : Process) → IsBounded place process → IsBounded (place + 1) process
bounded_later place process bounded = (omega (arith, bounded.0), bounded.1)

-- a process with another's last release and period
abbrev KeepsRelease : Process → Process → Type 0
KeepsRelease old new = (new.last_release ≡ old.last_release) × (new.period ≡ old.period)

bounded_kept : (most : ℕ) (old new : Process) → KeepsRelease old new → IsBounded most old → IsBounded most new
bounded_kept most old new keeps bounded = (subst (λ last. last ≤ most) (sym keeps.0) bounded.0, λ period is. bounded.1 period (sym keeps.1 ∙ is))

-- what a call sets in a process leaves both
set_by_keeps : (place period : ℕ) (cores : List CoreState) (partition : Partition) (caller : ℕ) (asked : Request) (number : ℕ) (x : Process)
    → KeepsRelease x (set_by place period cores partition caller asked number x)
set_by_keeps place period cores partition caller asked number x =
    set_case (KeepsRelease x) place period cores partition caller asked number x (λ affinity current retained position faulted suspended. (refl, refl)) (λ now delay. (refl, refl))
    (λ waits now delay. (refl, refl)) (λ handler rests. (refl, refl))

adjusted_keeps : (place period : ℕ) (cores : List CoreState) (partition : Partition) (call : CallRecord) (number : ℕ) (x : Process)
    → KeepsRelease x (adjusted place period cores partition call number x)
adjusted_keeps place period cores partition call number x =
    by_test (KeepsRelease x) (is_done call.claim.out) (set_by place period cores partition call.who.proc call.request number x) x
    (λ done. set_by_keeps place period cores partition call.who.proc call.request number x) (λ not_done. (refl, refl))

-- waits that end by a call

-- the end of this wait is no release, and it isn't the wait for NORMAL
abbrev EndsNoRelease : Wait → Type 0
EndsNoRelease one = (waits_for_normal one ≡ false) × ((last : ℕ) → release_reached one last ≡ last)

in_set_ends : (wanted : WaitingSet) (one : Wait) → is_in wanted one ≡ true → EndsNoRelease one
in_set_ends wanted (Wait.At found due) is = (refl, λ last. refl)
in_set_ends wanted _ is = impossible is

lock_ends : (one : Wait) → is_for_lock one ≡ true → EndsNoRelease one
lock_ends Wait.ForLock is = (refl, λ last. refl)
lock_ends _ is = impossible is

suspension_ends : (one : Wait) → is_suspension one ≡ true → EndsNoRelease one
suspension_ends (Wait.Suspended due) is = (refl, λ last. refl)
suspension_ends _ is = impossible is

-- who waits in a set waits for no release
waiter_ends : (table : Table) (wanted : WaitingSet) (number : ℕ) (x : Process) → waits_at wanted (item_at table number) ≡ true → item_at table number ≡ Some x → EndsNoRelease x.wait
waiter_ends table wanted number x waits at =
    let here : waits_at wanted (Some x) ≡ true = subst (λ one. waits_at wanted one ≡ true) at waits in
    in_set_ends wanted x.wait (and_parts x.alive (is_in wanted x.wait) here).1

-- so does who waits for the lock
lock_waiter_ends : (table : Table) (number : ℕ) (x : Process) → waits_for_lock (item_at table number) ≡ true → item_at table number ≡ Some x → EndsNoRelease x.wait
lock_waiter_ends table number x waits at =
    let here : waits_for_lock (Some x) ≡ true = subst (λ one. waits_for_lock one ≡ true) at waits in
    lock_ends x.wait (and_parts x.alive (is_for_lock x.wait) here).1

-- such a wait ends with the last release as it was
woken_keeps : (place : ℕ) (message : List ℕ) (x : Process) → EndsNoRelease x.wait → KeepsRelease x (woken_by place message x)
woken_keeps place message x ends = (ends.1 x.last_release, refl)

woken_if_named_keeps : (place : ℕ) (message : List ℕ) (woken : List Who) (who : Who) (x : Process) → (is_named who woken ≡ true → EndsNoRelease x.wait)
    → KeepsRelease x (woken_if_named place message woken who x)
woken_if_named_keeps place message woken who x ends =
    by_test (KeepsRelease x) (is_named who woken) (woken_by place message x) x (λ named. woken_keeps place message x (ends named)) (λ not_named. (refl, refl))

-- if a service wakes a process, it starts none and lets none enter NORMAL
waking_keeps_wait : (configuration : Configuration) (place period : ℕ) (cores : List CoreState) (core : ℕ) (partition : Partition) (caller : Who) (asked : Request) (number : ℕ) (x : Process) (one : Who)
    → is_named one (answer_of configuration cores core caller partition asked).woken ≡ true → waits_for_normal x.wait ≡ false → (set_by place period cores partition caller.proc asked number x).wait ≡ x.wait
waking_keeps_wait configuration place period cores core partition caller (Request.Process process ProcessOperation.Start) number x one named normal = nobody one [] refl named
waking_keeps_wait configuration place period cores core partition caller (Request.Process process (ProcessOperation.DelayedStart delay)) number x one named normal = nobody one [] refl named
waking_keeps_wait configuration place period cores core partition caller asked number x one named normal = set_by_wait place period cores partition caller.proc asked number x tt normal

-- what an own call sets in a process whose wait it ends leaves a wait that ends with no release
own_ends : (configuration : Configuration) (number place core period : ℕ) (cores : List CoreState) (partition : Partition) (caller : Who) (asked : Request) (claim : Claim) → IsSoundPart number place partition
    → (conditions : List Condition) (channel : Option ℕ) → AllHold (outcome_demands conditions channel number asked (answer_of configuration cores core caller partition asked) claim)
    → (who : Who) → who.part ≡ number → is_named who claim.woken ≡ true → (x : Process) → item_at partition.table who.proc ≡ Some x
    → EndsNoRelease x.wait × ((set_by place period cores partition caller.proc asked who.proc x).wait ≡ x.wait)
own_ends configuration number place core period cores partition caller asked claim sound (condition ∷ conditions) channel hold who here named x at = nobody who claim.woken hold.1.1.1.1.0 named
own_ends configuration number place core period cores partition caller asked claim sound [] (Some channel) hold who here named x at =
    absurd (true≢false (sym named ∙ not_named who claim.woken (subst (λ part. names_one_of part claim.woken ≡ false) (sym here) hold.1.1.0)))
own_ends configuration number place core period cores partition caller asked claim sound [] None hold who here named x at =
    let Ends : Who → Type 0 = λ one. (y : Process) → item_at partition.table one.proc ≡ Some y → EndsNoRelease y.wait in
    let answered = sym (hold.1.1.1.1.0 who) ∙ named in
    let ends : EndsNoRelease x.wait = answer_wakes Ends configuration cores core caller partition asked
    (λ wanted used. all_weaker (WaitsInSet number wanted partition) (λ entry. Ends entry.who)
    (λ entry is_member y at. waiter_ends partition.table wanted entry.who.proc y is_member.1 at) (entries_at partition wanted) (sound.is_member wanted))
    (λ process target is suspends y at.
    (let is_member = created_is partition.table process target is in
    let same = one_item (sym is_member.2 ∙ ap (λ one. item_at partition.table (natural_of one)) (sym is_member.1) ∙ at) in
    subst (λ one. EndsNoRelease one.wait) same (suspension_ends target.wait suspends)))
    (λ gives. all_weaker (WaitsForLock number partition) (λ entry. Ends entry.who)
    (λ entry is_member y at. lock_waiter_ends partition.table entry.who.proc y is_member.1 at) partition.lock.waiters sound.lock.is_member) who answered x at in
    (ends, waking_keeps_wait configuration place period cores core partition caller asked who.proc x who answered ends.0)

-- the caller

-- PERIODIC_WAIT that answers NO_ERROR found the release reached
release_found : (configuration : Configuration) (conditions : List Condition) (number : ℕ) (cores : List CoreState) (core : ℕ) (partition : Partition) (caller : Who) (claim : Claim)
    → AllHold (outcome_demands conditions None number (Request.Caller CallerOperation.PeriodicWait) (answer_of configuration cores core caller partition (Request.Caller CallerOperation.PeriodicWait)) claim) → is_no_error claim.out ≡ true
    → is_released (time_of cores core) (item_at partition.table caller.proc) ≡ true
release_found configuration (condition ∷ conditions) number cores core partition caller claim hold no_error =
    absurd (true≢false (sym (no_error_is_done claim.out no_error) ∙ not_done (condition ∷ conditions) claim.out hold.1.0))
release_found configuration [] number cores core partition caller claim hold no_error =
    elim (is_released (time_of cores core) (item_at partition.table caller.proc)) as (λ reached. is_no_error (cond reached done waiting).out ≡ true → reached ≡ true) [ true ↦ λ is. refl | false ↦ λ is. is ]
    (ap is_no_error (sym hold.1.0) ∙ no_error)

taken_bounded : (place : ℕ) (asked : Request) (x : Process) → x.last_release ≤ place → (asked ≡ (Request.Caller CallerOperation.PeriodicWait) → next_release x ≤ place) → release_taken asked x ≤ place + 1
taken_bounded place (Request.Caller CallerOperation.PeriodicWait) x last reached = let most = reached refl in omega (arith, most)
taken_bounded place _ x last reached = omega (arith, last)

caller_bounded : (place now : ℕ) (more : Bool) (call : CallRecord) (given : Out) (x : Process) → IsBounded place x → (is_no_error given ≡ true → release_taken call.request x ≤ place + 1)
    → IsBounded (place + 1) (record (cond more x (caller_with place now call given x)) { called_at = now })
caller_bounded place now true call given x bounded taken = (omega (arith, bounded.0), bounded.1)
caller_bounded place now false call Out.Waits x bounded taken = (omega (arith, bounded.0), bounded.1)
caller_bounded place now false call Out.Never x bounded taken = (omega (arith, bounded.0), bounded.1)
caller_bounded place now false call (Out.Answer code) x bounded taken = (
  by_test (λ release. release ≤ place + 1) (is_no_error (Out.Answer code)) (release_taken call.request x) x.last_release taken (λ off. omega (arith, bounded.0)),
  bounded.1,
)

-- the next release of a process that keeps its numbers
next_kept : (old new : Process) → KeepsRelease old new → next_release new ≡ next_release old
next_kept old new keeps = λ i. release_after (keeps.0 i) (keeps.1 i)

-- a call of one of these processes

-- what is demanded of its outcome
abbrev OutcomeHolds : Configuration → ℕ → List CoreState → ℕ → Partition → CallRecord → Request → Type 0
OutcomeHolds configuration number cores core partition call asked =
    AllHold (outcome_demands (conditions_of configuration (time_of cores core) call.who partition asked) (channel_of partition asked) number asked (answer_of configuration cores core call.who partition asked) call.claim)

-- the release that its caller takes is one that was reached
caller_takes : (configuration : Configuration) (number place : ℕ) (cores : List CoreState) (core : ℕ) (partition : Partition) (call : CallRecord) (x new : Process) → time_of cores core ≤ place → KeepsRelease x new
    → item_at partition.table call.who.proc ≡ Some x → OutcomeHolds configuration number cores core partition call call.request → IsBounded place new
    → is_no_error call.claim.out ≡ true → release_taken call.request new ≤ place + 1
caller_takes configuration number place cores core partition call x new most keeps at hold bounded no_error =
    taken_bounded place call.request new bounded.0
    (λ asked.
    (let own : OutcomeHolds configuration number cores core partition call (Request.Caller CallerOperation.PeriodicWait) = subst (OutcomeHolds configuration number cores core partition call) asked hold in
    let reached = release_found configuration (conditions_of configuration (time_of cores core) call.who partition (Request.Caller CallerOperation.PeriodicWait)) number cores core partition call.who call.claim
    own no_error in
    let here : is_released (time_of cores core) (Some x) ≡ true = subst (λ one. is_released (time_of cores core) one ≡ true) at reached in
    let before : next_release x ≤ time_of cores core = leb-true (next_release x) (time_of cores core) here in
    let same = next_kept x new keeps in
    omega (arith, before, same, most)))

called_bounded : (configuration : Configuration) (number place core : ℕ) (cores : List CoreState) (partition : Partition) (call : CallRecord) → IsSoundPart number place partition
    → call.who.part ≡ number → time_of cores core ≤ place → OutcomeHolds configuration number cores core partition call call.request
    → (period process : ℕ) (x : Process) → item_at partition.table process ≡ Some x → IsBounded place x → IsBounded (place + 1) (called place (time_of cores core) period cores partition call process x)
called_bounded configuration number place core cores partition call sound own most hold period process x at bounded =
    let changed = adjusted place period cores partition call process x in
    let keeps : KeepsRelease x changed = adjusted_keeps place period cores partition call process x in
    let kept : IsBounded place changed = bounded_kept place x changed keeps bounded in
    let who : Who = record { part = call.who.part; proc = process } in
    either_way (nat_eq process call.who.proc)
    (λ caller. (let there : item_at partition.table call.who.proc ≡ Some x = ap (item_at partition.table) (sym (eqb-true process call.who.proc caller)) ∙ at in
    let more = handles_more partition call.who.proc call.request in
    let after : IsBounded (place + 1) (caller_after place (time_of cores core) more call changed) = caller_bounded place (time_of cores core) more call call.claim.out changed kept
    (caller_takes configuration number place cores core partition call x changed most keeps there hold kept) in
    rw caller after))
    (λ other. (let ends : is_named who call.claim.woken ≡ true → EndsNoRelease changed.wait = λ named.
    (let both = own_ends configuration number place core period cores partition call.who call.request call.claim sound (conditions_of configuration (time_of cores core) call.who partition call.request)
    (channel_of partition call.request) hold who own named x at in
    by_test (λ (one : Process). EndsNoRelease one.wait) (is_done call.claim.out) (set_by place period cores partition call.who.proc call.request process x) x
    (λ done. subst EndsNoRelease (sym both.1) both.0) (λ not_done. both.0)) in
    rw other (by_test (IsBounded (place + 1)) (stops call who) (stopped changed) (woken_if_named place (message_of call.request) call.claim.woken who changed) (λ stops_it. bounded_later place changed kept)
    (λ goes_on. bounded_later place (woken_if_named place (message_of call.request) call.claim.woken who changed)
    (bounded_kept place changed (woken_if_named place (message_of call.request) call.claim.woken who changed) (woken_if_named_keeps place (message_of call.request) call.claim.woken who changed ends) kept)))))

-- a created process has no last release, and a period that fits
created_bounded : (most core : ℕ) (call : CallRecord) (asked : Request) → GivesPeriod asked → AllFound (IsBounded most) (created_by core call asked)
created_bounded most core call (Request.CreateProcess name priority period time_capacity) fits =
    by_test (AllFound (IsBounded most)) (is_done call.claim.out) (numbered call.claim.val (new_process core name priority period time_capacity)) []
    (λ done. numbered_has (IsBounded most) call.claim.val (new_process core name priority period time_capacity) (omega arith, given period fits)) (λ not_done number item at. never_found at)
  where
    given : (period : ℤ) → GivesPeriod (Request.CreateProcess name priority period time_capacity) → (one : ℕ) → period_given period ≡ Some one → one < period_limit
    given (pos n) fits one is = subst (λ one. one < period_limit) (one_item is) fits
    given (negsuc n) fits one is = never_found is
created_bounded most core call _ fits = λ number item at. never_found at

-- a call of another partition

-- a process that it names here waits in a channel's set
foreign_ends : (asked : Request) (chan : Option ℕ) (number : ℕ) (table : Table) (others : List Who) → WakesHere asked chan number table others → (who : Who) → who.part ≡ number
    → is_named who others ≡ true → (x : Process) → item_at table who.proc ≡ Some x → EndsNoRelease x.wait
foreign_ends asked chan number table others wakes who here named x at =
    let across = named_across asked chan number table others wakes who here named in
    waiter_ends table across.0 who.proc x across.2 at

-- the processes of a partition at a record of others that ends waits without a release
woken_bounded : (place number : ℕ) (message : List ℕ) (woken : List Who) (table : Table)
    → ((who : Who) → who.part ≡ number → is_named who woken ≡ true → (x : Process) → item_at table who.proc ≡ Some x → EndsNoRelease x.wait)
    → AllFound (IsBounded place) table → AllFound (IsBounded (place + 1)) (woken_table place number message woken table)
woken_bounded place number message woken table ends all =
    let change : ℕ → Process → Process = λ other process. woken_if_named place message woken (record { part = number; proc = other }) process in
    each_has (IsBounded (place + 1)) change table
    (λ process x at. bounded_later place (change process x) (bounded_kept place x (change process x)
    (woken_if_named_keeps place message woken (record { part = number; proc = process }) x (λ named. ends (record { part = number; proc = process }) refl named x at))
    (all process x at)))

-- a tick

-- a release that falls due is reached
due_bounded : (most time last : ℕ) (one : Wait) → last ≤ most → time ≤ most → due_by time one ≡ true → release_reached one last ≤ most
due_bounded most time last (Wait.FirstRelease due) before now is = let reached : due ≤ time = leb-true due time is in omega (arith, reached, now)
due_bounded most time last (Wait.PeriodicRelease due) before now is = let reached : due ≤ time = leb-true due time is in omega (arith, reached, now)
due_bounded most time last _ before now is = before

ticked_bounded : (place now core number : ℕ) (table : Table) (woken : List Who) → now ≤ place → NamesThoseDue number core (now + 1) table woken
    → (process : ℕ) (x : Process) → item_at table process ≡ Some x → IsBounded place x → IsBounded (place + 1) (ticked place number woken process x)
ticked_bounded place now core number table woken most due process x at bounded =
    let who : Who = record { part = number; proc = process } in
    by_test (IsBounded (place + 1)) (is_named who woken) (released place x) x
    (λ named. (let falls : (nat_eq x.affinity core && due_by (now + 1) x.wait) ≡ true = subst (λ one. falls_due core (now + 1) one ≡ true) at (sym (due process) ∙ named) in
    let later : x.last_release ≤ place + 1 = omega (arith, bounded.0) in
    let time : now + 1 ≤ place + 1 = omega (arith, most) in
    (due_bounded (place + 1) (now + 1) x.last_release x.wait later time (and_parts (nat_eq x.affinity core) (due_by (now + 1) x.wait) falls).1, bounded.1)))
    (λ not_named. bounded_later place x bounded)

-- the processes of a partition as it starts
start_bounded : (entered : Mode) (core place most : ℕ) → AllFound (IsBounded most) (first_processes entered core place)
start_bounded entered core place most = by entered
  where
    initialising : AllFound (IsBounded most) ((0, initialising_process core place) ∷ [])
    initialising =
        numbered_has (IsBounded most) (Some (pos 0)) (initialising_process core place)
        (omega arith, λ period is. never_found is)

    by : (started : Mode) → AllFound (IsBounded most) (first_processes started core place)
    by Mode.Idle = λ process x at. never_found at
    by _ = initialising

-- the table of a partition after a record
bounded_after : (configuration : Configuration) (number : ℕ) (cores : List CoreState) (partition : Partition) (place core : ℕ) (body : Body)
    → IsSoundPart number place partition → time_of cores core ≤ place → PeriodFits body → AllHold (partition_demands configuration number cores partition core body)
    → AllFound (IsBounded place) partition.table → AllFound (IsBounded (place + 1)) (partition_by configuration cores place core number body partition).table
bounded_after configuration number cores partition place core (Disp who) sound most fits hold all = λ process x at. bounded_later place x (all process x at)
bounded_after configuration number cores partition place core (Tick woken) sound most fits hold all =
    each_has (IsBounded (place + 1)) (ticked place number woken) partition.table
    (λ process x at. ticked_bounded place (time_of cores core) core number partition.table woken most hold.1.1.0 process x at (all process x at))
bounded_after configuration number cores partition place core (Ret ret) sound most fits hold all =
    return_case (λ next. AllFound (IsBounded (place + 1)) next.table) configuration cores place core number ret partition
    (each_has (IsBounded (place + 1)) (returned ret.who.proc) partition.table
    (λ process x at. bounded_kept (place + 1) x (returned ret.who.proc process x)
    (by_test (KeepsRelease x) (nat_eq process ret.who.proc) (record x { due = None }) x (λ own. (refl, refl)) (λ other. (refl, refl)))
    (bounded_later place x (all process x at))))
    (λ process x at. bounded_later place x (all process x at))
bounded_after configuration number cores partition place core (Error report) sound most fits hold all =
    error_case (λ next. AllFound (IsBounded (place + 1)) next.table) configuration cores place core number report partition
    (λ own none. each_has (IsBounded (place + 1)) (reported place partition report) partition.table
    (λ process x at. bounded_kept (place + 1) x (reported place partition report process x)
    (reported_case (KeepsRelease x) place partition report process x (λ deadline faulted. (refl, refl)) (λ handler deadline rests. (refl, refl)))
    (bounded_later place x (all process x at))))
    (λ own restart is. start_bounded restart.mode (first_core configuration report.who.part) place (place + 1))
    (λ elsewhere process x at. bounded_later place x (all process x at))
bounded_after configuration number cores partition place core (Call call) sound most fits hold all =
    let Fact = IsBounded (place + 1) in
    let now = time_of cores core in
    let period = period_of configuration call.who.part in
    call_case (λ next. AllFound Fact next.table) configuration cores place core number call partition
    (λ own none.
    (let demands = own_holds configuration number core cores partition call own hold in
    joined_has Fact (each_item (called place now period cores partition call) partition.table) (created_by (first_core configuration call.who.part) call call.request)
    (each_has Fact (called place now period cores partition call) partition.table
    (λ process x at. called_bounded configuration number place core cores partition call sound (eqb-true call.who.part number own) most demands.1.1.1.1.1.1 period process x at (all process x at)))
    (created_bounded (place + 1) (first_core configuration call.who.part) call call.request fits)))
    (λ own restart is. start_bounded restart.mode (first_core configuration call.who.part) place (place + 1))
    (λ elsewhere.
    (let demands = subst (λ one. AllHold (call_demands one configuration number cores partition core call)) elsewhere hold in
    woken_bounded place number (message_of call.request) call.claim.woken partition.table
    (λ who here named x at. foreign_ends call.request call.claim.chan number partition.table call.claim.woken demands.1.1.0 who here named x at) all))
bounded_after configuration number cores partition place core (Arrive crossing) sound most fits hold all =
    woken_bounded place number crossing.message crossing.woken partition.table
    (λ who here named x at. waiter_ends partition.table (channel_set crossing.chan Receivers) who.proc x
    (named_wait (channel_set crossing.chan Receivers) number partition.table crossing.woken hold.0 who here named) at) all
bounded_after configuration number cores partition place core (Depart crossing) sound most fits hold all =
    woken_bounded place number [] crossing.woken partition.table
    (λ who here named x at. waiter_ends partition.table (channel_set crossing.chan Senders) who.proc x
    (named_wait (channel_set crossing.chan Senders) number partition.table crossing.woken hold.0 who here named) at) all

-- the whole partition

cold_bounded : (configuration : Configuration) (number place : ℕ) → IsBoundedPart place (cold_partition configuration number)
cold_bounded configuration number place =
    let all : AllFound (IsBounded place) (cold_partition configuration number).table = start_bounded Mode.ColdStart (first_core configuration number) 0 place in record {
      counts = λ object mutex at. never_found at;
      releases = λ process x at. (all process x at).0;
      periods = λ process x period at is. (all process x at).1 period is;
    }

stays_bounded : (configuration : Configuration) (number : ℕ) (cores : List CoreState) (partition : Partition) (place core : ℕ) (body : Body)
    → IsSoundPart number place partition → IsBoundedPart place partition → time_of cores core ≤ place → PeriodFits body
    → AllHold (partition_demands configuration number cores partition core body)
    → IsBoundedPart (place + 1) (partition_by configuration cores place core number body partition)
stays_bounded configuration number cores partition place core body sound bounded most fits hold =
    let all = bounded_after configuration number cores partition place core body sound most fits hold
    (λ process x at. (bounded.releases process x at, λ period is. bounded.periods process x period at is)) in record {
      counts = counts_after configuration cores place core number body partition bounded.counts;
      releases = λ process x at. (all process x at).0;
      periods = λ process x period at is. (all process x at).1 period is;
    }

later_bounded : (place later : ℕ) (partition : Partition) → place ≤ later → IsBoundedPart place partition → IsBoundedPart later partition
later_bounded place later partition most bounded = record {
  counts = λ object mutex at. (let count = bounded.counts object mutex at in omega (arith, count, most));
  releases = λ process x at. (let last = bounded.releases process x at in omega (arith, last, most));
  periods = bounded.periods;
}

pub part_stays_bounded : PartStaysBounded
part_stays_bounded = (
  cold_bounded,
  λ configuration number cores partition ordered sound bounded times fits hold.
      stays_bounded configuration number cores partition ordered.pos ordered.core ordered.rec.body sound bounded (times ordered.core) fits hold,
  later_bounded,
)

-- the next release

next_fits : (place last : ℕ) (period : Option ℕ) → last ≤ place → place < place_limit → ((one : ℕ) → period ≡ Some one → one < period_limit) → release_after last period < word_limit
next_fits place last None before most fits = omega (arith, before, most)
next_fits place last (Some period) before most fits = let below = fits period refl in omega (arith, before, most, below)

pub releases_fit : ReleasesFit
releases_fit place partition number process bounded most at =
    next_fits place process.last_release process.period (bounded.releases number process at) most (λ period is. bounded.periods number process period at is)
