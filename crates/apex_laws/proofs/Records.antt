-- What dispatches, ticks, returns and refused calls do is what the sentences say.
use Rattle.std.proofs.Common.{◌≡◌, ℕ, ap, subst, ◌∙◌, List, [], ◌⊎◌, ◌∷◌, ◌++◌, Bool, true, false, cond, IsTrue, IsFalse, refl, sym, inl, inr, true≢false, ◌+◌, length, nat_eq, Option, Some, None, ◌&&◌, zero, suc, ℤ, pos, negsuc}
use Rattle.std.proofs.lemmas.Bool.{cases_Bool, eqb-true}
use Rattle.std.proofs.lemmas.List.{append-nil}
use Rattle.apex_types.specs.declared.object_kind.ObjectKind.TheVariants as kind
use Rattle.apex_laws.proofs.Common.{AllConfigured, Answer, Body, Call, CallRecord, Channel, Claim, Code, Condition, Configuration, CoreState, Disp, DispatchIsTheSentence, Entry, FallsDue, HasCode, HasNoValues, HasOutcome, IsCodeOf}
use Rattle.apex_laws.proofs.Common.{IsInitialising, IsLawfulBody, IsLawfulTick, IsRefused, IsRestartOf, IsSetAfterCall, IsStart, KeepsOnly, Mode, ObjectKind, Ordered, Out, Partition, Process, Receivers, RefusalIsTheSentence, Request}
use Rattle.apex_laws.proofs.Common.{RestartIsTheSentence, Restarts, Ret, ReturnIsTheSentence, Senders, SetIsTheSentence, State, Step, Table, Tick, TickIsTheSentence, WaitingSet, Who, answer_of, called, caller_after, caller_with}
use Rattle.apex_laws.proofs.Common.{channel_effect, channel_of, channel_set, conditions_of, content_by, cores_by, created_by, each_item, each_set, emptied, ends_wait, enters, entries_at, entry_of, falls_due, first_core, first_processes}
use Rattle.apex_laws.proofs.Common.{has_partition, initialising_process, is_channel, is_done, is_named, is_no_error, is_same, is_waiting, item_at, mode_by, never, objects_by, objects_called, objects_of, occupant_of, outcome_of}
use Rattle.apex_laws.proofs.Common.{outcome_returned, own_partition, partition_by, partition_called, period_of, process_in, release_taken, released, renews, restart_of, returned, service_of, set_after}
use Rattle.apex_laws.proofs.Common.{started_partition, stops, ticked, time_of, use_of, with_sets, without, woken_if_named}
use Rattle.apex_laws.proofs.Common.{CallerOperation, Lock, errors_by, handler_by, handles_more, lock_by, lock_called, lock_left, lock_waiters_after, message_of, sets_left, deadline_by}
use Rattle.apex_laws.proofs.Booleans.{by_test, cannot_hold, either_way, impossible, is_itself, never_found, not_first, one_item, other_holds}
use Rattle.apex_laws.proofs.Codes.{no_error_is_done, not_done}
use Rattle.apex_laws.proofs.Keeps.{same_sets_with}
use Rattle.apex_laws.proofs.Objects.{each_itself, each_set_each, each_set_holds, Leaves}
use Rattle.apex_laws.proofs.ProcessRules.{due_is_the_sentence, release_is_the_sentence}
use Rattle.apex_laws.proofs.Restarts.{goes_on, no_restart, not_done_goes_on, restarts_none, return_case, woken_table}
use Rattle.apex_laws.proofs.SetNames.{ends_kept}
use Rattle.apex_laws.proofs.Tables.{core_changes, core_stays, count_stays, gives_occupant, gives_time, stays_each, turns_each}
use Rattle.apex_laws.proofs.Untouched.{each_stays, not_woken_if_named}
use Rattle.apex_laws.proofs.WaitersOf.{due_exists, free_exists, same_is, same_who}

-- What a step says, if the record's body is known.

-- the body is lawful
pub lawful_body : (configuration : Configuration) (state : State) (ordered : Ordered) (next : State) (body : Body)
    → Step configuration state ordered next → ordered.rec.body ≡ body → IsLawfulBody configuration state ordered.core body
lawful_body configuration state ordered next body step is = subst (IsLawfulBody configuration state ordered.core) is step.0.claims

-- the partitions of the next state
pub next_partition : (configuration : Configuration) (state : State) (ordered : Ordered) (next : State) (body : Body)
    → Step configuration state ordered next → ordered.rec.body ≡ body → (number : ℕ)
    → next.partitions number ≡ partition_by configuration state.cores ordered.pos ordered.core number body (state.partitions number)
next_partition configuration state ordered next body step is number =
    ap (λ one. one.partitions number) step.1
    ∙ ap (λ one. partition_by configuration state.cores ordered.pos ordered.core number one (state.partitions number)) is

-- a channel after a body at this place and core
abbrev pub channel_by : Configuration → State → ℕ → ℕ → ℕ → Body → Channel
channel_by configuration state place core number body = record {
  content = content_by configuration (time_of state.cores core) number body (state.channels number);
  senders = set_after place body (channel_set number Senders) (state.channels number).senders;
  receivers = set_after place body (channel_set number Receivers) (state.channels number).receivers;
}

-- the channels of the next state
pub next_channel : (configuration : Configuration) (state : State) (ordered : Ordered) (next : State) (body : Body)
    → Step configuration state ordered next → ordered.rec.body ≡ body → (number : ℕ)
    → next.channels number ≡ channel_by configuration state ordered.pos ordered.core number body
next_channel configuration state ordered next body step is number =
    ap (λ one. one.channels number) step.1 ∙ ap (channel_by configuration state ordered.pos ordered.core number) is

-- the cores of the next state
pub next_cores : (configuration : Configuration) (state : State) (ordered : Ordered) (next : State) (body : Body)
    → Step configuration state ordered next → ordered.rec.body ≡ body → next.cores ≡ cores_by ordered.core body state.cores
next_cores configuration state ordered next body step is = ap (λ one. one.cores) step.1 ∙ ap (λ one. cores_by ordered.core one state.cores) is

-- A partition's objects without those who wait: a change of its waiting sets leaves them.

-- the objects without those who wait are as they were before the sets changed
pub emptied_same : (change : WaitingSet → List Entry → List Entry) (partition : Partition) → emptied (each_set change partition) ≡ emptied partition
emptied_same change partition = each_set_each change (λ wanted entries. []) (record partition { table = []; lock = record partition.lock { waiters = [] } })

-- a change that leaves each set leaves the partition
pub sets_same : (change : WaitingSet → List Entry → List Entry) (partition : Partition) → ((wanted : WaitingSet) (entries : List Entry) → change wanted entries ≡ entries)
    → each_set change partition ≡ partition
sets_same change partition leaves =
    let stay : (kind : ObjectKind) → each_item (with_sets kind change) (objects_of partition kind) ≡ objects_of partition kind =
    λ kind. (λ i. each_item (with_sets kind (λ wanted entries. leaves wanted entries i)) (objects_of partition kind))
    ∙ (λ i. each_item (λ number found. ends_kept kind found i) (objects_of partition kind)) ∙ each_itself (objects_of partition kind) in
    λ i. record partition { buffers = stay kind.Buffer i; blackboards = stay kind.Blackboard i; semaphores = stay kind.Semaphore i; events = stay kind.Event i; mutexes = stay kind.Mutex i }

-- Waiting sets after a record, in sentences.

-- the processes that stay are those that do not leave, if the test says which ones leave
pub keeps_only : (Leaves : Who → Type 0) (leaves : Who → Bool) → ((who : Who) → leaves who ≡ true → Leaves who) → ((who : Who) → leaves who ≡ false → ¬ Leaves who)
    → (entries : List Entry) → KeepsOnly Leaves entries (without leaves entries)
keeps_only Leaves leaves goes stays [] = refl
keeps_only Leaves leaves goes stays (entry ∷ entries) =
    let rest = keeps_only Leaves leaves goes stays entries in
    by_test (KeepsOnly Leaves (entry ∷ entries)) (leaves entry.who) (without leaves entries) (entry ∷ without leaves entries)
    (λ passed. inl (goes entry.who passed, rest)) (λ kept. inr (without leaves entries, stays entry.who kept, refl, rest))

-- and they are no others
pub only_kept : (leaves : Who → Bool) (entries new : List Entry) → KeepsOnly (λ who. IsTrue (leaves who)) entries new → new ≡ without leaves entries
only_kept leaves [] new kept = kept
only_kept leaves (entry ∷ entries) new (inl passed) = rw passed.0 (only_kept leaves entries new passed.1)
only_kept leaves (entry ∷ entries) new (inr stays) =
    let not_passed : leaves entry.who ≡ false = cannot_hold (leaves entry.who) stays.1 in
    stays.2 ∙ ap (λ rest. entry ∷ rest) (only_kept leaves entries stays.0 stays.3) ∙ sym (ap (λ passed. cond passed (without leaves entries) (entry ∷ without leaves entries)) not_passed)

-- a set after a call
pub set_says : (place : ℕ) (call : CallRecord) (wanted : WaitingSet) (old new : List Entry) → new ≡ set_after place (Call call) wanted old → IsSetAfterCall place call wanted old new
set_says place call wanted old new is = record {
  rest = without (ends_wait call) old;
  kept = keeps_only (λ who. IsTrue (ends_wait call who)) (ends_wait call) (λ who passed. passed) (λ who stays passed. true≢false (sym passed ∙ stays)) old;
  entered = either_way (enters call wanted) (λ here. inl (here, rw here at is)) (λ elsewhere. inr (elsewhere, rw elsewhere at is));
}

set_back : (place : ℕ) (call : CallRecord) (wanted : WaitingSet) (old new : List Entry) → IsSetAfterCall place call wanted old new → new ≡ set_after place (Call call) wanted old
set_back place call wanted old new is = by is.entered
  where
    by : (IsTrue (enters call wanted) × (new ≡ is.rest ++ entry_of place call ∷ [])) ⊎ (IsFalse (enters call wanted) × (new ≡ is.rest)) → new ≡ set_after place (Call call) wanted old
    by (inl here) = rw here.0 (here.1 ∙ ap (λ rest. rest ++ entry_of place call ∷ []) (only_kept (ends_wait call) old is.rest is.kept))
    by (inr elsewhere) = rw elsewhere.0 (elsewhere.1 ∙ only_kept (ends_wait call) old is.rest is.kept)

pub set_is_the_sentence : SetIsTheSentence
set_is_the_sentence place call wanted old new = (set_says place call wanted old new, set_back place call wanted old new)

-- What dispatches, ticks, returns and refused calls do is what the sentences say.

-- dispatches

pub dispatch_is_the_sentence : DispatchIsTheSentence
dispatch_is_the_sentence configuration state ordered who next step is within =
    let core = ordered.core in
    let change : CoreState → CoreState = λ one. record one { occupant = who } in
    let cores = next_cores configuration state ordered next (Disp who) step is in
    record {
      occupant = subst (λ one. occupant_of one core ≡ who) (sym cores) (core_changes gives_occupant change (λ one. who) core state.cores within (λ one. refl));
      occupants = λ other differs. subst (λ one. occupant_of one other ≡ occupant_of state.cores other) (sym cores) (core_stays gives_occupant change core state.cores other (λ same. absurd (differs same)));
      times = λ other. subst (λ one. time_of one other ≡ time_of state.cores other) (sym cores) (core_stays gives_time change core state.cores other (λ same one. refl));
      count = subst (λ one. length one ≡ length state.cores) (sym cores) (count_stays change core state.cores);
      partitions = next_partition configuration state ordered next (Disp who) step is;
      channels = next_channel configuration state ordered next (Disp who) step is;
    }

-- returns

pub return_is_the_sentence : ReturnIsTheSentence
return_is_the_sentence configuration state ordered ret next step is =
    let law = lawful_body configuration state ordered next (Ret ret) step is in
    let partitions = next_partition configuration state ordered next (Ret ret) step is in
    let old = due_exists (process_in state ret.who) (outcome_returned ret) law.due in
    let table = (state.partitions ret.who.part).table in
    let own : next.partitions ret.who.part ≡ record (state.partitions ret.who.part) { table = each_item (returned ret.who.proc) table } =
    partitions ret.who.part ∙ ap (λ test. cond test (record (state.partitions ret.who.part) { table = each_item (returned ret.who.proc) table }) (state.partitions ret.who.part)) (is_itself ret.who.part) in
    record {
      changed = record {
        old = old.0;
        new = record old.0 { due = None };
        before = old.1;
        after = ap (λ (one : Partition). item_at one.table ret.who.proc) own ∙ turns_each (returned ret.who.proc) table ret.who.proc old.0 old.1
            ∙ ap (λ test. Some (cond test (record old.0 { due = None }) old.0)) (is_itself ret.who.proc);
        change = refl;
      };
      others = λ other differs. ap (λ (one : Partition). item_at one.table other.proc) (partitions other.part)
          ∙ either_way (nat_eq ret.who.part other.part)
          (λ here. rw here (stays_each (returned ret.who.proc) (state.partitions other.part).table other.proc
          (λ one at. either_way (nat_eq other.proc ret.who.proc)
          (λ same. absurd (differs (same_who other ret.who (sym (eqb-true ret.who.part other.part here)) (eqb-true other.proc ret.who.proc same))))
          (λ apart. rw apart refl))))
          (λ elsewhere. rw elsewhere refl);
      rest = λ number. by number (partitions number);
      channels = next_channel configuration state ordered next (Ret ret) step is;
      cores = next_cores configuration state ordered next (Ret ret) step is;
    }
  where
    by : (number : ℕ) → next.partitions number ≡ partition_by configuration state.cores ordered.pos ordered.core number (Ret ret) (state.partitions number)
        → next.partitions number ≡ record (state.partitions number) { table = (next.partitions number).table }
    by number at = at ∙ return_case (λ one. one ≡ record (state.partitions number) { table = one.table }) configuration state.cores ordered.pos ordered.core number ret (state.partitions number) refl refl
        ∙ ap (λ (one : Partition). let back : Partition = record (state.partitions number) { table = one.table } in back) (sym at)

-- ticks

-- a named process is of a configured partition
named_configured : (configuration : Configuration) (who : Who) (others : List Who) → AllConfigured configuration others → is_named who others ≡ true → IsTrue (has_partition configuration who.part)
named_configured configuration who [] all named = impossible named
named_configured configuration who (other ∷ others) all named =
    either_way (is_same who other) (λ same. subst (λ one. IsTrue (has_partition configuration one.part)) (sym (same_is who other same)) all.0)
    (λ differs. named_configured configuration who others all.1 (other_holds _ _ named differs))

-- who is named falls due
named_due : (configuration : Configuration) (state : State) (core : ℕ) (woken : List Who) → IsLawfulTick configuration state core woken → (who : Who) → is_named who woken ≡ true
    → FallsDue configuration state core (time_of state.cores core + 1) who
named_due configuration state core woken law who named =
    let configured = named_configured configuration who woken law.names named in
    let due : falls_due core (time_of state.cores core + 1) (process_in state who) ≡ true = sym (law.due who.part configured who.proc) ∙ named in
    by configured (process_in state who) refl due
  where
    by : IsTrue (has_partition configuration who.part) → (found : Option Process) → process_in state who ≡ found → falls_due core (time_of state.cores core + 1) found ≡ true
        → FallsDue configuration state core (time_of state.cores core + 1) who
    by configured None at due = impossible due
    by configured (Some process) at due = record { configured = configured; process = process; is_member = at; due = (due_is_the_sentence core (time_of state.cores core + 1) process).0 due }

-- who falls due is named
due_named : (configuration : Configuration) (state : State) (core : ℕ) (woken : List Who) → IsLawfulTick configuration state core woken → (who : Who)
    → FallsDue configuration state core (time_of state.cores core + 1) who → is_named who woken ≡ true
due_named configuration state core woken law who falls =
    law.due who.part falls.configured who.proc ∙ ap (falls_due core (time_of state.cores core + 1)) falls.is_member
    ∙ (due_is_the_sentence core (time_of state.cores core + 1) falls.process).1 falls.due

-- the entries of a set of a partition whose sets changed
pub sets_changed : (change : WaitingSet → List Entry → List Entry) (partition : Partition) → ((wanted : WaitingSet) → change wanted [] ≡ []) → (wanted : WaitingSet)
    → entries_at (each_set change partition) wanted ≡ change wanted (entries_at partition wanted)
sets_changed change partition none wanted =
    each_set_holds (λ entries. entries ≡ change wanted (entries_at partition wanted)) change partition wanted (λ absent empty. sym (ap (change wanted) empty ∙ none wanted)) refl

-- a set of a partition after a tick
ticked_set : (place number : ℕ) (woken : List Who) (state : State) (wanted : WaitingSet)
    → entries_at (record (sets_left place (Tick woken) (state.partitions number)) { table = each_item (ticked place number woken) (state.partitions number).table }) wanted
    ≡ without (λ who. is_named who woken) (entries_at (state.partitions number) wanted)
ticked_set place number woken state wanted =
    same_sets_with (each_set (set_after place (Tick woken)) (state.partitions number)) (lock_left place (Tick woken) (state.partitions number).lock) (each_item (ticked place number woken) (state.partitions number).table) wanted
    ∙ sets_changed (set_after place (Tick woken)) (state.partitions number) (λ one. refl) wanted

pub tick_is_the_sentence : TickIsTheSentence
tick_is_the_sentence configuration state ordered woken next step is within =
    let core = ordered.core in
    let place = ordered.pos in
    let law = lawful_body configuration state ordered next (Tick woken) step is in
    let partitions = next_partition configuration state ordered next (Tick woken) step is in
    let channels = next_channel configuration state ordered next (Tick woken) step is in
    let cores = next_cores configuration state ordered next (Tick woken) step is in
    let change : CoreState → CoreState = λ one. record one { time = one.time + 1 } in
    let Falls : Who → Type 0 = FallsDue configuration state core (time_of state.cores core + 1) in
    let goes : (who : Who) → is_named who woken ≡ true → Falls who = named_due configuration state core woken law in
    let remains : (who : Who) → is_named who woken ≡ false → ¬ Falls who = λ who not_named falls. true≢false (sym (due_named configuration state core woken law who falls) ∙ not_named) in
    record {
      cores = record {
        time = subst (λ one. time_of one core ≡ time_of state.cores core + 1) (sym cores) (core_changes gives_time change (λ time. time + 1) core state.cores within (λ one. refl));
        others = λ other differs. subst (λ one. time_of one other ≡ time_of state.cores other) (sym cores) (core_stays gives_time change core state.cores other (λ same. absurd (differs same)));
        occupants = λ other. subst (λ one. occupant_of one other ≡ occupant_of state.cores other) (sym cores) (core_stays gives_occupant change core state.cores other (λ same one. refl));
        count = subst (λ one. length one ≡ length state.cores) (sym cores) (count_stays change core state.cores);
      };
      over = λ who falls. record {
        old = falls.process;
        new = released place falls.process;
        before = falls.is_member;
        after = ap (λ (one : Partition). item_at one.table who.proc) (partitions who.part)
            ∙ turns_each (ticked place who.part woken) (state.partitions who.part).table who.proc falls.process falls.is_member
            ∙ ap (λ test. Some (cond test (released place falls.process) falls.process)) (due_named configuration state core woken law who falls);
        change = (release_is_the_sentence place falls.due.time falls.process (released place falls.process) falls.due.due).0 refl;
      };
      others = λ who configured differs. ap (λ (one : Partition). item_at one.table who.proc) (partitions who.part)
          ∙ stays_each (ticked place who.part woken) (state.partitions who.part).table who.proc
          (λ one at. (let unnamed : is_named who woken ≡ false = cannot_hold (is_named who woken) (λ named. differs (goes who named)) in rw unnamed refl));
      objects = λ number. ap emptied (partitions number) ∙ emptied_same (set_after place (Tick woken)) (state.partitions number);
      sets = λ number wanted. subst (λ one. KeepsOnly Falls (entries_at (state.partitions number) wanted) (entries_at one wanted)) (sym (partitions number))
          (subst (KeepsOnly Falls (entries_at (state.partitions number) wanted)) (sym (ticked_set place number woken state wanted)) (keeps_only Falls (λ who. is_named who woken) goes remains (entries_at (state.partitions number) wanted)));
      locks = λ number. subst (λ (one : Partition). KeepsOnly Falls (state.partitions number).lock.waiters one.lock.waiters) (sym (partitions number)) (keeps_only Falls (λ who. is_named who woken) goes remains (state.partitions number).lock.waiters);
      contents = λ number. ap (λ one. one.content) (channels number);
      senders = λ number. subst (λ one. KeepsOnly Falls (state.channels number).senders one.senders) (sym (channels number)) (keeps_only Falls (λ who. is_named who woken) goes remains (state.channels number).senders);
      receivers = λ number. subst (λ one. KeepsOnly Falls (state.channels number).receivers one.receivers) (sym (channels number)) (keeps_only Falls (λ who. is_named who woken) goes remains (state.channels number).receivers);
    }

-- A call with an error condition makes the code of one of them due to its caller, and changes nothing else.

-- what a refused call says

-- its outcome is the code of one of the conditions
pub record HasOneOf (conditions : List Condition) (given : Out) : Type 0 where
  pub code : Code
  pub is : given ≡ Out.Answer code
  pub has : IsCodeOf conditions code

has_one_of : (conditions : List Condition) (given : Out) → HasCode conditions given → HasOneOf conditions given
has_one_of conditions (Out.Answer one) has = record { code = one; is = refl; has = has }
has_one_of conditions Out.Waits has = absurd has
has_one_of conditions Out.Never has = absurd has

-- if conditions hold, the call is refused
refused : (conditions : List Condition) (channel : Option ℕ) (answer : Answer) (suited : ℕ → Bool) (through : ℕ → Answer) (claim : Claim) → ¬ (conditions ≡ [])
    → HasOutcome conditions channel answer suited through claim → IsRefused conditions claim
refused [] channel answer suited through claim some has = absurd (some refl)
refused (condition ∷ conditions) channel answer suited through claim some has = has

-- nothing is done

-- a call that answers a code of an error neither waits nor answers NO_ERROR
not_waiting : (given : Out) → is_done given ≡ false → is_waiting given ≡ false
not_waiting Out.Waits not_so = absurd (true≢false not_so)
not_waiting Out.Never not_so = refl
not_waiting (Out.Answer one) not_so = refl

not_no_error : (given : Out) → is_done given ≡ false → is_no_error given ≡ false
not_no_error given not_so = cannot_hold (is_no_error given) (λ is. true≢false (sym (no_error_is_done given is) ∙ not_so))

-- a list without the processes that leave, if none does
nobody_leaves : (leaves : Who → Bool) → ((who : Who) → leaves who ≡ false) → (entries : List Entry) → without leaves entries ≡ entries
nobody_leaves leaves none [] = refl
nobody_leaves leaves none (entry ∷ entries) = rw (none entry.who) (ap (λ rest. entry ∷ rest) (nobody_leaves leaves none entries))

-- a call that is not done and names no process ends no wait, and leaves every waiting set and the lock unchanged
ends_none : (call : CallRecord) → is_done call.claim.out ≡ false → call.claim.woken ≡ [] → (who : Who) → ends_wait call who ≡ false
ends_none call not_so nobody who =
    goes_on call who (restarts_none call who.part (not_done_goes_on call not_so)) (ap (is_named who) nobody) (not_first (is_no_error call.claim.out) _ (not_no_error call.claim.out not_so))

pub set_left : (place : ℕ) (call : CallRecord) → is_done call.claim.out ≡ false → call.claim.woken ≡ [] → (wanted : WaitingSet) (entries : List Entry)
    → set_after place (Call call) wanted entries ≡ entries
set_left place call not_so nobody wanted entries =
    let waits : is_waiting call.claim.out ≡ false = not_waiting call.claim.out not_so in
    rw waits (nobody_leaves (ends_wait call) (ends_none call not_so nobody) entries)

refused_lock : (place : ℕ) (call : CallRecord) → is_done call.claim.out ≡ false → call.claim.woken ≡ [] → (lock : Lock) → lock_called place call lock ≡ lock
refused_lock place call not_so nobody lock =
    let waits : is_waiting call.claim.out ≡ false = not_waiting call.claim.out not_so in
    let set : lock_waiters_after place (Call call) lock.waiters ≡ lock.waiters = rw waits (nobody_leaves (ends_wait call) (ends_none call not_so nobody) lock.waiters) in
    ap (λ test. lock_left place (Call call) (cond test (lock_by call.who.proc call.request lock) lock)) not_so ∙ (λ i. record lock { waiters = set i })

-- no process is created
none_created : (core : ℕ) (call : CallRecord) (asked : Request) → is_done call.claim.out ≡ false → created_by core call asked ≡ []
none_created core call (Request.CreateProcess name priority period time_capacity) not_so = rw not_so refl
none_created core call _ not_so = refl

-- the caller of a refused call
refused_caller : (place now : ℕ) (call : CallRecord) (code : Code) (process : Process) → call.claim.out ≡ Out.Answer code → is_done (Out.Answer code) ≡ false → HasNoValues call.claim → call.claim.bytes ≡ []
    → (more : Bool) → more ≡ false → caller_after place now more call process ≡ record process { due = Some (record { service = service_of call.request; code = code; val = None; val2 = None; val3 = None; bytes = [] }); called_at = now }
refused_caller place now call code process is not_so values bytes more none =
    let error : is_no_error (Out.Answer code) ≡ false = not_no_error (Out.Answer code) not_so in
    ap (λ test. record (cond test process (caller_with place now call call.claim.out process)) { called_at = now }) none
    ∙ ap (λ given. record (caller_with place now call given process) { called_at = now }) is
    ∙ ap (λ test. record process {
      ready_position = cond (renews call.request && test) place process.ready_position;
      last_release = cond test (release_taken call.request process) process.last_release;
      deadline = cond test (deadline_by call.request now process) process.deadline;
      due = Some (outcome_of call code);
      called_at = now;
    }) error
    ∙ ap (λ test. record process { ready_position = cond test place process.ready_position; due = Some (outcome_of call code); called_at = now }) (never (renews call.request))
    ∙ (λ i. record process { due = Some (record { service = service_of call.request; code = code; val = values.val i; val2 = values.val2 i; val3 = values.val3 i; bytes = bytes i }); called_at = now })
  where
    never : (test : Bool) → (test && false) ≡ false
    never true = refl
    never false = refl

-- the handler's STOP_SELF is never refused
refused_ends_not : (configuration : Configuration) (now : ℕ) (who : Who) (partition : Partition) (asked : Request) → ¬ (conditions_of configuration now who partition asked ≡ [])
    → handles_more partition who.proc asked ≡ false
refused_ends_not configuration now who partition (Request.Caller CallerOperation.StopSelf) some = absurd (some refl)
refused_ends_not configuration now who partition (Request.Caller operation) some = refl
refused_ends_not configuration now who partition _ some = refl

-- any other process of the caller's partition
refused_other : (place now period : ℕ) (cores : List CoreState) (partition : Partition) (call : CallRecord) (number : ℕ) (process : Process) → is_done call.claim.out ≡ false → call.claim.woken ≡ []
    → nat_eq number call.who.proc ≡ false → called place now period cores partition call number process ≡ process
refused_other place now period cores partition call number process not_so nobody other =
    let who : Who = record { part = call.who.part; proc = number } in
    let stopping : stops call who ≡ false = rw (not_no_error call.claim.out not_so) refl in
    let named : is_named who call.claim.woken ≡ false = ap (is_named who) nobody in
    rw (other, stopping, named, not_so) refl

-- the caller's partition but for its processes
refused_rest : (configuration : Configuration) (cores : List CoreState) (place core : ℕ) (call : CallRecord) (partition : Partition) → is_done call.claim.out ≡ false → call.claim.woken ≡ []
    → partition_called configuration cores place core call partition ≡ record partition { table = (partition_called configuration cores place core call partition).table }
refused_rest configuration cores place core call partition not_so nobody =
    let objects : objects_called configuration place call partition ≡ partition =
    ap (λ test. each_set (set_after place (Call call)) (cond test (objects_by configuration call.who call.claim.val call.request partition) partition)) not_so
    ∙ sets_same (set_after place (Call call)) partition (set_left place call not_so nobody) in
    let same_mode : cond (is_done call.claim.out) (mode_by call.request partition.mode) partition.mode ≡ partition.mode = rw not_so refl in
    let same_handler : cond (is_done call.claim.out) (handler_by configuration call.who.part call.request partition.handler) partition.handler ≡ partition.handler = rw not_so refl in
    let same_errors : cond (is_done call.claim.out) (errors_by call.who.proc call.request partition) partition.errors ≡ partition.errors = rw not_so refl in
    λ i. record (objects i) { mode = same_mode i; handler = same_handler i; errors = same_errors i; lock = refused_lock place call not_so nobody partition.lock i; table = (partition_called configuration cores place core call partition).table }

-- the caller among the processes of its partition
caller_is : (place now period : ℕ) (cores : List CoreState) (partition : Partition) (call : CallRecord) (process : Process) → is_done call.claim.out ≡ false
    → called place now period cores partition call call.who.proc process ≡ caller_after place now (handles_more partition call.who.proc call.request) call process
caller_is place now period cores partition call process not_so = rw (is_itself call.who.proc, not_so) refl

-- another partition, if the call names no process

foreign_stays : (configuration : Configuration) (place core : ℕ) (call : CallRecord) → call.claim.woken ≡ [] → (state next : State) (other : Who)
    → next.partitions other.part ≡ cond (nat_eq call.who.part other.part) (own_partition (restart_of configuration call) configuration state.cores place core call (state.partitions other.part))
    (record (state.partitions other.part) { table = woken_table place other.part (message_of call.request) call.claim.woken (state.partitions other.part).table })
    → nat_eq call.who.part other.part ≡ false → process_in next other ≡ process_in state other
foreign_stays configuration place core call nobody state next other is elsewhere =
    let there = is ∙ ap (λ test. cond test (own_partition (restart_of configuration call) configuration state.cores place core call (state.partitions other.part))
    (record (state.partitions other.part) { table = woken_table place other.part (message_of call.request) call.claim.woken (state.partitions other.part).table })) elsewhere in
    ap (λ (found : Partition). item_at found.table other.proc) there
    ∙ stays_each (λ number process. woken_if_named place (message_of call.request) call.claim.woken (record { part = other.part; proc = number }) process) (state.partitions other.part).table other.proc
    (λ process at. (let named : is_named other call.claim.woken ≡ false = ap (is_named other) nobody in rw named refl))

pub foreign_rest : (configuration : Configuration) (place core : ℕ) (call : CallRecord) (state next : State) (number : ℕ)
    → next.partitions number ≡ cond (nat_eq call.who.part number) (own_partition (restart_of configuration call) configuration state.cores place core call (state.partitions number))
    (record (state.partitions number) { table = woken_table place number (message_of call.request) call.claim.woken (state.partitions number).table })
    → nat_eq call.who.part number ≡ false → next.partitions number ≡ record (state.partitions number) { table = (next.partitions number).table }
foreign_rest configuration place core call state next number is elsewhere =
    let there = is ∙ ap (λ test. cond test (own_partition (restart_of configuration call) configuration state.cores place core call (state.partitions number))
    (record (state.partitions number) { table = woken_table place number (message_of call.request) call.claim.woken (state.partitions number).table })) elsewhere in
    there ∙ ap (λ (found : Partition). let back : Partition = record (state.partitions number) { table = found.table } in back) (sym there)

pub refusal_is_the_sentence : RefusalIsTheSentence
refusal_is_the_sentence configuration state ordered call next step is some =
    let core = ordered.core in
    let place = ordered.pos in
    let now = time_of state.cores core in
    let law = lawful_body configuration state ordered next (Call call) step is in
    let partitions = next_partition configuration state ordered next (Call call) step is in
    let conditions = conditions_of configuration now call.who (state.partitions call.who.part) call.request in
    let refusal = refused conditions _ _ _ _ call.claim some law.outcome in
    let one = has_one_of conditions call.claim.out refusal.out in
    let not_so : is_done call.claim.out ≡ false = not_done conditions call.claim.out refusal.out in
    let code_not_done : is_done (Out.Answer one.code) ≡ false = ap is_done (sym one.is) ∙ not_so in
    let old = free_exists (process_in state call.who) law.due in
    let table = (state.partitions call.who.part).table in
    let period = period_of configuration call.who.part in
    let change : ℕ → Process → Process = called place now period state.cores (state.partitions call.who.part) call in
    let more = created_by (first_core configuration call.who.part) call call.request in
    let own : next.partitions call.who.part ≡ partition_called configuration state.cores place core call (state.partitions call.who.part) =
    partitions call.who.part ∙ ap (λ test. cond test (own_partition (restart_of configuration call) configuration state.cores place core call (state.partitions call.who.part))
    (record (state.partitions call.who.part) { table = each_item (λ other process. woken_if_named place (message_of call.request) call.claim.woken (record { part = call.who.part; proc = other }) process) table })) (is_itself call.who.part)
    ∙ ap (λ one. own_partition one configuration state.cores place core call (state.partitions call.who.part)) (no_restart configuration call (not_done_goes_on call not_so)) in
    let all : each_item change table ++ more ≡ each_item change table = ap (λ rest. each_item change table ++ rest) (none_created (first_core configuration call.who.part) call call.request not_so) ∙ append-nil (each_item change table) in
    record {
      code = one.code;
      condition = one.has;
      answered = record {
        changed = record {
          old = old.0;
          new = record old.0 { due = Some (record { service = service_of call.request; code = one.code; val = None; val2 = None; val3 = None; bytes = [] }); called_at = now };
          before = old.1;
          after = ap (λ (found : Partition). item_at found.table call.who.proc) own ∙ ap (λ found. item_at found call.who.proc) all ∙ turns_each change table call.who.proc old.0 old.1
              ∙ ap Some (caller_is place now period state.cores (state.partitions call.who.part) call old.0 not_so ∙ refused_caller place now call one.code old.0 one.is code_not_done refusal.values refusal.bytes
              (handles_more (state.partitions call.who.part) call.who.proc call.request) (refused_ends_not configuration now call.who (state.partitions call.who.part) call.request some));
          change = refl;
        };
        others = λ other differs. either_way (nat_eq call.who.part other.part)
            (λ here. (let part : call.who.part ≡ other.part = eqb-true call.who.part other.part here in
            subst (λ number. item_at (next.partitions number).table other.proc ≡ item_at (state.partitions number).table other.proc) part
            (ap (λ (found : Partition). item_at found.table other.proc) own ∙ ap (λ found. item_at found other.proc) all
            ∙ stays_each change table other.proc (λ process at. refused_other place now period state.cores (state.partitions call.who.part) call other.proc process not_so refusal.woken
            (elim (cases_Bool (nat_eq other.proc call.who.proc)) [ inl same ↦ absurd (differs (same_who other call.who (sym part) (eqb-true other.proc call.who.proc same))) | inr apart ↦ apart ])))))
            (λ elsewhere. foreign_stays configuration place core call refusal.woken state next other (partitions other.part) elsewhere);
        rest = λ number. either_way (nat_eq call.who.part number)
            (λ here. (let part : call.who.part ≡ number = eqb-true call.who.part number here in
            subst (λ one. next.partitions one ≡ record (state.partitions one) { table = (next.partitions one).table }) part
            (own ∙ refused_rest configuration state.cores place core call (state.partitions call.who.part) not_so refusal.woken
            ∙ ap (λ (found : Partition). let back : Partition = record (state.partitions call.who.part) { table = found.table } in back) (sym own))))
            (λ elsewhere. foreign_rest configuration place core call state next number (partitions number) elsewhere);
        channels = λ number. next_channel configuration state ordered next (Call call) step is number ∙ (λ i. record {
          content = ap (λ chan. cond (is_channel number chan) (channel_effect configuration now number call.who.part (use_of call.request) (state.channels number)).next (state.channels number).content) refusal.chan i;
          senders = set_left place call not_so refusal.woken (channel_set number Senders) (state.channels number).senders i;
          receivers = set_left place call not_so refusal.woken (channel_set number Receivers) (state.channels number).receivers i;
        });
        cores = next_cores configuration state ordered next (Call call) step is;
      };
    }
