-- A call leaves all sets and objects of a partition but those of the object that it names.
use Rattle.std.proofs.Common.{◌≡◌, ℕ, List, [], ◌∷◌, Bool, true, false, nat_eq, ℤ, Option, Some, None, is_some, refl, sym, ap, subst, ◌∙◌, true≢false, ◌&&◌, append-nil, ◌++◌, cond}
use Rattle.apex_types.specs.declared.object_kind.ObjectKind.TheVariants as kind
use Rattle.apex_types.specs.declared.operation.ObjectOperation.TheVariants as on
use Rattle.apex_laws.proofs.Common.{AllHold, BlackboardOperation, Call, CallRecord, Claim, Condition, Configuration, End, Entry, EventOperation, HasDistinctObjects, IsSoundPart, ObjectKind, ObjectOf, ObjectOperation, OneObjectChanges}
use Rattle.apex_laws.proofs.Common.{OtherSetsStay, Partition, Port, Request, SamplingOperation, WaitingSet, WaitsIn, Who, answer_of, change_at, channel_of, conditions_of, each_item, each_set, enters, entries_at, entries_at_end, is_done}
use Rattle.apex_laws.proofs.Common.{is_named, is_no_error, is_of_object, is_same_kind, is_set_used, is_target, is_valid, item_at, kind_of, kind_used, names_one_of, natural_of, new_object, numbered_if, object_effect, objects_by}
use Rattle.apex_laws.proofs.Common.{objects_changed, objects_of, outcome_demands, is_restart, restarts, set_after, set_at, stop_of, stops, stops_some, waits_at, with_objects, with_sets}
use Rattle.apex_laws.proofs.Common.{CoreState, time_of}
use Rattle.apex_laws.proofs.Booleans.{cannot_hold, differs_back, is_itself, neither_first, neither_later, not_first, not_second, same_if}
use Rattle.apex_laws.proofs.Objects.{all_stay_with, each_itself, Leaves, new_has_none, object_stays, objects_stay, one_changes, OnSets, put_if, sets_stay}
use Rattle.apex_laws.proofs.Restarts.{goes_on}
use Rattle.apex_laws.proofs.SetNames.{ends_agree, ends_kept, one_set}
use Rattle.apex_laws.proofs.SoundParts.{WaitsForLock, WaitsInSet}
use Rattle.apex_laws.proofs.Untouched.{set_stays}
use Rattle.apex_laws.proofs.Waiters.{all_weaker}
use Rattle.apex_laws.proofs.WaitersOf.{not_named}
use Rattle.apex_laws.proofs.Wakes.{answer_wakes, entering_is_the_sentence, lock_waits_not, nobody, suspended_elsewhere}

-- An own call leaves the waiting sets that its request doesn't use.

-- who enters

-- a caller enters only a set that its request uses
entered_is_used : {asked : Request} {chan : Option ℕ} {wanted : WaitingSet} → WaitsIn asked chan wanted → is_set_used asked wanted ≡ true
entered_is_used WaitsIn.sends_through = refl
entered_is_used WaitsIn.receives_through = refl
entered_is_used _ = is_itself _

pub enters_no_other : (call : CallRecord) (wanted : WaitingSet) → is_set_used call.request wanted ≡ false → enters call wanted ≡ false
enters_no_other call wanted unused =
    cannot_hold (enters call wanted) (λ here. true≢false (sym (entered_is_used ((entering_is_the_sentence call wanted).0 here).1) ∙ unused))

-- who leaves

-- a call that is no STOP, or not done, stops no process
not_stopping : (stopping : Option ℤ) (no_error here : Bool) (number : ℕ) → (is_some stopping && no_error) ≡ false → (no_error && (here && is_target stopping number)) ≡ false
not_stopping None no_error here number none = not_second no_error (here && false) (not_second here false refl)
not_stopping (Some target) true here number none = absurd (true≢false none)
not_stopping (Some target) false here number none = refl

pub stops_nobody : (call : CallRecord) (who : Who) → (is_some (stop_of call.request) && is_no_error call.claim.out) ≡ false → stops call who ≡ false
stops_nobody call who none = not_stopping (stop_of call.request) (is_no_error call.claim.out) (nat_eq who.part call.who.part) who.proc none

-- a call that stops no process restarts no partition
pub restarts_nobody : (call : CallRecord) (number : ℕ) → stops_some call ≡ false → restarts call number ≡ false
restarts_nobody call number none = not_first (is_restart call) (nat_eq number call.who.part) (neither_first _ _ none)

-- a process that an own call names waits in no set that the request does not use
named_uses : (configuration : Configuration) (number place : ℕ) (cores : List CoreState) (core : ℕ) (partition : Partition) (caller : Who) (asked : Request) (claim : Claim) → IsSoundPart number place partition
    → (conditions : List Condition) (channel : Option ℕ) → AllHold (outcome_demands conditions channel number asked (answer_of configuration cores core caller partition asked) claim)
    → (wanted : WaitingSet) → is_set_used asked wanted ≡ false → (who : Who) → who.part ≡ number → waits_at wanted (item_at partition.table who.proc) ≡ true → is_named who claim.woken ≡ true → ⊥
named_uses configuration number place cores core partition caller asked claim sound (condition ∷ conditions) channel hold wanted unused who here waits named = nobody who claim.woken hold.1.1.1.1.0 named
named_uses configuration number place cores core partition caller asked claim sound [] (Some channel) hold wanted unused who here waits named =
    true≢false (sym named ∙ not_named who claim.woken (subst (λ part. names_one_of part claim.woken ≡ false) (sym here) hold.1.1.0))
named_uses configuration number place cores core partition caller asked claim sound [] None hold wanted unused who here waits named =
    answer_wakes (λ one. waits_at wanted (item_at partition.table one.proc) ≡ true → ⊥) configuration cores core caller partition asked
    (λ other used. all_weaker (WaitsInSet number other partition) (λ entry. waits_at wanted (item_at partition.table entry.who.proc) ≡ true → ⊥)
    (λ entry is also. true≢false (sym used ∙ ap (is_set_used asked) (one_set other wanted (item_at partition.table entry.who.proc) is.1 also) ∙ unused))
    (entries_at partition other) (sound.is_member other))
    (λ process target is suspends waits. suspended_elsewhere partition process target wanted is suspends waits)
    (λ gives. all_weaker (WaitsForLock number partition) (λ entry. waits_at wanted (item_at partition.table entry.who.proc) ≡ true → ⊥)
    (λ entry is also. lock_waits_not wanted (item_at partition.table entry.who.proc) is.1 also) partition.lock.waiters sound.lock.is_member)
    who (sym (hold.1.1.1.1.0 who) ∙ named) waits

pub other_sets_stay : OtherSetsStay
other_sets_stay configuration number place core cores partition call is not_stop wanted unused =
    set_stays (WaitsInSet number wanted partition) place call wanted (entries_at partition wanted) (is.sound.is_member wanted) (enters_no_other call wanted unused)
    (λ entry is_member. goes_on call entry.who (restarts_nobody call entry.who.part not_stop)
    (cannot_hold (is_named entry.who call.claim.woken) (λ named. named_uses configuration number place cores core partition call.who call.request call.claim is.sound
    (conditions_of configuration (time_of cores core) call.who partition call.request) (channel_of partition call.request) is.demands.1.1.1.1.1.1 wanted unused entry.who is_member.0 is_member.1 named))
    (stops_nobody call entry.who (neither_later _ _ not_stop)))

-- A call changes the one object that it names.

-- a change of each set, and of the objects of one kind
abbrev LeavesUnused : (WaitingSet → List Entry → List Entry) → Partition → Request → Type 0
LeavesUnused change partition asked = (wanted : WaitingSet) → is_set_used asked wanted ≡ false → Leaves change partition wanted

-- if the objects of one kind become these, and those of the others stay, so does the partition
kind_alone : (kind : ObjectKind) (change : WaitingSet → List Entry → List Entry) (partition : Partition) (done : Bool) (after new : List (ℕ × ObjectOf kind))
    → each_item (with_sets kind change) (cond done after (objects_of partition kind)) ≡ new
    → ((other : ObjectKind) → is_same_kind kind other ≡ false → each_item (with_sets other change) (objects_of partition other) ≡ objects_of partition other)
    → each_set change (cond done (with_objects kind after partition) partition) ≡ with_objects kind new partition
kind_alone kind.Buffer change partition done after new becomes stay =
    ap (each_set change) (put_if done (λ objects. with_objects kind.Buffer objects partition) after partition.buffers partition refl)
    ∙ (λ i. record partition { buffers = becomes i; blackboards = stay kind.Blackboard refl i; semaphores = stay kind.Semaphore refl i; events = stay kind.Event refl i; mutexes = stay kind.Mutex refl i })
kind_alone kind.Blackboard change partition done after new becomes stay =
    ap (each_set change) (put_if done (λ objects. with_objects kind.Blackboard objects partition) after partition.blackboards partition refl)
    ∙ (λ i. record partition { buffers = stay kind.Buffer refl i; blackboards = becomes i; semaphores = stay kind.Semaphore refl i; events = stay kind.Event refl i; mutexes = stay kind.Mutex refl i })
kind_alone kind.Semaphore change partition done after new becomes stay =
    ap (each_set change) (put_if done (λ objects. with_objects kind.Semaphore objects partition) after partition.semaphores partition refl)
    ∙ (λ i. record partition { buffers = stay kind.Buffer refl i; blackboards = stay kind.Blackboard refl i; semaphores = becomes i; events = stay kind.Event refl i; mutexes = stay kind.Mutex refl i })
kind_alone kind.Event change partition done after new becomes stay =
    ap (each_set change) (put_if done (λ objects. with_objects kind.Event objects partition) after partition.events partition refl)
    ∙ (λ i. record partition { buffers = stay kind.Buffer refl i; blackboards = stay kind.Blackboard refl i; semaphores = stay kind.Semaphore refl i; events = becomes i; mutexes = stay kind.Mutex refl i })
kind_alone kind.Mutex change partition done after new becomes stay =
    ap (each_set change) (put_if done (λ objects. with_objects kind.Mutex objects partition) after partition.mutexes partition refl)
    ∙ (λ i. record partition { buffers = stay kind.Buffer refl i; blackboards = stay kind.Blackboard refl i; semaphores = stay kind.Semaphore refl i; events = stay kind.Event refl i; mutexes = becomes i })
kind_alone kind.SamplingPort change partition done after new becomes stay =
    ap (each_set change) (put_if done (λ objects. with_objects kind.SamplingPort objects partition) after partition.sampling_ports partition refl)
    ∙ (λ i. record partition { buffers = stay kind.Buffer refl i; blackboards = stay kind.Blackboard refl i; semaphores = stay kind.Semaphore refl i; events = stay kind.Event refl i; mutexes = stay kind.Mutex refl i; sampling_ports = (sym (each_itself (cond done after partition.sampling_ports)) ∙ becomes) i })
kind_alone kind.QueuingPort change partition done after new becomes stay =
    ap (each_set change) (put_if done (λ objects. with_objects kind.QueuingPort objects partition) after partition.queuing_ports partition refl)
    ∙ (λ i. record partition { buffers = stay kind.Buffer refl i; blackboards = stay kind.Blackboard refl i; semaphores = stay kind.Semaphore refl i; events = stay kind.Event refl i; mutexes = stay kind.Mutex refl i; queuing_ports = (sym (each_itself (cond done after partition.queuing_ports)) ∙ becomes) i })

-- the sets of an object of another number are not its
of_another : (kind : ObjectKind) (number another : ℕ) → nat_eq another number ≡ false → OnSets kind another (λ wanted. is_of_object kind number wanted ≡ false)
of_another kind number another differs = λ end off. not_second (is_same_kind kind kind) (nat_eq number another) (differs_back another number differs)

-- nor are those of an object of another kind
of_other : (kind other : ObjectKind) (number another : ℕ) → is_same_kind kind other ≡ false → OnSets other another (λ wanted. is_of_object kind number wanted ≡ false)
of_other kind other number another differs = λ end off. not_first (is_same_kind kind other) (nat_eq number another) differs

-- the change of one object, if every set but its own is left unchanged
pub one_of_kind_changes : (kind : ObjectKind) (change : WaitingSet → List Entry → List Entry) (partition : Partition) (done : Bool) (number : ℕ) (rule new : ObjectOf kind → ObjectOf kind)
    → HasDistinctObjects partition
    → ((found : ObjectOf kind) → item_at (objects_of partition kind) number ≡ Some found → with_sets kind change number (cond done (rule found) found) ≡ new found)
    → ((wanted : WaitingSet) → is_of_object kind number wanted ≡ false → Leaves change partition wanted)
    → each_set change (cond done (with_objects kind (change_at number rule (objects_of partition kind)) partition) partition)
    ≡ with_objects kind (change_at number new (objects_of partition kind)) partition
one_of_kind_changes kind change partition done number rule new has becomes leaves =
    kind_alone kind change partition done (change_at number rule (objects_of partition kind)) (change_at number new (objects_of partition kind))
    (one_changes done rule new (with_sets kind change) number (objects_of partition kind) (has kind) becomes
    (λ another found differs at. object_stays kind change partition another found at (λ end off. leaves (set_at kind another end) (of_another kind number another differs end off))))
    (λ other differs. objects_stay other change partition has
    (λ another end off. leaves (set_at other another end) (of_other kind other number another differs end off)))

-- a set that is none of the object's is not used
object_unused : (number : ℤ) (operation : ObjectOperation) (wanted : WaitingSet) → is_of_object (kind_used operation) (natural_of number) wanted ≡ false → is_set_used (Request.Object number operation) wanted ≡ false
object_unused number (on.Blackboard BlackboardOperation.Clear) wanted off = refl
object_unused number (on.Event EventOperation.Reset) wanted off = refl
object_unused number _ wanted off = off

-- a creation

-- the objects of a kind, with what is created if the call is done
created_stay : {Object : Type 0} (change : ℕ → Object → Object) (done : Bool) (objects : List (ℕ × Object)) (claimed : Option ℤ) (made : Option Object)
    → ((object : Object) → made ≡ Some object → (number : ℕ) → change number object ≡ object)
    → each_item change objects ≡ objects → each_item change (cond done (objects ++ numbered_if claimed made) objects) ≡ cond done (objects ++ numbered_if claimed made) objects
created_stay change true objects claimed None stays all = ap (each_item change) (append-nil objects) ∙ all ∙ sym (append-nil objects)
created_stay change true objects claimed (Some new) stays all = all_stay_with change objects claimed new (stays new refl) all
created_stay change false objects claimed made stays all = all

-- a creation, which leaves every set
one_of_kind_created : (kind : ObjectKind) (change : WaitingSet → List Entry → List Entry) (partition : Partition) (done : Bool) (claimed : Option ℤ) (made : Option (ObjectOf kind)) → HasDistinctObjects partition
    → ((new : ObjectOf kind) → made ≡ Some new → (number : ℕ) → with_sets kind change number new ≡ new) → ((wanted : WaitingSet) → Leaves change partition wanted)
    → each_set change (cond done (with_objects kind (objects_of partition kind ++ numbered_if claimed made) partition) partition)
    ≡ with_objects kind (cond done (objects_of partition kind ++ numbered_if claimed made) (objects_of partition kind)) partition
one_of_kind_created kind change partition done claimed made has empty leaves =
    kind_alone kind change partition done (objects_of partition kind ++ numbered_if claimed made) (cond done (objects_of partition kind ++ numbered_if claimed made) (objects_of partition kind))
    (created_stay (with_sets kind change) done (objects_of partition kind) claimed made empty (stay kind)) (λ other differs. stay other)
  where
    stay : (other : ObjectKind) → each_item (with_sets other change) (objects_of partition other) ≡ objects_of partition other
    stay other = objects_stay other change partition has (λ number end off. leaves (set_at other number end))

-- other ports, if every set is left unchanged
ports_change : (kind : ObjectKind) (change : WaitingSet → List Entry → List Entry) (partition : Partition) (done : Bool) (after : List (ℕ × ObjectOf kind)) → HasDistinctObjects partition
    → each_item (with_sets kind change) (cond done after (objects_of partition kind)) ≡ cond done after (objects_of partition kind) → ((wanted : WaitingSet) → Leaves change partition wanted)
    → each_set change (cond done (with_objects kind after partition) partition) ≡ with_objects kind (cond done after (objects_of partition kind)) partition
ports_change kind change partition done after has itself leaves =
    kind_alone kind change partition done after (cond done after (objects_of partition kind)) itself
    (λ other differs. objects_stay other change partition has (λ number end off. leaves (set_at other number end)))

-- each request

-- the objects and sets after a call, by what its sets become
changed_by : (configuration : Configuration) (place : ℕ) (call : CallRecord) (partition : Partition) (asked : Request) → HasDistinctObjects partition
    → LeavesUnused (set_after place (Call call)) partition asked
    → ((wanted : WaitingSet) → is_set_used asked wanted ≡ false → set_after place (Call call) wanted [] ≡ [])
    → each_set (set_after place (Call call)) (cond (is_done call.claim.out) (objects_by configuration call.who call.claim.val asked partition) partition)
    ≡ objects_changed configuration place call asked partition
changed_by configuration place call partition (Request.Object number operation) has leaves empty =
    one_of_kind_changes (kind_used operation) (set_after place (Call call)) partition (is_done call.claim.out) (natural_of number) (λ found. (object_effect call.who.proc operation found).next) _ has
    (λ found at. refl) (λ wanted off. leaves wanted (object_unused number operation wanted off))
changed_by configuration place call partition (Request.Create name object) has leaves empty =
    let change = set_after place (Call call) in
    let kind = kind_of object in
    one_of_kind_created kind change partition (is_done call.claim.out) call.claim.val (new_object configuration call.who.part name object) has
    (λ new is number. (let none : (end : End) → entries_at_end kind end new ≡ [] = λ end. new_has_none configuration call.who.part name object end new is in
    ends_agree kind (λ end. change (set_at kind number end)) (λ end entries. entries) new
    (λ off end. ap (change (set_at kind number end)) (none end) ∙ empty (set_at kind number end) refl ∙ sym (none end)) ∙ ends_kept kind new))
    (λ wanted. leaves wanted refl)
changed_by configuration place call partition (Request.SamplingPort port SamplingOperation.Read) has leaves empty =
    ports_change kind.SamplingPort (set_after place (Call call)) partition (is_done call.claim.out)
    (change_at (natural_of port) (λ (found : Port). record found { valid = is_valid call.claim.val }) partition.sampling_ports) has (each_itself _) (λ wanted. leaves wanted refl)
changed_by configuration place call partition (Request.SamplingPort port (SamplingOperation.Write length message)) has leaves empty =
    ap (each_set (set_after place (Call call))) (same_if (is_done call.claim.out) partition) ∙ sets_stay (set_after place (Call call)) partition has (λ wanted off. leaves wanted refl)
changed_by configuration place call partition (Request.QueuingPort port operation) has leaves empty =
    ap (each_set (set_after place (Call call))) (same_if (is_done call.claim.out) partition) ∙ sets_stay (set_after place (Call call)) partition has (λ wanted off. leaves wanted off)
changed_by configuration place call partition _ has leaves empty =
    ap (each_set (set_after place (Call call))) (same_if (is_done call.claim.out) partition) ∙ sets_stay (set_after place (Call call)) partition has (λ wanted off. leaves wanted refl)

-- any own call
pub one_object_changes : OneObjectChanges
one_object_changes configuration number place core cores partition call is not_stop asked same =
    let change = set_after place (Call call) in
    ap (λ one. each_set change (cond (is_done call.claim.out) (objects_by configuration call.who call.claim.val one partition) partition)) same
    ∙ changed_by configuration place call partition asked is.sound.objects
    (λ wanted unused. other_sets_stay configuration number place core cores partition call is not_stop wanted (ap (λ one. is_set_used one wanted) same ∙ unused))
    (λ wanted unused. (let off = enters_no_other call wanted (ap (λ one. is_set_used one wanted) same ∙ unused) in rw off refl))
