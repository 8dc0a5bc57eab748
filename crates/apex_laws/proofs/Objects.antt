-- The waiting sets of a partition's objects, when its sets or its objects change.
use Rattle.std.proofs.Common.{◌≡◌, ℕ, List, [], ◌∷◌, ◌++◌, Bool, true, false, cond, not, nat_eq, ℤ, pos, negsuc, Option, Some, None, is_some, refl, sym, ap, subst, ◌∙◌, true≢false, append-nil, ◌&&◌, nat_lt, option_map}
use Rattle.std.proofs.lemmas.Bool.{and_parts, eqb-true}
use Rattle.apex_types.specs.declared.object_kind.ObjectKind.TheVariants as kind
use Rattle.apex_types.specs.declared.operation.ObjectOperation.TheVariants as on
use Rattle.apex_laws.proofs.Common.{AllEntries, Blackboard, Buffer, Configuration, Effect, End, Entry, Event, HasDistinctObjects, Mutex, MutexOperation, NewObject, ObjectKind, ObjectOf, ObjectOperation, Partition, Port, Receivers, Request}
use Rattle.apex_laws.proofs.Common.{SamplingOperation, Semaphore, Senders, WaitingSet, Who, acquired_again, acquired_from, are_distinct, change_at, each_item, each_set, entries_at, entries_at_end, entries_in, entries_of, first_waiter}
use Rattle.apex_laws.proofs.Common.{handed_on, is_of_channel, is_valid, item_at, kind_of, kind_used, mutex_effect, mutex_released, natural_of, new_object, not_acquired, numbered, numbered_if, object_effect, objects_by, objects_of}
use Rattle.apex_laws.proofs.Common.{released_once, set_at, with_sets}
use Rattle.apex_laws.proofs.Booleans.{by_test, either_way, is_itself}
use Rattle.apex_laws.proofs.SetNames.{channel_set_is, end_changes, ends_agree, ends_kept, has_end, no_entries, put_holds, same_kind_is}
use Rattle.apex_laws.proofs.Tables.{at_each}

-- Each waiting set of a partition changed, object by object.

-- lists of objects

-- what is found after an object of another number is found in front of it too
pub found_here : {Object : Type 0} (entry : ℕ × Object) (entries : List (ℕ × Object)) (number : ℕ) (object : Object) → is_some (item_at entries entry.0) ≡ false → item_at entries number ≡ Some object
    → item_at (entry ∷ entries) number ≡ Some object
found_here {Object} entry entries number object distinct at =
    either_way (nat_eq number entry.0)
    (λ same. (let some : is_some (item_at entries entry.0) ≡ true = ap (λ one. is_some (item_at entries one)) (sym (eqb-true number entry.0 same)) ∙ ap (λ (one : Option Object). is_some one) at in
    absurd (true≢false (sym some ∙ distinct))))
    (λ differs. rw differs at)

-- a test that fails, by its negation
pub not_some : (test : Bool) → not test ≡ true → test ≡ false
not_some true is = sym is
not_some false is = refl

-- two changes that agree on each object that is found agree on the list
pub each_as : {Object : Type 0} (change other : ℕ → Object → Object) (objects : List (ℕ × Object)) → are_distinct objects ≡ true
    → ((number : ℕ) (object : Object) → item_at objects number ≡ Some object → change number object ≡ other number object) → each_item change objects ≡ each_item other objects
each_as change other [] distinct same = refl
each_as {Object} change other (entry ∷ entries) distinct same =
    let parts = and_parts (not (is_some (item_at entries entry.0))) (are_distinct entries) distinct in
    let here : change entry.0 entry.1 ≡ other entry.0 entry.1 = same entry.0 entry.1 (rw (is_itself entry.0) refl) in
    let rest : each_item change entries ≡ each_item other entries =
    each_as change other entries parts.1 (λ number object at. same number object (found_here entry entries number object (not_some _ parts.0) at)) in
    λ i. (entry.0, here i) ∷ rest i

-- a change of nothing
pub each_itself : {Object : Type 0} (objects : List (ℕ × Object)) → each_item (λ number object. object) objects ≡ objects
each_itself [] = refl
each_itself (entry ∷ entries) = ap (λ others. entry ∷ others) (each_itself entries)

-- one change after another
pub each_each : {Object : Type 0} (first second : ℕ → Object → Object) (objects : List (ℕ × Object))
    → each_item second (each_item first objects) ≡ each_item (λ number object. second number (first number object)) objects
each_each first second [] = refl
each_each first second (entry ∷ entries) = ap (λ others. (entry.0, second entry.0 (first entry.0 entry.1)) ∷ others) (each_each first second entries)

-- a change of two lists
pub each_joined : {Object : Type 0} (change : ℕ → Object → Object) (objects more : List (ℕ × Object)) → each_item change (objects ++ more) ≡ each_item change objects ++ each_item change more
each_joined change [] more = refl
each_joined change (entry ∷ entries) more = ap (λ others. (entry.0, change entry.0 entry.1) ∷ others) (each_joined change entries more)

-- objects that a change leaves
pub all_stay : {Object : Type 0} (change : ℕ → Object → Object) (objects : List (ℕ × Object)) → are_distinct objects ≡ true
    → ((number : ℕ) (object : Object) → item_at objects number ≡ Some object → change number object ≡ object) → each_item change objects ≡ objects
all_stay change objects distinct stays = each_as change (λ number object. object) objects distinct stays ∙ each_itself objects

-- so they stay with one more that the change leaves
pub all_stay_with : {Object : Type 0} (change : ℕ → Object → Object) (objects : List (ℕ × Object)) (claimed : Option ℤ) (new : Object) → ((number : ℕ) → change number new ≡ new)
    → each_item change objects ≡ objects → each_item change (objects ++ numbered claimed new) ≡ objects ++ numbered claimed new
all_stay_with change objects claimed new stays all = each_joined change objects (numbered claimed new) ∙ (λ i. all i ++ by claimed i)
  where
    by : (claimed : Option ℤ) → each_item change (numbered claimed new) ≡ numbered claimed new
    by None = refl
    by (Some (pos number)) = ap (λ one. (number, one) ∷ []) (stays number)
    by (Some (negsuc n)) = refl

-- the change of one object, if the second change leaves the others unchanged
pub one_changes : {Object : Type 0} (done : Bool) (rule new : Object → Object) (change : ℕ → Object → Object) (number : ℕ) (objects : List (ℕ × Object)) → are_distinct objects ≡ true
    → ((object : Object) → item_at objects number ≡ Some object → change number (cond done (rule object) object) ≡ new object)
    → ((other : ℕ) (object : Object) → nat_eq other number ≡ false → item_at objects other ≡ Some object → change other object ≡ object)
    → each_item change (cond done (change_at number rule objects) objects) ≡ change_at number new objects
one_changes {Object} done rule new change number objects distinct becomes stays =
    ap (each_item change) (at_once done) ∙ each_each _ change objects ∙ each_as _ _ objects distinct agree
  where
    at_once : (done : Bool) → cond done (change_at number rule objects) objects ≡ change_at number (λ object. cond done (rule object) object) objects
    at_once true = refl
    at_once false = sym (each_as (λ other object. cond (nat_eq other number) object object) (λ other object. object) objects distinct (λ other object at. same (nat_eq other number) object) ∙ each_itself objects)
      where
        same : (here : Bool) (object : Object) → cond here object object ≡ object
        same true object = refl
        same false object = refl

    agree : (other : ℕ) (object : Object) → item_at objects other ≡ Some object
        → change other (cond (nat_eq other number) (cond done (rule object) object) object) ≡ cond (nat_eq other number) (new object) object
    agree other object at =
        either_way (nat_eq other number)
        (λ same. (let is : other ≡ number = eqb-true other number same in
        rw same (ap (λ one. change one (cond done (rule object) object)) is ∙ becomes object (ap (item_at objects) (sym is) ∙ at))))
        (λ differs. rw differs (stays other object differs at))

-- what is put into an object if the call is done
pub put_if : {Object Value : Type 0} (done : Bool) (put : Value → Object) (new old : Value) (object : Object) → put old ≡ object → cond done (put new) object ≡ put (cond done new old)
put_if true put new old object is = refl
put_if false put new old object is = sym is

-- the sets of a partition

-- a change of a partition's sets leaves this one
abbrev pub Leaves : (WaitingSet → List Entry → List Entry) → Partition → WaitingSet → Type 0
Leaves change partition wanted = change wanted (entries_at partition wanted) ≡ entries_at partition wanted

-- a fact about the entries of a set that holds for those of the object that is found
pub of_found : {Object : Type 0} (entries_of : Object → List Entry) (Fact : List Entry → Type 0) (found : Option Object) (object : Object) → found ≡ Some object
    → Fact (entries_in entries_of found) → Fact (entries_of object)
of_found {Object} entries_of Fact found object at holds = subst (λ (one : Option Object). Fact (entries_in entries_of one)) at holds

-- a fact about each set of the object of a kind and number; a port's sets are its channel's
abbrev pub OnSets : ObjectKind → ℕ → (WaitingSet → Type 0) → Type 0
OnSets kind number Fact = (end : End) → is_of_channel (set_at kind number end) ≡ false → Fact (set_at kind number end)

-- two changes that agree on the sets of an object agree on the object
pub sets_agree : (kind : ObjectKind) (change through : WaitingSet → List Entry → List Entry) (partition : Partition) (number : ℕ) (found : ObjectOf kind)
    → item_at (objects_of partition kind) number ≡ Some found
    → OnSets kind number (λ wanted. change wanted (entries_at partition wanted) ≡ through wanted (entries_at partition wanted))
    → with_sets kind change number found ≡ with_sets kind through number found
sets_agree kind change through partition number found at agree =
    ends_agree kind (λ end. change (set_at kind number end)) (λ end. through (set_at kind number end)) found (λ off end.
    of_found (entries_at_end kind end) (λ entries. change (set_at kind number end) entries ≡ through (set_at kind number end) entries) (item_at (objects_of partition kind) number) found at (agree end off))

-- an object whose sets a change leaves
pub object_stays : (kind : ObjectKind) (change : WaitingSet → List Entry → List Entry) (partition : Partition) (number : ℕ) (found : ObjectOf kind)
    → item_at (objects_of partition kind) number ≡ Some found → OnSets kind number (Leaves change partition) → with_sets kind change number found ≡ found
object_stays kind change partition number found at leaves =
    sets_agree kind change (λ wanted entries. entries) partition number found at leaves ∙ ends_kept kind found

-- the objects of a kind whose sets a change leaves
pub objects_stay : (kind : ObjectKind) (change : WaitingSet → List Entry → List Entry) (partition : Partition) → HasDistinctObjects partition
    → ((number : ℕ) → OnSets kind number (Leaves change partition)) → each_item (with_sets kind change) (objects_of partition kind) ≡ objects_of partition kind
objects_stay kind change partition has leaves =
    all_stay (with_sets kind change) (objects_of partition kind) (has kind) (λ number found at. object_stays kind change partition number found at (leaves number))

-- a change that leaves every set
pub sets_stay : (change : WaitingSet → List Entry → List Entry) (partition : Partition) → HasDistinctObjects partition
    → ((wanted : WaitingSet) → is_of_channel wanted ≡ false → Leaves change partition wanted) → each_set change partition ≡ partition
sets_stay change partition has leaves =
    let stay : (kind : ObjectKind) → each_item (with_sets kind change) (objects_of partition kind) ≡ objects_of partition kind =
    λ kind. objects_stay kind change partition has (λ number end off. leaves (set_at kind number end) off) in
    λ i. record partition { buffers = stay kind.Buffer i; blackboards = stay kind.Blackboard i; semaphores = stay kind.Semaphore i; events = stay kind.Event i; mutexes = stay kind.Mutex i }

-- two changes that agree on every set of a partition agree on the partition
pub each_set_as : (change other : WaitingSet → List Entry → List Entry) (partition : Partition) → HasDistinctObjects partition
    → ((wanted : WaitingSet) → is_of_channel wanted ≡ false → change wanted (entries_at partition wanted) ≡ other wanted (entries_at partition wanted))
    → each_set change partition ≡ each_set other partition
each_set_as change other partition has same =
    let agree : (kind : ObjectKind) → each_item (with_sets kind change) (objects_of partition kind) ≡ each_item (with_sets kind other) (objects_of partition kind) =
    λ kind. each_as (with_sets kind change) (with_sets kind other) (objects_of partition kind) (has kind) (λ number found at. sets_agree kind change other partition number found at
    (λ end off. same (set_at kind number end) off)) in
    λ i. record partition { buffers = agree kind.Buffer i; blackboards = agree kind.Blackboard i; semaphores = agree kind.Semaphore i; events = agree kind.Event i; mutexes = agree kind.Mutex i }

-- one change of each set after another
pub each_set_each : (first second : WaitingSet → List Entry → List Entry) (partition : Partition)
    → each_set second (each_set first partition) ≡ each_set (λ wanted entries. second wanted (first wanted entries)) partition
each_set_each first second partition =
    λ i. record partition {
      buffers = each_each (with_sets kind.Buffer first) (with_sets kind.Buffer second) partition.buffers i;
      blackboards = each_each (with_sets kind.Blackboard first) (with_sets kind.Blackboard second) partition.blackboards i;
      semaphores = each_each (with_sets kind.Semaphore first) (with_sets kind.Semaphore second) partition.semaphores i;
      events = each_each (with_sets kind.Event first) (with_sets kind.Event second) partition.events i;
      mutexes = each_each (with_sets kind.Mutex first) (with_sets kind.Mutex second) partition.mutexes i;
    }

-- the objects of a kind after a change of each set
pub objects_changed_each : (change : WaitingSet → List Entry → List Entry) (partition : Partition) (kind : ObjectKind)
    → objects_of (each_set change partition) kind ≡ each_item (with_sets kind change) (objects_of partition kind)
objects_changed_each change partition kind.SamplingPort = sym (each_itself partition.sampling_ports)
objects_changed_each change partition kind.QueuingPort = sym (each_itself partition.queuing_ports)
objects_changed_each change partition _ = refl

-- The waiting sets of a partition's objects, when its objects change.

-- a change of each object that changes its entries in one way
changed_entries : {Object : Type 0} (Holds : List Entry → Type 0) (entries_of : Object → List Entry) (change : ℕ → Object → Object) (through : List Entry → List Entry) (number : ℕ)
    → ((object : Object) → entries_of (change number object) ≡ through (entries_of object)) → (found : Option Object) → (is_some found ≡ false → entries_in entries_of found ≡ [] → Holds [])
    → Holds (through (entries_in entries_of found)) → Holds (entries_in entries_of (option_map (change number) found))
changed_entries Holds entries_of change through number is None absent all = absent refl refl
changed_entries Holds entries_of change through number is (Some object) absent all = subst Holds (sym (is object)) all

entries_of_each : {Object : Type 0} (Holds : List Entry → Type 0) (entries_of : Object → List Entry) (change : ℕ → Object → Object) (through : List Entry → List Entry) (number : ℕ)
    → ((object : Object) → entries_of (change number object) ≡ through (entries_of object)) → (objects : List (ℕ × Object))
    → (is_some (item_at objects number) ≡ false → entries_in entries_of (item_at objects number) ≡ [] → Holds [])
    → Holds (through (entries_in entries_of (item_at objects number))) → Holds (entries_in entries_of (item_at (each_item change objects) number))
entries_of_each Holds entries_of change through number is objects absent all =
    subst (λ found. Holds (entries_in entries_of found)) (sym (at_each change objects number))
    (changed_entries Holds entries_of change through number is (item_at objects number) absent all)

-- whether the object of a waiting set of a partition is created; a channel's set is no partition's
abbrev pub is_created_at : Partition → WaitingSet → Bool
is_created_at partition wanted = has_end wanted.kind wanted.end && is_some (item_at (objects_of partition wanted.kind) wanted.number)

-- where there is no end, there are no entries
pub none_there : (kind : ObjectKind) (end : End) (found : Option (ObjectOf kind)) → has_end kind end ≡ false → entries_in (entries_at_end kind end) found ≡ []
none_there kind end None none = refl
none_there kind end (Some object) none = no_entries kind end object none

-- the entries of a set, if each set of the partition is changed
pub each_set_holds : (Holds : List Entry → Type 0) (change : WaitingSet → List Entry → List Entry) (partition : Partition) (wanted : WaitingSet)
    → (is_created_at partition wanted ≡ false → entries_at partition wanted ≡ [] → Holds [])
    → Holds (change wanted (entries_at partition wanted)) → Holds (entries_at (each_set change partition) wanted)
each_set_holds Holds change partition wanted absent all =
    let entries_of : ObjectOf wanted.kind → List Entry = entries_at_end wanted.kind wanted.end in
    either_way (has_end wanted.kind wanted.end)
    (λ there. subst (λ objects. Holds (entries_in entries_of (item_at objects wanted.number))) (sym (objects_changed_each change partition wanted.kind))
    (entries_of_each Holds entries_of (with_sets wanted.kind change) (change wanted) wanted.number
    (λ found. end_changes wanted.kind wanted.end (λ end. change (set_at wanted.kind wanted.number end)) found there) (objects_of partition wanted.kind)
    (λ off empty. absent (rw there off) empty) all))
    (λ none. subst Holds (sym (none_there wanted.kind wanted.end (item_at (objects_of (each_set change partition) wanted.kind) wanted.number) none))
    (absent (rw none refl) (none_there wanted.kind wanted.end (item_at (objects_of partition wanted.kind) wanted.number) none)))

-- if it holds for the empty set
pub each_set_has : (Holds : List Entry → Type 0) (nobody : Holds []) (change : WaitingSet → List Entry → List Entry) (partition : Partition) (wanted : WaitingSet)
    → Holds (change wanted (entries_at partition wanted)) → Holds (entries_at (each_set change partition) wanted)
each_set_has Holds nobody change partition wanted all = each_set_holds Holds change partition wanted (λ absent empty. nobody) all

-- a channel's set has no entries in a partition
pub no_channel_entries : (partition : Partition) (wanted : WaitingSet) → is_of_channel wanted ≡ true → entries_at partition wanted ≡ []
no_channel_entries partition wanted is = ap (entries_at partition) (channel_set_is wanted is) ∙ none_there kind.QueuingPort wanted.end (item_at partition.queuing_ports wanted.number) refl

-- what holds for each entry if a set is not a channel's holds for each entry of a partition's set
pub of_objects : (Fact : Entry → Type 0) (partition : Partition) (wanted : WaitingSet) → (is_of_channel wanted ≡ false → AllEntries Fact (entries_at partition wanted))
    → AllEntries Fact (entries_at partition wanted)
of_objects Fact partition wanted all =
    either_way (is_of_channel wanted) (λ is. subst (AllEntries Fact) (sym (no_channel_entries partition wanted is)) tt) (λ off. all off)

-- an object's rule leaves its entries
same_entries : {Object : Type 0} (Holds : List Entry → Type 0) (entries_of : Object → List Entry) (change : Object → Object) → ((object : Object) → entries_of (change object) ≡ entries_of object)
    → (found : Option Object) → Holds (entries_in entries_of found) → Holds (entries_in entries_of (option_map change found))
same_entries Holds entries_of change keeps None all = all
same_entries Holds entries_of change keeps (Some object) all = subst Holds (sym (keeps object)) all

one_changed : {Object : Type 0} (Holds : List Entry → Type 0) (entries_of : Object → List Entry) (at : ℕ) (change : Object → Object) (number : ℕ)
    → ((object : Object) → entries_of (change object) ≡ entries_of object) → (objects : List (ℕ × Object))
    → Holds (entries_in entries_of (item_at objects number)) → Holds (entries_in entries_of (item_at (change_at at change objects) number))
one_changed {Object} Holds entries_of at change number keeps objects all =
    subst (λ found. Holds (entries_in entries_of found)) (sym (at_each (λ other (object : Object). cond (nat_eq other at) (change object) object) objects number))
    (same_entries Holds entries_of (λ (object : Object). cond (nat_eq number at) (change object) object)
    (λ (object : Object). by_test (λ one. entries_of one ≡ entries_of object) (nat_eq number at) (change object) object (λ here. keeps object) (λ elsewhere. refl))
    (item_at objects number) all)

-- a created object has no entries
one_created : {Object : Type 0} (Holds : List Entry → Type 0) (entries_of : Object → List Entry) (claimed : Option ℤ) (object : Object) (number : ℕ) → entries_of object ≡ []
    → (objects : List (ℕ × Object)) → Holds (entries_in entries_of (item_at objects number))
    → Holds (entries_in entries_of (item_at (objects ++ numbered claimed object) number))
one_created Holds entries_of None object number none [] all = all
one_created Holds entries_of (Some (negsuc n)) object number none [] all = all
one_created Holds entries_of (Some (pos n)) object number none [] all =
    by_test (λ found. Holds (entries_in entries_of found)) (nat_eq number n) (Some object) None (λ here. subst Holds (sym none) all) (λ elsewhere. all)
one_created Holds entries_of claimed object number none (entry ∷ entries) all =
    elim (nat_eq number entry.0) as (λ same. Holds (entries_in entries_of (cond same (Some entry.1) (item_at entries number)))
    → Holds (entries_in entries_of (cond same (Some entry.1) (item_at (entries ++ numbered claimed object) number)))) [
      | true ↦ λ all. all
      | false ↦ λ all. one_created Holds entries_of claimed object number none entries all
    ] all

-- the rules of a mutex leave its waiters
pub acquire_keeps : (caller : ℕ) (time_out : ℤ) (owner : Option ℕ) (mutex : Mutex) → (acquired_from owner caller time_out mutex).next.waiters ≡ mutex.waiters
acquire_keeps caller time_out None mutex = refl
acquire_keeps caller time_out (Some owner) mutex =
    by_test (λ (effect : Effect Mutex). effect.next.waiters ≡ mutex.waiters) (nat_eq owner caller) (acquired_again mutex) (not_acquired time_out mutex) (λ own. refl) (λ other. refl)

hand_on_keeps : (first : Option Entry) (mutex : Mutex) → (handed_on first mutex).next.waiters ≡ mutex.waiters
hand_on_keeps None mutex = refl
hand_on_keeps (Some entry) mutex = refl

pub release_keeps : (first : Option Entry) (mutex : Mutex) → (mutex_released first mutex).next.waiters ≡ mutex.waiters
release_keeps first mutex =
    by_test (λ (effect : Effect Mutex). effect.next.waiters ≡ mutex.waiters) (nat_lt 1 mutex.count) (released_once mutex) (handed_on first mutex)
    (λ more. refl) (λ last. hand_on_keeps first mutex)

pub mutex_keeps : (caller : ℕ) (operation : MutexOperation) (mutex : Mutex) → (mutex_effect caller operation mutex).next.waiters ≡ mutex.waiters
mutex_keeps caller (MutexOperation.Acquire time_out) mutex = acquire_keeps caller time_out mutex.owner mutex
mutex_keeps caller MutexOperation.Release mutex = release_keeps (first_waiter mutex.discipline mutex.waiters) mutex
mutex_keeps caller (MutexOperation.Reset process) mutex = hand_on_keeps (first_waiter mutex.discipline mutex.waiters) mutex

-- the rules of all objects leave their entries
pub effect_keeps : (caller : ℕ) (operation : ObjectOperation) (end : End) (found : ObjectOf (kind_used operation))
    → entries_at_end (kind_used operation) end (object_effect caller operation found).next ≡ entries_at_end (kind_used operation) end found
effect_keeps caller (on.Buffer operation) Senders found = refl
effect_keeps caller (on.Buffer operation) Receivers found = refl
effect_keeps caller (on.Mutex operation) Receivers found = mutex_keeps caller operation found
effect_keeps caller (on.Blackboard operation) Receivers found = refl
effect_keeps caller (on.Semaphore operation) Receivers found = refl
effect_keeps caller (on.Event operation) Receivers found = refl
effect_keeps caller _ Senders found = refl

-- what is created has no entries
pub new_has_none : (configuration : Configuration) (part : ℕ) (name : List ℕ) (object : NewObject) (end : End) (made : ObjectOf (kind_of object)) → new_object configuration part name object ≡ Some made
    → entries_at_end (kind_of object) end made ≡ []
new_has_none configuration part name (NewObject.Buffer size capacity discipline) Senders made is = ap (λ (one : Option Buffer). entries_in (λ buffer. buffer.senders) one) (sym is)
new_has_none configuration part name (NewObject.Buffer size capacity discipline) Receivers made is = ap (λ (one : Option Buffer). entries_in (λ buffer. buffer.receivers) one) (sym is)
new_has_none configuration part name (NewObject.Blackboard size) Receivers made is = ap (λ (one : Option Blackboard). entries_in (λ blackboard. blackboard.readers) one) (sym is)
new_has_none configuration part name (NewObject.Semaphore value maximum discipline) Receivers made is = ap (λ (one : Option Semaphore). entries_in (λ semaphore. semaphore.waiters) one) (sym is)
new_has_none configuration part name NewObject.Event Receivers made is = ap (λ (one : Option Event). entries_in (λ event. event.waiters) one) (sym is)
new_has_none configuration part name (NewObject.Mutex priority discipline) Receivers made is = ap (λ (one : Option Mutex). entries_in (λ mutex. mutex.waiters) one) (sym is)
new_has_none configuration part name _ _ made is = refl

one_created_if : {Object : Type 0} (Holds : List Entry → Type 0) (entries_of : Object → List Entry) (claimed : Option ℤ) (made : Option Object) (number : ℕ)
    → ((object : Object) → made ≡ Some object → entries_of object ≡ []) → (objects : List (ℕ × Object)) → Holds (entries_in entries_of (item_at objects number))
    → Holds (entries_in entries_of (item_at (objects ++ numbered_if claimed made) number))
one_created_if {Object} Holds entries_of claimed None number none objects all = subst (λ (one : List (ℕ × Object)). Holds (entries_in entries_of (item_at one number))) (sym (append-nil objects)) all
one_created_if Holds entries_of claimed (Some object) number none objects all = one_created Holds entries_of claimed object number (none object refl) objects all

-- the rules of the objects leave the waiting sets, and what is created has none
pub objects_have : (Holds : List Entry → Type 0) (configuration : Configuration) (who : Who) (claimed : Option ℤ) (asked : Request) (partition : Partition) (wanted : WaitingSet)
    → Holds (entries_at partition wanted) → Holds (entries_at (objects_by configuration who claimed asked partition) wanted)
objects_have Holds configuration who claimed (Request.Create name object) partition wanted all =
    let Fact : (kind : ObjectKind) → List (ℕ × ObjectOf kind) → Type 0 = λ kind objects. Holds (entries_in (entries_at_end kind wanted.end) (item_at objects wanted.number)) in
    put_holds (kind_of object) _ partition wanted.kind Fact
    (λ same. one_created_if Holds (entries_at_end (kind_of object) wanted.end) claimed (new_object configuration who.part name object) wanted.number
    (λ made is. new_has_none configuration who.part name object wanted.end made is) (objects_of partition (kind_of object))
    (subst (λ kind. Fact kind (objects_of partition kind)) (sym (same_kind_is _ _ same)) all))
    (λ other. all)
objects_have Holds configuration who claimed (Request.Object number operation) partition wanted all =
    let Fact : (kind : ObjectKind) → List (ℕ × ObjectOf kind) → Type 0 = λ kind objects. Holds (entries_in (entries_at_end kind wanted.end) (item_at objects wanted.number)) in
    put_holds (kind_used operation) _ partition wanted.kind Fact
    (λ same. one_changed Holds (entries_at_end (kind_used operation) wanted.end) (natural_of number) (λ found. (object_effect who.proc operation found).next) wanted.number
    (effect_keeps who.proc operation wanted.end) (objects_of partition (kind_used operation))
    (subst (λ kind. Fact kind (objects_of partition kind)) (sym (same_kind_is _ _ same)) all))
    (λ other. all)
objects_have Holds configuration who claimed (Request.SamplingPort port SamplingOperation.Read) partition wanted all =
    let Fact : (kind : ObjectKind) → List (ℕ × ObjectOf kind) → Type 0 = λ kind objects. Holds (entries_in (entries_at_end kind wanted.end) (item_at objects wanted.number)) in
    put_holds kind.SamplingPort _ partition wanted.kind Fact
    (λ same. one_changed Holds (entries_at_end kind.SamplingPort wanted.end) (natural_of port) (λ (found : Port). record found { valid = is_valid claimed }) wanted.number
    (λ found. refl) partition.sampling_ports (subst (λ kind. Fact kind (objects_of partition kind)) (sym (same_kind_is kind.SamplingPort wanted.kind same)) all))
    (λ other. all)
objects_have Holds configuration who claimed _ partition wanted all = all
