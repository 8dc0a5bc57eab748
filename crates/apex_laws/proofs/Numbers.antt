-- Processes and objects by their numbers: what is found under a number, and which numbers are new.
use Rattle.std.proofs.Common.{◌≡◌, ℕ, ◌<◌, ◌≤◌, ℤ, pos, negsuc, List, [], ◌∷◌, Option, Some, None, Bool, false, nat_eq, is_none, refl, sym, ap, subst, ◌∙◌, inl, inr, true≢false}
use Rattle.std.proofs.lemmas.Bool.{eqb-true}
use Rattle.std.proofs.lemmas.List.Elements.{All-contains}
use Rattle.std.proofs.lemmas.Slice.Eq.{bytes_eq-Decides}
use Rattle.std.specs.Prelude.{Contains}
use Rattle.std.specs.Str.{bytes_eq}
use Rattle.apex_laws.specs.NumberLaws.{AreFound, AreFoundByName, AreNew, IsNewNumber, NamesAreFound, NewNumberIsTheSentence, ObjectsAreFound, OwnedIsFound, ProcessesAreFound}
use Rattle.apex_laws.proofs.Common.{Blackboard, Buffer, Event, GREATEST_NUMBER, Mutex, Port, Process, Semaphore, is_free, is_new, is_owner, item_at, mutex_owned, number_named}
use Rattle.apex_laws.proofs.Booleans.{by_test, cannot_hold, either_way, impossible, is_itself, member_first, member_later, never_found, one_item}
use Rattle.apex_laws.proofs.Choices.{at_its_number}
use Rattle.apex_laws.proofs.ConditionTests.{at_most_tells, below_tells, member_cases, member_nowhere, nobody, none_tells, nothing_named_tells, owner_tells, Tells, tells_both}

-- what is found is in the list under its number
found_object : {Object : Type 0} → (objects : List (ℕ × Object)) (number : ℕ) (object : Object) → item_at objects number ≡ Some object → Contains objects (number, object)
found_object [] number object at = never_found at
found_object {Object} (entry ∷ entries) number object at =
    either_way (nat_eq number entry.0)
    (λ here. (let key : entry.0 ≡ number = sym (eqb-true number entry.0 here) in let item : entry.1 ≡ object = one_item (rw here at at) in
    let one : ◌≡◌ {A = ℕ × Object} entry (number, object) = λ i. (key i, item i) in subst (Contains (entry ∷ entries)) one (member_first entry entries)))
    (λ other. member_later entry (number, object) entries (found_object entries number object (rw other at at)))

-- if nothing is found, there is nothing
nothing_is_there : {Object : Type 0} → (objects : List (ℕ × Object)) (number : ℕ) → item_at objects number ≡ None → (object : Object) → ¬ Contains objects (number, object)
nothing_is_there [] number none object is_member = member_nowhere (number, object) is_member
nothing_is_there (entry ∷ entries) number none object is_member =
    either_way (nat_eq number entry.0) (λ here. never_found (sym (rw here at none)))
    (λ other. elim (member_cases entry (number, object) entries is_member) [
      | inl same ↦ true≢false (sym (ap (λ one. nat_eq number one.0) (sym same) ∙ is_itself number) ∙ other)
      | inr there ↦ nothing_is_there entries number (rw other at none) object there
    ])

none_is_there : {Object : Type 0} → (objects : List (ℕ × Object)) (number : ℕ) → ((object : Object) → ¬ Contains objects (number, object)) → item_at objects number ≡ None
none_is_there {Object} objects number none = nobody (item_at objects number) (λ object at. none object (found_object objects number object at))

are_found : (Object : Type 0) → AreFound Object
are_found Object objects number = (found_object objects number, (nothing_is_there objects number, none_is_there objects number))

pub objects_are_found : ObjectsAreFound
objects_are_found = record {
  buffers = are_found Buffer;
  blackboards = are_found Blackboard;
  semaphores = are_found Semaphore;
  events = are_found Event;
  mutexes = are_found Mutex;
  ports = are_found Port;
}

-- what is found by name has the name
one_by_name : {Object : Type 0} → (name_of : Object → List ℕ) (objects : List (ℕ × Object)) (name : List ℕ) (number : ℕ) → number_named name_of name objects ≡ Some number
    → (object : Object) × Contains objects (number, object) × (name_of object ≡ name)
one_by_name name_of [] name number at = never_found at
one_by_name {Object} name_of (entry ∷ entries) name number at =
    either_way (bytes_eq name (name_of entry.1))
    (λ here. (let same : entry.0 ≡ number = one_item (rw here at at) in
    let one : ◌≡◌ {A = ℕ × Object} entry (number, entry.1) = λ i. (same i, entry.1) in
    (entry.1, subst (Contains (entry ∷ entries)) one (member_first entry entries), sym ((bytes_eq-Decides name (name_of entry.1)).0 here))))
    (λ other. (let found = one_by_name name_of entries name number (rw other at at) in (found.0, member_later entry (number, found.0) entries found.1, found.2)))

found_by_name : {Object : Type 0} → (name_of : Object → List ℕ) → AreFoundByName name_of
found_by_name name_of objects name = (
  one_by_name name_of objects name,
  (λ none. (nothing_named_tells name_of name objects).0 (ap is_none none), λ unnamed. (none_tells (number_named name_of name objects)).0 ((nothing_named_tells name_of name objects).1 unnamed)),
)

pub names_are_found : NamesAreFound
names_are_found = record {
  processes = found_by_name (λ (process : Process). process.name);
  buffers = found_by_name (λ (buffer : Buffer). buffer.name);
  blackboards = found_by_name (λ (blackboard : Blackboard). blackboard.name);
  semaphores = found_by_name (λ (semaphore : Semaphore). semaphore.name);
  events = found_by_name (λ (event : Event). event.name);
  mutexes = found_by_name (λ (mutex : Mutex). mutex.name);
  ports = found_by_name (λ (port : Port). port.name);
}

pub processes_are_found : ProcessesAreFound
processes_are_found table number = (
  λ distinct process. (
    found_object table number process,
    λ is_member. All-contains (λ entry. item_at table entry.0 ≡ Some entry.1) table (number, process) (at_its_number table distinct) is_member,
  ),
  (nothing_is_there table number, none_is_there table number),
)

-- a new number, if a test decides which numbers are free
new_tells : {Object : Type 0} → (objects : List (ℕ × Object)) (is_free : ℕ → Bool) → ((number : ℕ) → Tells (is_free number) ((object : Object) → ¬ Contains objects (number, object)))
    → (claimed : Option ℤ) → Tells (is_new is_free claimed) (IsNewNumber objects claimed)
new_tells objects is_free tells None = (impossible, λ fact. never_found fact.is)
new_tells objects is_free tells (Some (negsuc n)) = (impossible, λ fact. let one : ◌≡◌ {A = ℤ} (negsuc n) (pos fact.number) = one_item fact.is in cc)
new_tells {Object} objects is_free tells (Some (pos n)) =
    let all = tells_both (below_tells 0 n) (tells_both (at_most_tells n GREATEST_NUMBER) (tells n)) in (
      λ holds. let facts = all.0 holds in record { number = n; is = refl; least = facts.0; greatest = facts.1.0; free = facts.1.1 },
      λ fact. let one : ◌≡◌ {A = ℤ} (pos n) (pos fact.number) = one_item fact.is in
          let same : fact.number ≡ n = cc in
          all.1 (subst (λ one. 0 < one) same fact.least, (subst (λ one. one ≤ GREATEST_NUMBER) same fact.greatest, subst (λ one. (object : Object) → ¬ Contains objects (one, object)) same fact.free)),
    )

are_new : (Object : Type 0) → AreNew Object
are_new Object objects claimed =
    new_tells objects (is_free objects)
    (λ number. (
      λ holds. nothing_is_there objects number ((none_tells (item_at objects number)).0 holds),
      λ fact. (none_tells (item_at objects number)).1 (none_is_there objects number fact),
    )) claimed

pub new_number_is_the_sentence : NewNumberIsTheSentence
new_number_is_the_sentence = record {
  processes = λ table claimed. new_tells table (is_free table)
      (λ number. (
        λ holds. ((processes_are_found table number).1).0 ((none_tells (item_at table number)).0 holds),
        λ fact. (none_tells (item_at table number)).1 (((processes_are_found table number).1).1 fact),
      )) claimed;
  buffers = are_new Buffer;
  blackboards = are_new Blackboard;
  semaphores = are_new Semaphore;
  events = are_new Event;
  mutexes = are_new Mutex;
  ports = are_new Port;
}

-- the mutex that a process owns

owned_is : (process : ℕ) (mutexes : List (ℕ × Mutex)) (number : ℕ) → mutex_owned mutexes process ≡ pos number → (mutex : Mutex) × Contains mutexes (number, mutex) × (mutex.owner ≡ Some process)
owned_is process [] number is = let no : ◌≡◌ {A = ℤ} (negsuc 1) (pos number) = is in cc
owned_is process (entry ∷ entries) number is =
    by_test (λ told. told ≡ pos number → (mutex : Mutex) × Contains (entry ∷ entries) (number, mutex) × (mutex.owner ≡ Some process))
    (is_owner entry.1.owner process) (pos entry.0) (mutex_owned entries process)
    (λ owns is. (let same : entry.0 ≡ number = (let one : ◌≡◌ {A = ℤ} (pos entry.0) (pos number) = is in cc) in
    (entry.1, subst (λ one. Contains (entry ∷ entries) (one, entry.1)) same (member_first entry entries), (owner_tells entry.1.owner process).0 owns)))
    (λ other is. (let later = owned_is process entries number is in (later.0, member_later entry (number, later.0) entries later.1, later.2))) is

none_owned : (process : ℕ) (mutexes : List (ℕ × Mutex)) → ((number : ℕ) (mutex : Mutex) → Contains mutexes (number, mutex) → ¬ (mutex.owner ≡ Some process)) → mutex_owned mutexes process ≡ negsuc 1
none_owned process [] none = refl
none_owned process (entry ∷ entries) none =
    let other : is_owner entry.1.owner process ≡ false =
    cannot_hold (is_owner entry.1.owner process) (λ owns. none entry.0 entry.1 (member_first entry entries) ((owner_tells entry.1.owner process).0 owns)) in
    rw other (none_owned process entries (λ number mutex is_member. none number mutex (member_later entry (number, mutex) entries is_member)))

owned_not : (process : ℕ) (mutexes : List (ℕ × Mutex)) → mutex_owned mutexes process ≡ negsuc 1 → (number : ℕ) (mutex : Mutex) → Contains mutexes (number, mutex) → ¬ (mutex.owner ≡ Some process)
owned_not process [] is number mutex is_member owner = absurd (member_nowhere (number, mutex) is_member)
owned_not process (entry ∷ entries) is number mutex is_member owner =
    by_test (λ told. told ≡ negsuc 1 → ⊥) (is_owner entry.1.owner process) (pos entry.0) (mutex_owned entries process)
    (λ owns is. (let no : ◌≡◌ {A = ℤ} (pos entry.0) (negsuc 1) = is in cc))
    (λ other is. elim (member_cases entry (number, mutex) entries is_member) [
      | inl here ↦ true≢false (sym ((owner_tells entry.1.owner process).1 (ap (λ (one : ℕ × Mutex). one.1.owner) (sym here) ∙ owner)) ∙ other)
      | inr there ↦ owned_not process entries is number mutex there owner
    ]) is

only_two : (process : ℕ) (mutexes : List (ℕ × Mutex)) (below : ℕ) → mutex_owned mutexes process ≡ negsuc below → below ≡ 1
only_two process [] below is = let one : ◌≡◌ {A = ℤ} (negsuc 1) (negsuc below) = is in cc
only_two process (entry ∷ entries) below is =
    by_test (λ told. told ≡ negsuc below → below ≡ 1) (is_owner entry.1.owner process) (pos entry.0) (mutex_owned entries process)
    (λ owns is. (let no : ◌≡◌ {A = ℤ} (pos entry.0) (negsuc below) = is in cc)) (λ other is. only_two process entries below is) is

pub owned_is_found : OwnedIsFound
owned_is_found partition process = (
  λ number is. let found = owned_is process partition.mutexes number is in record { mutex = found.0; is_member = found.1; owner = found.2 },
  (
    λ is number owns. owned_not process partition.mutexes is number owns.mutex owns.is_member owns.owner,
    λ none. none_owned process partition.mutexes (λ number mutex is_member owner. none number (record { mutex = mutex; is_member = is_member; owner = owner })),
  ),
  only_two process partition.mutexes,
)
