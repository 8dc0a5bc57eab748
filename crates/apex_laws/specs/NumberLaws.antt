-- Processes and objects by their numbers: which one is found under a number, and which numbers are new.
use Rattle.std.specs.Prelude.{◌≡◌, ◌↔◌, ℕ, ◌<◌, ◌≤◌, ℤ, pos, negsuc, List, Option, Some, None, IsTrue, Contains}
use Rattle.apex_types.specs.declared.limits.TheConstants.{GREATEST_NUMBER}
use Rattle.apex_machine.specs.declared.state.Process.{Process}
use Rattle.apex_machine.specs.Answer.{HasValue, NewNumber}
use Rattle.apex_machine.specs.State.{Blackboard, Buffer, Event, Mutex, Partition, Port, Semaphore, Table, is_free, item_at}
use Rattle.apex_machine.specs.Names.{number_named}
use Rattle.apex_machine.specs.Statuses.{mutex_owned}
use Rattle.apex_laws.specs.ConditionSentences.{OneIsNamed, Owns}
use Rattle.apex_laws.specs.Laws.{are_distinct}

-- in a table of distinct numbers, the process found under a number is the one that has it; none is found exactly if no process has it
abbrev pub ProcessesAreFound : Type 0
ProcessesAreFound =
    (table : Table) (number : ℕ)
    → (IsTrue (are_distinct table) → (process : Process) → (item_at table number ≡ Some process) ↔ Contains table (number, process))
    × ((item_at table number ≡ None) ↔ ((process : Process) → ¬ Contains table (number, process)))

-- an object found under a number has that number, and none is found exactly if no object has it
abbrev pub AreFound : (Object : Type 0) → Type 0
AreFound Object =
    (objects : List (ℕ × Object)) (number : ℕ)
    → ((object : Object) → item_at objects number ≡ Some object → Contains objects (number, object))
    × ((item_at objects number ≡ None) ↔ ((object : Object) → ¬ Contains objects (number, object)))

-- this holds for the objects and ports of each kind
pub record ObjectsAreFound : Type 0 where
  pub buffers : AreFound Buffer
  pub blackboards : AreFound Blackboard
  pub semaphores : AreFound Semaphore
  pub events : AreFound Event
  pub mutexes : AreFound Mutex
  pub ports : AreFound Port

-- a number found under a name is that of an object with the name, and none is found exactly if no object has it
abbrev pub AreFoundByName : {Object : Type 0} → (Object → List ℕ) → Type 0
AreFoundByName {Object} name_of =
    (objects : List (ℕ × Object)) (name : List ℕ)
    → ((number : ℕ) → number_named name_of name objects ≡ Some number → (object : Object) × Contains objects (number, object) × (name_of object ≡ name))
    × ((number_named name_of name objects ≡ None) ↔ (¬ OneIsNamed name name_of objects))

-- this holds for processes, and for the objects and ports of each kind
pub record NamesAreFound : Type 0 where
  pub processes : AreFoundByName (λ (process : Process). process.name)
  pub buffers : AreFoundByName (λ (buffer : Buffer). buffer.name)
  pub blackboards : AreFoundByName (λ (blackboard : Blackboard). blackboard.name)
  pub semaphores : AreFoundByName (λ (semaphore : Semaphore). semaphore.name)
  pub events : AreFoundByName (λ (event : Event). event.name)
  pub mutexes : AreFoundByName (λ (mutex : Mutex). mutex.name)
  pub ports : AreFoundByName (λ (port : Port). port.name)

-- the number reported of the mutex that a process owns is that of a mutex that it owns; it is -2 exactly if the process owns none, and no
-- other number below 0
abbrev pub OwnedIsFound : Type 0
OwnedIsFound =
    (partition : Partition) (process : ℕ)
    → ((number : ℕ) → mutex_owned partition.mutexes process ≡ pos number → Owns partition process number)
    × ((mutex_owned partition.mutexes process ≡ negsuc 1) ↔ ((number : ℕ) → ¬ Owns partition process number))
    × ((below : ℕ) → mutex_owned partition.mutexes process ≡ negsuc below → below ≡ 1)

-- a new number of a kind: it is from 1 to 2,147,483,647, and no object of the kind has it
pub record IsNewNumber {Object : Type 0} (objects : List (ℕ × Object)) (claimed : Option ℤ) : Type 0 where
  pub number : ℕ
  pub is : claimed ≡ Some (pos number)
  pub least : 0 < number
  pub greatest : number ≤ GREATEST_NUMBER
  pub free : (object : Object) → ¬ Contains objects (number, object)

-- the value of a creation of an object is a new number of the kind
abbrev pub AreNew : (Object : Type 0) → Type 0
AreNew Object = (objects : List (ℕ × Object)) (claimed : Option ℤ) → HasValue (NewNumber (is_free objects)) claimed ↔ IsNewNumber objects claimed

-- this holds for processes, and for the objects and ports of each kind
pub record NewNumberIsTheSentence : Type 0 where
  pub processes : (table : Table) (claimed : Option ℤ) → HasValue (NewNumber (is_free table)) claimed ↔ IsNewNumber table claimed
  pub buffers : AreNew Buffer
  pub blackboards : AreNew Blackboard
  pub semaphores : AreNew Semaphore
  pub events : AreNew Event
  pub mutexes : AreNew Mutex
  pub ports : AreNew Port
