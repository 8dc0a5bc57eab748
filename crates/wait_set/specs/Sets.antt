-- Waiting sets: a discipline and entries; which entries enter, which leave, and which list names the processes that wait.
use Rattle.std.specs.Prelude.{◌<◌, ℕ, List, [], ◌∷◌, Option, Some, None, Bool, false, ◌||◌, nat_eq, nat_lt, if◌then◌else◌, IsFalse}
use Rattle.apex_types.specs.declared.discipline.Discipline.{Discipline}
use Rattle.apex_types.specs.declared.record.Who.{Who}
use Rattle.apex_machine.specs.declared.state.Entry.{Entry}
use Rattle.apex_machine.specs.Answer.{NamesExactly, waiters_of}
use Rattle.apex_machine.specs.Demands.{has_entry_in}
use Rattle.apex_machine.specs.State.{is_named, is_same}
use Rattle.apex_machine.specs.Waiting.{first_waiter, without}

-- a waiting set: its discipline, and its entries in the order of their places   (QUEUING_DISCIPLINE, section 3)
pub record Waiters : Type 0 where
  pub discipline : Discipline
  pub entries : List Entry

-- what enters

-- the entries with one more at its place: after those with smaller places, before the others
abbrev pub entered : Entry → List Entry → List Entry
entered entry [] = entry ∷ []
entered entry (other ∷ others) = if nat_lt other.place entry.place then other ∷ entered entry others else entry ∷ other ∷ others

-- whether an entry of a set has this place
abbrev pub has_place : ℕ → List Entry → Bool
has_place place [] = false
has_place place (entry ∷ entries) = nat_eq place entry.place || has_place place entries

-- a new entry: its process has no entry in the set, and no entry has its place
abbrev pub IsNew : Entry → List Entry → Type 0
IsNew entry entries = IsFalse (has_entry_in entry.who entries) × IsFalse (has_place entry.place entries)

-- all entries have places above this one
abbrev pub AreAfterPlace : ℕ → List Entry → Type 0
AreAfterPlace place [] = Unit {0}
AreAfterPlace place (entry ∷ entries) = (place < entry.place) × AreAfterPlace place entries

-- the places of a set rise
abbrev pub PlacesRise : List Entry → Type 0
PlacesRise [] = Unit {0}
PlacesRise (entry ∷ entries) = AreAfterPlace entry.place entries × PlacesRise entries

-- the entry of a process, if it waits
abbrev pub entry_of : Who → List Entry → Option Entry
entry_of who [] = None
entry_of who (entry ∷ entries) = if is_same who entry.who then Some entry else entry_of who entries

-- what leaves

-- the entries of all processes but this one
abbrev pub without_one : Who → List Entry → List Entry
without_one who entries = without (λ other. is_same other who) entries

-- the entries of all processes but that of this entry, if there is one
abbrev pub without_found : Option Entry → List Entry → List Entry
without_found None entries = entries
without_found (Some entry) entries = without_one entry.who entries

-- the process of this entry, if there is one
abbrev pub waiter_of : Option Entry → List Who
waiter_of None = []
waiter_of (Some entry) = entry.who ∷ []

-- the entries of all processes but the first
abbrev pub without_first : Discipline → List Entry → List Entry
without_first discipline entries = without_found (first_waiter discipline entries) entries

-- the entries of all processes that a list does not name
abbrev pub without_named : List Who → List Entry → List Entry
without_named named entries = without (λ who. is_named who named) entries

-- the entries of all processes that are not of this partition
abbrev pub without_part : ℕ → List Entry → List Entry
without_part part entries = without (λ who. nat_eq who.part part) entries

-- what a list names

-- no process occurs twice in a list
abbrev pub NobodyTwice : List Who → Type 0
NobodyTwice [] = Unit {0}
NobodyTwice (who ∷ others) = IsFalse (is_named who others) × NobodyTwice others

-- a list names exactly the processes that wait, each once
abbrev pub IsListOfWaiters : List Entry → List Who → Type 0
IsListOfWaiters entries named = NamesExactly (waiters_of entries) named × NobodyTwice named

-- several sets

-- whether a process has an entry in one of these sets
abbrev pub has_entry_in_one : Who → List (List Entry) → Bool
has_entry_in_one who [] = false
has_entry_in_one who (entries ∷ sets) = has_entry_in who entries || has_entry_in_one who sets

-- an entry is new in each of these sets
abbrev pub IsNewInEach : Entry → List (List Entry) → Type 0
IsNewInEach entry [] = Unit {0}
IsNewInEach entry (entries ∷ sets) = IsNew entry entries × IsNewInEach entry sets
