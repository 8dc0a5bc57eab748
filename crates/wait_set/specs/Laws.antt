-- Laws on waiting sets: an entry that comes last enters last, and a list in rising order names each process once.
use Rattle.std.specs.Prelude.{◌≡◌, ◌<◌, ℕ, List, [], ◌∷◌, ◌++◌}
use Rattle.apex_types.specs.declared.record.Who.{Who}
use Rattle.apex_types.specs.Rising.{IsRising}
use Rattle.apex_machine.specs.declared.state.Entry.{Entry}
use Rattle.apex_machine.specs.Answer.{NamesExactly, waiters_of}
use Rattle.wait_set.specs.Sets.{IsListOfWaiters, entered}

-- all entries have places below this one
abbrev pub AreBeforePlace : ℕ → List Entry → Type 0
AreBeforePlace place [] = Unit {0}
AreBeforePlace place (entry ∷ entries) = (entry.place < place) × AreBeforePlace place entries

-- an entry whose place is after all others enters last
abbrev pub EntersLast : Type 0
EntersLast = (entry : Entry) (entries : List Entry) → AreBeforePlace entry.place entries → entered entry entries ≡ entries ++ entry ∷ []

-- a list in rising order that names exactly the processes that wait names each of them once
abbrev pub RisingIsListOfWaiters : Type 0
RisingIsListOfWaiters = (entries : List Entry) (named : List Who) → IsRising named → NamesExactly (waiters_of entries) named → IsListOfWaiters entries named
