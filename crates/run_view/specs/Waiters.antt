-- The processes that wait in a set, in the order in which their waits end.
use Rattle.std.specs.Prelude.{ℕ, List, [], ◌∷◌, Option, Some, None, length, zero, suc}
use Rattle.apex_types.specs.declared.discipline.Discipline.{Discipline}
use Rattle.apex_machine.specs.declared.state.Entry.{Entry}
use Rattle.apex_machine.specs.Waiting.{first_waiter}
use Rattle.wait_set.specs.Sets.{Waiters, without_first}
use Rattle.run_view.specs.declared.waiter.Waiter.{Waiter}

-- what is shown of an entry
abbrev pub shown : Entry → Waiter
shown entry = record { who = entry.who; priority = entry.priority; since = entry.place }

-- the processes that wait, if the wait of one ends first, and those of these after it
abbrev pub with_first : Option Entry → List Waiter → List Waiter
with_first None waiters = []
with_first (Some entry) waiters = shown entry ∷ waiters

-- at most this many of these entries, in the order in which their waits end
abbrev pub first_in_turn : ℕ → Discipline → List Entry → List Waiter
first_in_turn zero discipline entries = []
first_in_turn (suc count) discipline entries =
    with_first (first_waiter discipline entries) (first_in_turn count discipline (without_first discipline entries))

-- all processes that wait in a set, in the order in which their waits end
abbrev pub in_turn : Waiters → List Waiter
in_turn set = first_in_turn (length set.entries) set.discipline set.entries
