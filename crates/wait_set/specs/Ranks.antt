-- The order of the processes that wait, as a rank that can be compared.
use Rattle.std.specs.Prelude.{ℕ}
use Rattle.apex_types.specs.declared.discipline.Discipline.{Discipline}
use Rattle.apex_types.specs.declared.discipline.Discipline.TheVariants.{Fifo, Priority}
use Rattle.apex_machine.specs.declared.state.Entry.{Entry}
use Rattle.wait_set.specs.declared.rank.Rank.{Rank}

-- the urgency of an entry: its priority, or the same for all entries if the set is first in, first out
abbrev pub urgency_of : Discipline → Entry → ℕ
urgency_of Fifo entry = 0
urgency_of Priority entry = entry.priority

-- the rank of an entry: a greater urgency comes first
abbrev pub rank_of : Discipline → Entry → Rank
rank_of discipline entry = record { urgency = record { 0 = urgency_of discipline entry }; place = entry.place }
