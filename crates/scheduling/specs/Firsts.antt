-- What ranks and due times that are in order show.
use Rattle.std.specs.Prelude.{ℕ, suc, List, [], ◌∷◌, Option, Some, None, Bool, false, nat_eq, nat_le, ◌&&◌, ◌||◌, if◌then◌else◌}
use Rattle.scheduling.specs.declared.order.DueTime.{DueTime}
use Rattle.scheduling.specs.declared.order.Rank.{Rank}

-- the process of the first rank that is of this core, if one is
abbrev pub first_on : ℕ → List Rank → Option ℕ
first_on core [] = None
first_on core (rank ∷ ranks) = if nat_eq rank.core core then Some rank.number else first_on core ranks

-- whether a due time is of this core, and not above this time
abbrev pub is_reached : ℕ → ℕ → DueTime → Bool
is_reached core time due = nat_eq due.core core && nat_le due.time time

-- whether one of these due times is of this core, and not above this time
abbrev pub some_reached : ℕ → ℕ → List DueTime → Bool
some_reached core time [] = false
some_reached core time (due ∷ others) = is_reached core time due || some_reached core time others

-- how many due times are of this core, and not above this time
abbrev pub due_count : ℕ → ℕ → List DueTime → ℕ
due_count core time [] = 0
due_count core time (due ∷ others) = if is_reached core time due then suc (due_count core time others) else due_count core time others
