-- Lists of processes in rising order.
use Rattle.std.specs.Prelude.{List, [], ◌∷◌, Bool, nat_eq, nat_lt, ◌&&◌, ◌||◌, IsTrue}
use Rattle.apex_types.specs.declared.record.Who.{Who}

-- whether a process comes after another: by its partition, and in one partition by its number
abbrev pub is_listed_before : Who → Who → Bool
is_listed_before last who = nat_lt last.part who.part || (nat_eq last.part who.part && nat_lt last.proc who.proc)

-- each of these processes comes after the one before it, and the first of them comes after this one
abbrev pub RisesFrom : Who → List Who → Type 0
RisesFrom last [] = Unit {0}
RisesFrom last (who ∷ others) = IsTrue (is_listed_before last who) × RisesFrom who others

-- each process of a list comes after the one before it
abbrev pub IsRising : List Who → Type 0
IsRising [] = Unit {0}
IsRising (who ∷ others) = RisesFrom who others
