-- What the maps of a waiting set keep: they describe the same entries.
use Rattle.std.specs.Prelude.{◌≡◌, ◌||◌, ◌&&◌, ℕ, List, [], ◌∷◌, Option, Some, None, Bool, false, nat_eq, if◌then◌else◌}
use Rattle.std.specs.List.{list_any}
use Rattle.std.specs.Map.{values_of, lookup}
use Rattle.apex_types.specs.declared.discipline.Discipline.{Discipline}
use Rattle.apex_types.specs.declared.record.Who.{Who}
use Rattle.apex_machine.specs.declared.state.Entry.{Entry}
use Rattle.apex_machine.specs.Answer.{waiters_of}
use Rattle.apex_machine.specs.State.{is_same}
use Rattle.wait_set.specs.declared.rank.Rank.{Rank}
use Rattle.wait_set.specs.Ranks.{rank_of}
use Rattle.wait_set.specs.Sets.{NobodyTwice, PlacesRise}

-- the place of a process, if it waits
abbrev pub place_of : Who → List Entry → Option ℕ
place_of who [] = None
place_of who (entry ∷ entries) = if is_same who entry.who then Some entry.place else place_of who entries

-- the entries under their places
abbrev pub by_place : List Entry → List (ℕ × Entry)
by_place [] = []
by_place (entry ∷ entries) = (entry.place, entry) ∷ by_place entries

-- whether two ranks are the same
abbrev pub is_rank : Rank → Rank → Bool
is_rank one other = nat_eq one.urgency.0 other.urgency.0 && nat_eq one.place other.place

-- whether an entry has this rank
abbrev pub has_rank : Discipline → Rank → List Entry → Bool
has_rank discipline rank [] = false
has_rank discipline rank (entry ∷ entries) = is_rank rank (rank_of discipline entry) || has_rank discipline rank entries

-- each entry is kept under its place, and the places rise; exactly the processes that wait are found, each with its place; exactly the
-- ranks of the entries are kept; and no process has two entries
pub record IsKept (discipline : Discipline) (stored : List (ℕ × Entry)) (places : List (Who × ℕ)) (ranks : List Rank) : Type 0 where
  pub under_places : stored ≡ by_place (values_of stored)
  pub rising : PlacesRise (values_of stored)
  pub found : (who : Who) → lookup (is_same who) places ≡ place_of who (values_of stored)
  pub ranked : (rank : Rank) → list_any (is_rank rank) ranks ≡ has_rank discipline rank (values_of stored)
  pub once : NobodyTwice (waiters_of (values_of stored))
