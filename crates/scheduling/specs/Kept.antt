-- What a table keeps.
use Rattle.std.specs.Prelude.{◌≡◌, ◌<◌, ◌≤◌, ◌+◌, ℕ, length}
use Rattle.apex_machine.specs.State.{Table}
use Rattle.scheduling.specs.Numbers.{NumbersFit}
use Rattle.scheduling.specs.Orders.{Sequence, keys_in}
use Rattle.scheduling.specs.Ranks.{deadline_time_of, due_before, due_time_of, rank_before, rank_of}
use Rattle.scheduling.specs.declared.order.DueTime.{DueTime}
use Rattle.scheduling.specs.declared.order.Rank.{Rank}

-- besides its processes a table keeps the ranks of those that are ready, the due times of those that wait and the deadlines, in order, with
-- room for one of each process; and there is room for a first process, given so many spare places in the map
pub record IsKept (table : Table) (spare : ℕ) (ready : Sequence Rank) (due deadlines : Sequence DueTime) : Type 0 where
  pub numbers : NumbersFit table
  pub ranks : ready.keys ≡ keys_in rank_before rank_of table
  pub due_times : due.keys ≡ keys_in due_before due_time_of table
  pub deadline_times : deadlines.keys ≡ keys_in due_before deadline_time_of table
  pub ready_room : length table ≤ ready.room
  pub due_room : length table ≤ due.room
  pub deadline_room : length table ≤ deadlines.room
  pub first_process : 0 < length table + spare
  pub first_rank : 0 < ready.room
  pub first_due : 0 < due.room
  pub first_deadline : 0 < deadlines.room
