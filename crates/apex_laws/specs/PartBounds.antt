-- The bounds of the numbers that a partition holds, for code that counts in machine words. Each law is the contract of a function
-- in `src/lib.rt`.
use Rattle.std.specs.Prelude.{◌≡◌, ◌≤◌, ◌<◌, ℕ, ◌+◌, List, Some, pos}
use Rattle.apex_types.specs.declared.record.Body.{Body}
use Rattle.apex_types.specs.declared.record.Body.TheVariants.{Call}
use Rattle.apex_types.specs.declared.record.Ordered.{Ordered}
use Rattle.apex_types.specs.declared.request.Request.{Request}
use Rattle.apex_types.specs.declared.request.Request.TheVariants as request
use Rattle.apex_machine.specs.declared.state.CoreState.{CoreState}
use Rattle.apex_machine.specs.declared.state.Process.{Process}
use Rattle.apex_machine.specs.After.{partition_after}
use Rattle.apex_machine.specs.Configuration.{Configuration}
use Rattle.apex_machine.specs.Demands.{AllHold, partition_demands}
use Rattle.apex_machine.specs.DueTimes.{next_release}
use Rattle.apex_machine.specs.State.{Mutex, Partition, cold_partition, item_at, time_of}
use Rattle.apex_laws.specs.PartLaws.{IsSoundPart}

-- a period that a caller gives is below this, which is 2 to the 63rd: such a number has 64 bits, one of which is its sign
abbrev pub period_limit : ℕ
period_limit = 9223372036854775808

-- an unsigned number of 64 bits is below this, which is 2 to the 64th
abbrev pub word_limit : ℕ
word_limit = 18446744073709551616

-- each place of an order is below this, which is 2 to the 37th
abbrev pub place_limit : ℕ
place_limit = 137438953472

-- the numbers of a partition are bounded before this place: no mutex was acquired more often than there were records, no process's last
-- release is later than there were records, and no period exceeds what a caller can give
pub record IsBoundedPart (place : ℕ) (partition : Partition) : Type 0 where
  pub counts : (number : ℕ) (mutex : Mutex) → item_at partition.mutexes number ≡ Some mutex → mutex.count ≤ place
  pub releases : (number : ℕ) (process : Process) → item_at partition.table number ≡ Some process → process.last_release ≤ place
  pub periods : (number : ℕ) (process : Process) (period : ℕ) → item_at partition.table number ≡ Some process → process.period ≡ Some period → period < period_limit

-- CREATE_PROCESS gives a period that a caller can give
abbrev pub GivesPeriod : Request → Type 0
GivesPeriod (request.CreateProcess name priority (pos period) time_capacity) = period < period_limit
GivesPeriod _ = Unit {0}

-- if a record gives a period, it is one that a caller can give
abbrev pub PeriodFits : Body → Type 0
PeriodFits (Call call) = GivesPeriod call.request
PeriodFits _ = Unit {0}

-- the cold partition is bounded before every place; a record whose demands hold keeps a sound partition bounded, if no core's time is above
-- the record's place; and a bounded partition is bounded before every later place
abbrev pub PartStaysBounded : Type 0
PartStaysBounded =
    ((configuration : Configuration) (number place : ℕ) → IsBoundedPart place (cold_partition configuration number))
    × ((configuration : Configuration) (number : ℕ) (cores : List CoreState) (partition : Partition) (ordered : Ordered)
    → IsSoundPart number ordered.pos partition → IsBoundedPart ordered.pos partition → ((core : ℕ) → time_of cores core ≤ ordered.pos) → PeriodFits ordered.rec.body
    → AllHold (partition_demands configuration number cores partition ordered.core ordered.rec.body)
    → IsBoundedPart (ordered.pos + 1) (partition_after configuration cores number ordered partition))
    × ((place later : ℕ) (partition : Partition) → place ≤ later → IsBoundedPart place partition → IsBoundedPart later partition)

-- the next release of each process of a bounded partition is a number of 64 bits
abbrev pub ReleasesFit : Type 0
ReleasesFit =
    (place : ℕ) (partition : Partition) (number : ℕ) (process : Process) → IsBoundedPart place partition → place < place_limit
    → item_at partition.table number ≡ Some process → next_release process < word_limit
