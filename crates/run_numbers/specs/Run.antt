-- What the records of a run give, one after another.
use Rattle.std.specs.Prelude.{ℕ, Bool, true, false, List, [], ◌∷◌}
use Rattle.std.specs.List.{flat_map}
use Rattle.apex_types.specs.declared.record.Body.{Body}
use Rattle.apex_types.specs.declared.record.Body.TheVariants.{Arrive, Call, Depart, Ret}
use Rattle.apex_types.specs.declared.record.Ordered.{Ordered}
use Rattle.apex_machine.specs.Configuration.{Configuration}
use Rattle.apex_machine.specs.Pieces.{ChannelPart, ModulePart, Part, PartitionPart}
use Rattle.apex_machine.specs.State.{Partition}
use Rattle.piece_check.specs.Parts.{Holding}
use Rattle.run_numbers.specs.declared.names.Names.{Names}
use Rattle.run_numbers.specs.declared.numbers.Numbers.{Numbers}
use Rattle.run_numbers.specs.declared.observation.Observation.{Observation}
use Rattle.run_numbers.specs.declared.tallies.Tallies.{Tallies}
use Rattle.run_numbers.specs.Channels.{used, used_after}
use Rattle.run_numbers.specs.Cores.{observed_of_cores}
use Rattle.run_numbers.specs.Held.{object_used}
use Rattle.run_numbers.specs.Partitions.{observed_of_partition}
use Rattle.run_numbers.specs.Tallies.{Placed}

-- one record

-- what a record gives, by a part before it
abbrev pub observed_of : Configuration → Part → Ordered → List Observation
observed_of configuration (ModulePart cores) ordered = observed_of_cores configuration cores ordered.core ordered.rec.body
observed_of configuration (PartitionPart number cores partition) ordered =
    observed_of_partition number cores ordered.core partition ordered.rec.body
observed_of configuration (ChannelPart number times channel) ordered = used number times channel ordered.core ordered.rec.body

-- whether a record is a return
abbrev pub is_return : Body → Bool
is_return (Ret ret) = true
is_return other = false

-- whether a record may use an object or a channel
abbrev pub may_use : Body → Bool
may_use (Call call) = true
may_use (Arrive crossing) = true
may_use (Depart crossing) = true
may_use other = false

-- what a partition holds after a record: a call alone uses an object
abbrev pub left_in_partition : ℕ → Partition → Body → List Observation
left_in_partition number partition (Call call) = object_used number partition call
left_in_partition number partition other = []

-- what a record gives, by a part after it
abbrev pub left_by : Part → Ordered → List Observation
left_by (ModulePart cores) ordered = []
left_by (PartitionPart number cores partition) ordered = left_in_partition number partition ordered.rec.body
left_by (ChannelPart number times channel) ordered = used_after number channel ordered.rec.body

-- what a record gives, by the pieces before it
abbrev pub observed_before : Configuration → List Holding → Ordered → List Observation
observed_before configuration holdings ordered = flat_map (λ (holding : Holding). observed_of configuration holding.part ordered) holdings

-- what a record gives, by the pieces after it
abbrev pub observed_after : List Holding → Ordered → List Observation
observed_after holdings ordered = flat_map (λ (holding : Holding). left_by holding.part ordered) holdings

-- the records so far

-- what a run has given after the record at a place, which gives these, one after another
abbrev pub placed_after : ℕ → List Observation → List Placed → List Placed
placed_after place [] run = run
placed_after place (observation ∷ observed) run = placed_after place observed (record { place = place; observation = observation } ∷ run)

-- the figures that are kept

abbrev pub tallies_of : Numbers → Tallies
tallies_of numbers = numbers.tallies

abbrev pub names_of : Numbers → Names
names_of numbers = numbers.names

-- how many records were accepted
abbrev pub records_of : Numbers → ℕ
records_of numbers = numbers.records

-- what the next record gives, if it is accepted
abbrev pub ahead_of : Numbers → List Observation
ahead_of numbers = numbers.ahead.items
