-- The pieces by their numbers.
use Rattle.std.proofs.Common.{◌≡◌, ◌<◌, ◌≤◌, ◌-◌, ℕ, zero, suc, List, [], ◌∷◌, ◌++◌, ◌+◌, ◌∙◌, Some, Bool, true, false, ◌||◌, if◌then◌else◌, is_some, nat_eq, length, map, get_or, refl, ap, arith}
use Rattle.std.specs.List.{list_any}
use Rattle.std.proofs.lemmas.List.{length-append, length-map}
use Rattle.apex_types.specs.declared.record.Who.{Who}
use Rattle.apex_machine.specs.Configuration.{Configuration, PartitionLimits, numbered}
use Rattle.apex_machine.specs.State.{names_one_of}
use Rattle.apex_machine.specs.Channels.{channel_numbers, has_channel, queuing_of, sampling_of}
use Rattle.apex_types.specs.declared.limits.TheConstants.{GREATEST_CHANNEL}
use Rattle.module_config.specs.Limits.{IsWithinLimits}
use Rattle.std.specs.Prelude.{All}
use Rattle.std.proofs.lemmas.Bool.Decides.{nat_tests}
use Rattle.std.proofs.lemmas.List.Elements.{All-head, All-tail}
use Rattle.apex_machine.specs.Pieces.{Module, OfChannel, OfPartition, Piece, pieces}
use Rattle.piece_check.specs.Parts.{piece_at}

partition_among : (partitions : List PartitionLimits) (index : ℕ) → index < length partitions
    → get_or (map (λ limits. OfPartition limits.number) partitions) index Module ≡ OfPartition (get_or (map (λ limits. limits.number) partitions) index 0)
partition_among [] index below = absurd (omega arith)
partition_among (limits ∷ partitions) zero below = refl
partition_among (limits ∷ partitions) (suc index) below = partition_among partitions index (omega arith)

channel_among : (numbers : List ℕ) (index : ℕ) → index < length numbers → get_or (map (λ number. OfChannel number) numbers) index Module ≡ OfChannel (get_or numbers index 0)
channel_among [] index below = absurd (omega arith)
channel_among (number ∷ numbers) zero below = refl
channel_among (number ∷ numbers) (suc index) below = channel_among numbers index (omega arith)

-- one of the first of two lists, or one of the second
in_first : (first second : List Piece) (index : ℕ) → index < length first → get_or (first ++ second) index Module ≡ get_or first index Module
in_first [] second index below = absurd (omega arith)
in_first (piece ∷ first) second zero below = refl
in_first (piece ∷ first) second (suc index) below = in_first first second index (omega arith)

in_second : (first second : List Piece) (index : ℕ) → length first ≤ index → get_or (first ++ second) index Module ≡ get_or second (index - length first) Module
in_second [] second index past = ap (λ n. get_or second n Module) (omega arith)
in_second (piece ∷ first) second zero past = absurd (omega arith)
in_second (piece ∷ first) second (suc index) past =
    in_second first second index (omega arith) ∙ ap (λ n. get_or second n Module) (omega arith)

-- the partitions and the channels as pieces
abbrev partitions_of : Configuration → List Piece
partitions_of configuration = map (λ limits. OfPartition limits.number) configuration.partitions

abbrev channels_of : Configuration → List Piece
channels_of configuration = map (λ number. OfChannel number) (channel_numbers configuration)

-- how many pieces there are
pub length-pieces : (configuration : Configuration) → length (pieces configuration) ≡ length configuration.partitions + length (channel_numbers configuration) + 1
length-pieces configuration =
    omega (
      arith,
      length-append (partitions_of configuration) (channels_of configuration),
      length-map configuration.partitions (λ limits. OfPartition limits.number),
      length-map (channel_numbers configuration) (λ number. OfChannel number),
    )

-- then come the partitions
pub piece_at_partition : (configuration : Configuration) (piece : ℕ) → 0 < piece → piece - 1 < length configuration.partitions
    → piece_at configuration piece ≡ OfPartition (get_or (map (λ limits. limits.number) configuration.partitions) (piece - 1) 0)
piece_at_partition configuration zero some below = absurd (omega arith)
piece_at_partition configuration (suc piece) some below =
    let before : suc piece - 1 ≡ piece = omega arith in
    let there : piece < length configuration.partitions = omega (arith, below) in
    in_first (partitions_of configuration) (channels_of configuration) piece (omega (arith, there, length-map configuration.partitions (λ limits. OfPartition limits.number)))
    ∙ rw before (partition_among configuration.partitions piece there)

-- and then the channels
pub piece_at_channel : (configuration : Configuration) (piece : ℕ) → 0 < piece → length configuration.partitions ≤ piece - 1
    → piece - 1 - length configuration.partitions < length (channel_numbers configuration)
    → piece_at configuration piece ≡ OfChannel (get_or (channel_numbers configuration) (piece - 1 - length configuration.partitions) 0)
piece_at_channel configuration zero some past below = absurd (omega arith)
piece_at_channel configuration (suc piece) some past below =
    let before : suc piece - 1 ≡ piece = omega arith in
    let many : length (partitions_of configuration) ≡ length configuration.partitions = length-map configuration.partitions (λ limits. OfPartition limits.number) in
    in_second (partitions_of configuration) (channels_of configuration) piece (omega (arith, past, many))
    ∙ rw (before, many) (channel_among (channel_numbers configuration) (piece - length configuration.partitions) (rw before at below))

-- a list names a process of a partition if a process of it is the partition's
pub names_one_of_any : (number : ℕ) (named : List Who) → list_any (λ who. nat_eq who.part number) named ≡ names_one_of number named
names_one_of_any number [] = refl
names_one_of_any number (who ∷ named) = ap (λ (rest : Bool). nat_eq who.part number || rest) (names_one_of_any number named)

-- the number of a configured channel is no greater than the greatest

fits : {Item : Type 0} (number_of : Item → ℕ) (number most : ℕ) (items : List Item) → All (λ item. number_of item ≤ most) items → is_some (numbered number_of number items) ≡ true → number ≤ most
fits number_of number most [] all some = cc
fits number_of number most (item ∷ others) all some =
    by (nat_eq (number_of item) number) refl some (fits number_of number most others (All-tail (λ one. number_of one ≤ most) item others all))
  where
    by : (same : Bool) → nat_eq (number_of item) number ≡ same → is_some (if same then Some item else numbered number_of number others) ≡ true
        → (is_some (numbered number_of number others) ≡ true → number ≤ most) → number ≤ most
    by true same found later = let limit : number_of item ≤ most = All-head (λ one. number_of one ≤ most) item others all in grind (arith, nat_tests)
    by false differs found later = later found

pub channel_fits : (configuration : Configuration) (number : ℕ) → IsWithinLimits configuration → has_channel configuration number ≡ true → number ≤ GREATEST_CHANNEL
channel_fits configuration number limits has = by (is_some (sampling_of configuration number)) refl has
  where
    by : (samples : Bool) → is_some (sampling_of configuration number) ≡ samples
        → (samples || is_some (queuing_of configuration number)) ≡ true → number ≤ GREATEST_CHANNEL
    by true samples has = fits (λ channel. channel.number) number GREATEST_CHANNEL configuration.sampling (λ i default below. (limits.sampling i default below).number_most) samples
    by false other has = fits (λ channel. channel.number) number GREATEST_CHANNEL configuration.queuing (λ i default below. (limits.queuing i default below).number_most) has
