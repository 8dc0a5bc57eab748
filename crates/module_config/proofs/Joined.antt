-- The ends of queuing channels are apart, and who is at them.
use Rattle.std.proofs.Common.{◌≡◌, ◌∷◌, ◌++◌, [], ℕ, List, Option, Some, None, Bool, true, false, not, nat_eq, nat_lt, refl, sym, ap, ◌∙◌, arith}
use Rattle.std.specs.Prelude.{◌&&◌, ◌||◌}
use Rattle.std.specs.List.{list_all, list_any}
use Rattle.std.proofs.Math.Bool.{or_assoc, or-true}
use Rattle.std.proofs.lemmas.Bool.{and_parts, eqb-true, or_parts}
use Rattle.std.proofs.lemmas.Bool.Decides.{nat_tests}
use Rattle.apex_machine.specs.Channels.{EndsAreApart, ends_inside, in_order, is_at_end, is_receiver, is_sender, samples}
use Rattle.apex_machine.specs.Configuration.{ChannelEnd, Configuration, PartitionLimits, QueuingChannel, SamplingChannel, is_end_of}
use Rattle.module_config.specs.Ends.{are_joined, goes_to, has_number, is_joined, is_queuing_joined, is_sampling_joined}
use Rattle.module_config.specs.Whole.{is_given_twice}
use Rattle.module_config.proofs.Numbered.{once}
use Rattle.module_config.proofs.Numbers.{is_twice, once-left, once-start, queuing_numbers, sampling_numbers}

-- a channel with a number has one of the numbers
numbered : (test : QueuingChannel → Bool) (number : ℕ) (channels : List QueuingChannel)
    → list_any (λ channel. nat_eq channel.number number && test channel) channels ≡ true → list_any (λ other. nat_eq other number) (queuing_numbers channels) ≡ true
numbered test number [] has = has
numbered test number (channel ∷ channels) has = by (nat_eq channel.number number) has (numbered test number channels)
  where
    by : (same : Bool) → ((same && test channel) || list_any (λ one. nat_eq one.number number && test one) channels) ≡ true
        → (list_any (λ one. nat_eq one.number number && test one) channels ≡ true → list_any (λ other. nat_eq other number) (queuing_numbers channels) ≡ true)
        → (same || list_any (λ other. nat_eq other number) (queuing_numbers channels)) ≡ true
    by true has later = refl
    by false has later = later has

-- no partition is at both ends of a channel that is joined
two-ends : (partitions : List PartitionLimits) (partition : ℕ) (source destination : Option ChannelEnd) → is_joined partitions source (ends_inside destination) ≡ true
    → is_end_of partition source ≡ true → is_end_of partition destination ≡ true → ⊥
two-ends partitions partition None destination joined sends receives = cc
two-ends partitions partition (Some source) None joined sends receives = cc
two-ends partitions partition (Some source) (Some destination) joined sends receives =
    let both = (and_parts (has_number source.partition partitions) (goes_to partitions (Some source) destination && true) joined).1 in
    let goes = (and_parts (goes_to partitions (Some source) destination) true both).0 in
    let other : not (nat_eq source.partition destination.partition) ≡ true =
    (and_parts (has_number destination.partition partitions) (not (nat_eq source.partition destination.partition)) goes).1 in
    grind (arith, nat_tests)

-- if no number occurs twice and each channel is joined, no partition is at both ends of a number's channels
apart : (partitions : List PartitionLimits) (number partition : ℕ) (channels : List QueuingChannel)
    → is_twice (queuing_numbers channels) ≡ false → list_all (is_queuing_joined partitions) channels ≡ true
    → list_any (λ channel. nat_eq channel.number number && is_end_of partition channel.source) channels ≡ true
    → list_any (λ channel. nat_eq channel.number number && is_end_of partition channel.destination) channels ≡ true → ⊥
apart partitions number partition [] once joined sent received = cc
apart partitions number partition (channel ∷ channels) once joined sent received =
    let (none, rest) = or_parts (list_any (λ other. nat_eq other channel.number) (queuing_numbers channels)) (is_twice (queuing_numbers channels)) once in
    let (here, after) = and_parts (is_queuing_joined partitions channel) (list_all (is_queuing_joined partitions) channels) joined in
    by (nat_eq channel.number number && is_end_of partition channel.source) refl (nat_eq channel.number number && is_end_of partition channel.destination) refl
    none (two-ends partitions partition channel.source channel.destination here) sent received (apart partitions number partition channels rest after)
  where
    by : (sends : Bool) → (nat_eq channel.number number && is_end_of partition channel.source) ≡ sends
        → (receives : Bool) → (nat_eq channel.number number && is_end_of partition channel.destination) ≡ receives
        → list_any (λ other. nat_eq other channel.number) (queuing_numbers channels) ≡ false
        → (is_end_of partition channel.source ≡ true → is_end_of partition channel.destination ≡ true → ⊥)
        → (sends || list_any (λ one. nat_eq one.number number && is_end_of partition one.source) channels) ≡ true
        → (receives || list_any (λ one. nat_eq one.number number && is_end_of partition one.destination) channels) ≡ true
        → (list_any (λ one. nat_eq one.number number && is_end_of partition one.source) channels ≡ true
        → list_any (λ one. nat_eq one.number number && is_end_of partition one.destination) channels ≡ true → ⊥)
        → ⊥
    by true is true other none two sent received later =
        two (and_parts (nat_eq channel.number number) (is_end_of partition channel.source) is).1
        (and_parts (nat_eq channel.number number) (is_end_of partition channel.destination) other).1
    by true is false other none two sent received later =
        let same : number ≡ channel.number = sym (eqb-true channel.number number (and_parts (nat_eq channel.number number) (is_end_of partition channel.source) is).0) in
        let again = rw same at (numbered (λ one. is_end_of partition one.destination) number channels received) in
        cc
    by false is true other none two sent received later =
        let same : number ≡ channel.number = sym (eqb-true channel.number number (and_parts (nat_eq channel.number number) (is_end_of partition channel.destination) other).0) in
        let again = rw same at (numbered (λ one. is_end_of partition one.source) number channels sent) in
        cc
    by false is false other none two sent received later = later sent received

-- in a configuration whose parts go together no partition is at both ends of a queuing channel
pub ends_are_apart : (configuration : Configuration) → is_given_twice configuration ≡ false → are_joined configuration ≡ true → EndsAreApart configuration
ends_are_apart configuration given joined number partition sent received =
    let first = once-start (sampling_numbers configuration.sampling) (in_order nat_lt [] (queuing_numbers configuration.queuing)) (once configuration given).1 in
    let each = (and_parts (list_all (is_sampling_joined configuration.partitions) configuration.sampling) (list_all (is_queuing_joined configuration.partitions) configuration.queuing) joined).1 in
    apart configuration.partitions number partition configuration.queuing (once-left (queuing_numbers configuration.queuing) [] first) each sent received

-- a test passes together with one of two others if it does together with the first, or with the second
any-either : {A : Type 0} (test one other : A → Bool) (all : List A)
    → list_any (λ item. test item && (one item || other item)) all ≡ (list_any (λ item. test item && one item) all || list_any (λ item. test item && other item) all)
any-either test one other [] = refl
any-either test one other (item ∷ all) =
    by (test item) (one item) (other item) (list_any (λ item. test item && one item) all) (list_any (λ item. test item && other item) all) (any-either test one other all)
  where
    by : (has first second left right : Bool) → list_any (λ item. test item && (one item || other item)) all ≡ (left || right)
        → ((has && (first || second)) || list_any (λ item. test item && (one item || other item)) all)
        ≡ (((has && first) || left) || ((has && second) || right))
    by true true second left right rest = refl
    by true false true left right rest = sym (or-true left)
    by true false false left right rest = rest
    by false first second left right rest = rest

-- one passes if one passes a test that agrees on each
any-same : {A : Type 0} (one other : A → Bool) (all : List A) → ((item : A) → one item ≡ other item) → list_any one all ≡ list_any other all
any-same one other [] same = refl
any-same one other (item ∷ all) same = rw (same item, any-same one other all same) refl

-- whether a partition is among an end that may be outside, and others
at_first : (partition : ℕ) (first : Option ChannelEnd) (others : List ChannelEnd)
    → list_any (λ place. nat_eq place.partition partition) (ends_inside first ++ others) ≡ (is_end_of partition first || list_any (λ place. nat_eq place.partition partition) others)
at_first partition None others = refl
at_first partition (Some place) others = refl

-- the same of an end alone
at_only : (partition : ℕ) (only : Option ChannelEnd) → list_any (λ place. nat_eq place.partition partition) (ends_inside only) ≡ is_end_of partition only
at_only partition None = refl
at_only partition (Some place) = by (nat_eq place.partition partition)
  where
    by : (b : Bool) → (b || false) ≡ b
    by true = refl
    by false = refl

-- whether a partition is at an end of a sampling channel, by the list of its ends inside
pub at_sampling : (configuration : Configuration) (number partition : ℕ)
    → list_any (λ channel. nat_eq channel.number number && list_any (λ place. nat_eq place.partition partition) (ends_inside channel.source ++ channel.destinations)) configuration.sampling
    ≡ samples configuration number partition
at_sampling configuration number partition =
    any-same
    (λ (channel : SamplingChannel). nat_eq channel.number number && list_any (λ place. nat_eq place.partition partition) (ends_inside channel.source ++ channel.destinations))
    (λ (channel : SamplingChannel). nat_eq channel.number number && (is_end_of partition channel.source || list_any (λ place. nat_eq place.partition partition) channel.destinations))
    configuration.sampling (λ channel. ap (λ b. nat_eq channel.number number && b) (at_first partition channel.source channel.destinations))

-- a partition is at an end of a channel if it is at one of a queuing channel's two ends, or at one of a sampling channel's
pub at_one_of_two : (configuration : Configuration) (number partition : ℕ) (queued : Bool)
    → queued ≡ list_any (λ channel. nat_eq channel.number number && list_any (λ place. nat_eq place.partition partition) (ends_inside channel.source ++ ends_inside channel.destination)) configuration.queuing
    → (queued || samples configuration number partition) ≡ is_at_end configuration number partition
at_one_of_two configuration number partition queued is =
    let both =
    any-same
    (λ (channel : QueuingChannel). nat_eq channel.number number && list_any (λ place. nat_eq place.partition partition) (ends_inside channel.source ++ ends_inside channel.destination))
    (λ (channel : QueuingChannel). nat_eq channel.number number && (is_end_of partition channel.source || is_end_of partition channel.destination))
    configuration.queuing
    (λ channel. ap (λ b. nat_eq channel.number number && b)
    (at_first partition channel.source (ends_inside channel.destination) ∙ ap (λ b. is_end_of partition channel.source || b) (at_only partition channel.destination))) in
    let either = any-either (λ channel. nat_eq channel.number number) (λ channel. is_end_of partition channel.source) (λ channel. is_end_of partition channel.destination) configuration.queuing in
    ap (λ one. one || samples configuration number partition) (is ∙ both ∙ either) ∙ or_assoc (is_sender configuration number partition) (is_receiver configuration number partition) (samples configuration number partition)
