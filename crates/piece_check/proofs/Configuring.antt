-- A channel is made as it is configured.
use Rattle.std.proofs.Common.{◌≡◌, ◌≤◌, ◌+◌, ◌∙◌, ℕ, suc, List, [], ◌∷◌, Option, Some, None, Bool, true, false, if◌then◌else◌, nat_eq, nat_lt, is_none, is_some, map, refl, ap, subst, arith}
use Rattle.std.specs.List.{list_any}
use Rattle.std.proofs.lemmas.Bool.{or_parts}
use Rattle.std.proofs.lemmas.Bool.Decides.{nat_tests}
use Rattle.apex_machine.specs.Channels.{channel_numbers, in_order, put_among, queuing_of, sampling_of}
use Rattle.apex_machine.specs.Configuration.{ChannelEnd, Configuration, QueuingChannel, SamplingChannel, is_end_of, numbered}
use Rattle.module_config.specs.Limits.{IsConsistent}
use Rattle.module_config.specs.Ports.{kind_in, kind_of, partition_at}
use Rattle.module_config.specs.Whole.{has_number_twice}
use Rattle.module_config.specs.declared.port.ChannelKind.TheVariants.{Queuing}
use Rattle.module_config.proofs.Numbered.{once}
use Rattle.channel.specs.Held.{ForQueuing, SaysTheSame, is_there}
use Rattle.channel.specs.declared.settings.QueuingSettings.{QueuingSettings}

-- a number is that of a sampling channel or of a queuing channel

-- how often a number is in a list
abbrev occurrences : ℕ → List ℕ → ℕ
occurrences number [] = 0
occurrences number (first ∷ others) = if nat_eq first number then suc (occurrences number others) else occurrences number others

-- the order does not matter
count_swap : (one other : Bool) (n : ℕ)
    → (if one then suc (if other then suc n else n) else (if other then suc n else n)) ≡ (if other then suc (if one then suc n else n) else (if one then suc n else n))
count_swap true true n = refl
count_swap true false n = refl
count_swap false true n = refl
count_swap false false n = refl

put_occurs : (precedes : ℕ → ℕ → Bool) (number new : ℕ) (placed : List ℕ) → occurrences number (put_among precedes new placed) ≡ occurrences number (new ∷ placed)
put_occurs precedes number new [] = refl
put_occurs precedes number new (first ∷ others) = by (precedes new first) (put_occurs precedes number new others)
  where
    by : (sooner : Bool) → occurrences number (put_among precedes new others) ≡ occurrences number (new ∷ others)
        → occurrences number (if sooner then new ∷ first ∷ others else first ∷ put_among precedes new others) ≡ occurrences number (new ∷ first ∷ others)
    by true later = refl
    by false later =
        ap (λ n. if nat_eq first number then suc n else n) later ∙ count_swap (nat_eq first number) (nat_eq new number) (occurrences number others)

count_moved : (same : Bool) (left placed : ℕ) → left + (if same then suc placed else placed) ≡ (if same then suc left else left) + placed
count_moved true left placed = omega arith
count_moved false left placed = refl

order_occurs : (precedes : ℕ → ℕ → Bool) (number : ℕ) (left placed : List ℕ)
    → occurrences number (in_order precedes placed left) ≡ occurrences number left + occurrences number placed
order_occurs precedes number [] placed = omega arith
order_occurs precedes number (new ∷ left) placed =
    order_occurs precedes number left (put_among precedes new placed)
    ∙ ap (λ n. occurrences number left + n) (put_occurs precedes number new placed)
    ∙ count_moved (nat_eq new number) (occurrences number left) (occurrences number placed)

-- a number that is not there
none_occurs : (number : ℕ) (numbers : List ℕ) → list_any (λ other. nat_eq other number) numbers ≡ false → occurrences number numbers ≡ 0
none_occurs number [] none = refl
none_occurs number (first ∷ others) none =
    let (here, later) = or_parts (nat_eq first number) (list_any (λ other. nat_eq other number) others) none in
    rw here (none_occurs number others later)

-- of numbers that are given once each is there at most once
once_occurs : (number : ℕ) (numbers : List ℕ) → has_number_twice (λ one. one) numbers ≡ false → occurrences number numbers ≤ 1
once_occurs number [] single = omega arith
once_occurs number (first ∷ others) single =
    let (new, later) = or_parts (list_any (λ other. nat_eq other first) others) (has_number_twice (λ one. one) others) single in
    by (nat_eq first number) refl new (once_occurs number others later)
  where
    by : (same : Bool) → nat_eq first number ≡ same → list_any (λ other. nat_eq other first) others ≡ false → occurrences number others ≤ 1
        → (if same then suc (occurrences number others) else occurrences number others) ≤ 1
    by true is new later =
        let same : first ≡ number = grind (arith, nat_tests) in
        let none : occurrences number others ≡ 0 = none_occurs number others (subst (λ one. list_any (λ other. nat_eq other one) others ≡ false) same new) in
        omega (arith, none)
    by false is new later = later

-- the number of an item that is found is there
found_occurs : {Item : Type 0} (number_of : Item → ℕ) (number : ℕ) (items : List Item) → is_some (numbered number_of number items) ≡ true
    → 1 ≤ occurrences number (map number_of items)
found_occurs number_of number [] found = let clash : false ≡ true = found in cc
found_occurs number_of number (item ∷ items) found = by (nat_eq (number_of item) number) found (found_occurs number_of number items)
  where
    by : (same : Bool) → is_some (if same then Some item else numbered number_of number items) ≡ true
        → (is_some (numbered number_of number items) ≡ true → 1 ≤ occurrences number (map number_of items))
        → 1 ≤ (if same then suc (occurrences number (map number_of items)) else occurrences number (map number_of items))
    by true here later = omega arith
    by false there later = later there

not_both : (configuration : Configuration) (number : ℕ) → IsConsistent configuration → is_some (queuing_of configuration number) ≡ true
    → is_some (sampling_of configuration number) ≡ true → ⊥
not_both configuration number consistent queues samples =
    let queuing = map (λ (channel : QueuingChannel). channel.number) configuration.queuing in
    let sampling = map (λ (channel : SamplingChannel). channel.number) configuration.sampling in
    let most : occurrences number (channel_numbers configuration) ≤ 1 = once_occurs number (channel_numbers configuration) (once configuration consistent.once).1 in
    omega (
      arith,
      most,
      order_occurs nat_lt number sampling (in_order nat_lt [] queuing),
      order_occurs nat_lt number queuing [],
      found_occurs (λ (channel : QueuingChannel). channel.number) number configuration.queuing queues,
      found_occurs (λ (channel : SamplingChannel). channel.number) number configuration.sampling samples,
    )

-- what is said of a queuing channel

end_there : (partition : ℕ) (place : Option ChannelEnd) (inside : Option ℕ) → partition_at place ≡ inside → is_end_of partition place ≡ is_there partition inside
end_there partition None inside is = rw (← is) refl
end_there partition (Some place) inside is = rw (← is) refl

end_outside : (place : Option ChannelEnd) (inside : Option ℕ) → partition_at place ≡ inside → is_none place ≡ is_none inside
end_outside None inside is = rw (← is) refl
end_outside (Some place) inside is = rw (← is) refl

-- its settings are those of its kind
pub queuing_said : (configuration : Configuration) (number : ℕ) (settings : QueuingSettings) → IsConsistent configuration
    → kind_of configuration number ≡ Some (Queuing settings.size settings.capacity settings.sending settings.receiving settings.source settings.destination)
    → SaysTheSame configuration number (ForQueuing settings)
queuing_said configuration number settings consistent kind = by (queuing_of configuration number) (sampling_of configuration number) refl refl kind
  where
    by : (queued : Option QueuingChannel) (sampled : Option SamplingChannel) → queuing_of configuration number ≡ queued → sampling_of configuration number ≡ sampled
        → kind_in queued sampled ≡ Some (Queuing settings.size settings.capacity settings.sending settings.receiving settings.source settings.destination)
        → SaysTheSame configuration number (ForQueuing settings)
    by (Some channel) (Some other) queues samples kind =
        absurd (not_both configuration number consistent (ap is_some queues) (ap is_some samples))
    by (Some channel) None queues samples kind =
        let source : partition_at channel.source ≡ settings.source = cc in
        let destination : partition_at channel.destination ≡ settings.destination = cc in
        let capacity : channel.capacity ≡ settings.capacity = cc in
        let sending : channel.source_discipline ≡ settings.sending = cc in
        let receiving : channel.destination_discipline ≡ settings.receiving = cc in
        let size : channel.size ≡ settings.size = cc in
        rw (queues, samples) (
          capacity,
          sending,
          receiving,
          (λ partition. end_there partition channel.source settings.source source),
          (λ partition. end_there partition channel.destination settings.destination destination),
          size,
          end_outside channel.source settings.source source,
          end_outside channel.destination settings.destination destination,
        )
    by None (Some other) queues samples kind = cc
    by None None queues samples kind = cc
