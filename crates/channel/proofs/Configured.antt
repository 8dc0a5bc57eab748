-- There is a configuration that gives a channel its settings.
use Rattle.std.proofs.Common.{◌≡◌, ◌||◌, ℕ, [], ◌∷◌, Option, Some, None, Bool, true, false, is_none, refl}
use Rattle.apex_machine.specs.Configuration.{ChannelEnd, Configuration, is_end_of}
use Rattle.channel.specs.Held.{ForQueuing, ForSampling, SaysTheSame, Settings, is_there}
use Rattle.channel.proofs.Shared.{same_number}

-- an end at this partition, or outside
abbrev end_at : Option ℕ → Option ChannelEnd
end_at None = None
end_at (Some partition) = Some (record { partition = partition; port = [] })

at_end : (place : Option ℕ) (partition : ℕ) → is_end_of partition (end_at place) ≡ is_there partition place
at_end None partition = refl
at_end (Some other) partition = refl

outside_end : (place : Option ℕ) → is_none (end_at place) ≡ is_none place
outside_end None = refl
outside_end (Some partition) = refl

-- the source of a sampling channel
abbrev source_at : Bool → Option ChannelEnd
source_at true = None
source_at false = Some (record { partition = 0; port = [] })

outside_source : (outside : Bool) → (is_none (source_at outside) || false) ≡ outside
outside_source true = refl
outside_source false = refl

-- settings can be configured
pub configured : (number : ℕ) (settings : Settings) → (configuration : Configuration) × SaysTheSame configuration number settings
configured number (ForSampling settings) = (
  record {
    cores = 0;
    frame = 0;
    skew = 0;
    partitions = [];
    windows = [];
    sampling = record { number = number; size = settings.size; refresh = settings.refresh; source = source_at settings.from_outside; destinations = [] } ∷ [];
    queuing = [];
  },
  (rw (same_number number) refl, rw (same_number number) refl, rw (same_number number) (outside_source settings.from_outside), refl),
)
configured number (ForQueuing settings) = (
  record {
    cores = 0;
    frame = 0;
    skew = 0;
    partitions = [];
    windows = [];
    sampling = [];
    queuing = record {
      number = number;
      size = settings.size;
      capacity = settings.capacity;
      source = end_at settings.source;
      source_discipline = settings.sending;
      destination = end_at settings.destination;
      destination_discipline = settings.receiving;
    } ∷ [];
  },
  (
    rw (same_number number) refl,
    rw (same_number number) refl,
    rw (same_number number) refl,
    λ partition. rw (same_number number) (at_end settings.source partition),
    λ partition. rw (same_number number) (at_end settings.destination partition),
    rw (same_number number) refl,
    rw (same_number number) (outside_end settings.source),
    rw (same_number number) (outside_end settings.destination),
  ),
)
