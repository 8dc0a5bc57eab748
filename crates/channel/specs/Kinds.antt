-- A channel of either kind, as it is held.
use Rattle.std.specs.Prelude.{ℕ, List, [], ◌∷◌, Bool, Option, None, is_none, true, false}
use Rattle.std.specs.Str.{bytes_eq}
use Rattle.apex_machine.specs.State.{Content, Queued, Sampled, Stamped}
use Rattle.wait_set.specs.Queues.{Queue}
use Rattle.channel.specs.declared.channel.Kind.{Kind}
use Rattle.channel.specs.declared.channel.Kind.TheVariants.{Sampling, Queuing}
use Rattle.channel.specs.declared.settings.QueuingSettings.{QueuingSettings}
use Rattle.channel.specs.declared.settings.SamplingSettings.{SamplingSettings}
use Rattle.channel.specs.Held.{ForQueuing, ForSampling, Held, Settings}

-- the sampling channel of this number and these settings, with the message that was last written
abbrev pub sampling_held : ℕ → SamplingSettings → Option Stamped → Held
sampling_held number settings last =
    record { number = number; settings = ForSampling settings; channel = record { content = Sampled last; senders = []; receivers = [] } }

-- the settings of the queuing channel with this queue, between these partitions, for messages of this size
abbrev pub queuing_settings : ℕ → Option ℕ → Option ℕ → Queue → QueuingSettings
queuing_settings size source destination queue = record {
  size = size;
  capacity = queue.capacity;
  sending = queue.senders.discipline;
  receiving = queue.receivers.discipline;
  source = source;
  destination = destination;
}

-- the queuing channel of this number with this queue, between these partitions, for messages of this size
abbrev pub queuing_held : ℕ → ℕ → Option ℕ → Option ℕ → Queue → Held
queuing_held number size source destination queue = record {
  number = number;
  settings = ForQueuing (queuing_settings size source destination queue);
  channel = record { content = Queued queue.messages; senders = queue.senders.entries; receivers = queue.receivers.entries };
}

-- the greatest size of the messages
abbrev pub size_in : Settings → ℕ
size_in (ForSampling settings) = settings.size
size_in (ForQueuing settings) = settings.size

-- the partition at the source, if these are the settings of a queuing channel and its source is inside
abbrev pub source_in : Settings → Option ℕ
source_in (ForSampling settings) = None
source_in (ForQueuing settings) = settings.source

-- the partition at the destination, if these are the settings of a queuing channel and its destination is inside
abbrev pub destination_in : Settings → Option ℕ
destination_in (ForSampling settings) = None
destination_in (ForQueuing settings) = settings.destination

-- whether the source is outside
abbrev pub is_from_outside : Settings → Bool
is_from_outside (ForSampling settings) = settings.from_outside
is_from_outside (ForQueuing settings) = is_none settings.source

-- whether these are the settings of a queuing channel whose destination is outside
abbrev pub is_to_outside : Settings → Bool
is_to_outside (ForSampling settings) = false
is_to_outside (ForQueuing settings) = is_none settings.destination

-- the channel of this number and kind
abbrev pub held_as : ℕ → Kind → Held
held_as number (Sampling channel) = sampling_held number channel.settings channel.last
held_as number (Queuing channel) = queuing_held number channel.size channel.source channel.destination channel.queue

-- whether a message is the oldest of a queue
abbrev pub is_oldest_in : Content → List ℕ → Bool
is_oldest_in (Queued (oldest ∷ others)) message = bytes_eq oldest message
is_oldest_in _ message = false

-- a content is that of a sampling channel
abbrev pub is_sampled : Content → Bool
is_sampled (Sampled last) = true
is_sampled (Queued messages) = false

-- the message that was last written, if the content is that of a sampling channel and one was written
abbrev pub last_written : Content → Option Stamped
last_written (Sampled last) = last
last_written (Queued messages) = None
