-- The ends of channels that are counted one channel after another.
use Rattle.std.proofs.Common.{◌≡◌, ◌<◌, ◌+◌, ℕ, List, Bool, Some, None, ◌∙◌, ap, cond, get_or, drop, length}
use Rattle.std.specs.List.{find, flat_map}
use Rattle.std.specs.Option.{option_or}
use Rattle.std.proofs.lemmas.List.{drop_more}
use Rattle.std.proofs.lemmas.List.Folds.{find-append}
use Rattle.std.proofs.lemmas.List.Sums.{sum_by-append}
use Rattle.apex_machine.specs.Configuration.{ChannelEnd}
use Rattle.module_config.specs.declared.ends.Likeness.{Likeness}
use Rattle.module_config.specs.Ends.{count_alike, is_alike}

-- one channel's ends are counted apart from those of the channels after it
pub ends-counted : {A : Type 0} (ends_of : A → List ChannelEnd) (likeness : Likeness) (place : ChannelEnd) (channels : List A) (i : ℕ) (channel : A)
    → i < length channels → channel ≡ get_or channels i channel
    → count_alike likeness place (flat_map ends_of (drop i channels))
    ≡ count_alike likeness place (ends_of channel) + count_alike likeness place (flat_map ends_of (drop (i + 1) channels))
ends-counted ends_of likeness place channels i channel below is =
    rw (drop_more channels i channel below, ← is)
    (sum_by-append (λ other. cond (is_alike likeness place other) 1 0) (ends_of channel) (flat_map ends_of (drop (i + 1) channels)))

-- an end that is found among those of a channel is the first from that channel on
pub found-here : {A : Type 0} (test : ChannelEnd → Bool) (ends_of : A → List ChannelEnd) (channels : List A) (i : ℕ) (channel : A) (end : ChannelEnd)
    → i < length channels → channel ≡ get_or channels i channel → find test (ends_of channel) ≡ Some end
    → find test (flat_map ends_of (drop i channels)) ≡ Some end
found-here test ends_of channels i channel end below is found =
    rw (drop_more channels i channel below, ← is) (find-append test (ends_of channel) (flat_map ends_of (drop (i + 1) channels)) ∙ ap (λ first. option_or first (find test (flat_map ends_of (drop (i + 1) channels)))) found)

-- if none is found among those of a channel, the first from that channel on is the first after it
pub found-later : {A : Type 0} (test : ChannelEnd → Bool) (ends_of : A → List ChannelEnd) (channels : List A) (i : ℕ) (channel : A)
    → i < length channels → channel ≡ get_or channels i channel → find test (ends_of channel) ≡ None
    → find test (flat_map ends_of (drop i channels)) ≡ find test (flat_map ends_of (drop (i + 1) channels))
found-later test ends_of channels i channel below is none =
    rw (drop_more channels i channel below, ← is) (find-append test (ends_of channel) (flat_map ends_of (drop (i + 1) channels)) ∙ ap (λ first. option_or first (find test (flat_map ends_of (drop (i + 1) channels)))) none)
