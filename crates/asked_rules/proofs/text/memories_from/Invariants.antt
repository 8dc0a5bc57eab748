use Rattle.toml.specs.View.{items_view}
use Rattle.asked_rules.specs.Memories.{memory_in, said_memory}
use Rattle.asked_rules.specs.Reading.{first_items, of_memory}
use Rattle.asked_rules.proofs.Fronts.{KeepsReading}
use Rattle.asked_rules.proofs.text.memories_from.Given as goal

abbrev pub invariant-loop-number : goal.invariant-loop-number
invariant-loop-number l =
    KeepsReading said_memory (λ number value. of_memory number (memory_in (first_items number (items_view l.items)) value)) l.items l.number l.memories
