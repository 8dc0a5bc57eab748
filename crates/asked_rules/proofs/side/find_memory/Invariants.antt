use Rattle.std.proofs.Common.{◌≡◌, drop}
use Rattle.toml.specs.View.{items_view}
use Rattle.asked_rules.specs.Sides.{memory_named, named_from}
use Rattle.asked_rules.proofs.side.find_memory.Given as goal

-- none of the tables so far has the name
abbrev pub invariant-loop-number : goal.invariant-loop-number
invariant-loop-number l = named_from l.number (items_view (drop l.number l.above)) l.name ≡ memory_named (items_view l.above) l.name
