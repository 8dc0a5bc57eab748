use Rattle.std.proofs.Common.{◌≡◌, take}
use Rattle.user_rules.specs.Memories.{nothing}
use Rattle.user_rules.proofs.recollection.Recollection.start.Given as goal

-- the memories so far keep nothing yet
abbrev pub invariant-loop-memory : goal.invariant-loop-memory
invariant-loop-memory l = l.tracks.items ≡ nothing (take l.memory-index l.memories)
