use Rattle.std.proofs.Common.{◌≡◌, ◌≤◌, ◌+◌, ◌++◌, drop, length}
use Rattle.std.specs.Vec.{vec_capacity, vec_len}
use Rattle.user_rules.specs.Memories.{values_at}
use Rattle.user_rules.proofs.recollection.read_all.Given as goal

-- the values so far and those of the memories that are left are all values, and there is room for them
abbrev pub invariant-loop-number : goal.invariant-loop-number
invariant-loop-number l =
    (l.values.items ++ values_at (drop l.number l.memories) (drop l.number l.tracks) l.view ≡ values_at l.memories l.tracks l.view)
    × (vec_len l.values + length l.memories ≤ vec_capacity l.values + l.number)
