use Rattle.std.proofs.Common.{◌≡◌, ◌++◌, drop, take}
use Rattle.user_rules.specs.Meets.{with_values}
use Rattle.user_rules.specs.Memories.{kept_after_view}
use Rattle.user_rules.proofs.recollection.take_in_all.Given as goal

-- the memories so far have kept the view, and those that are left keep it next
abbrev pub invariant-loop-number : goal.invariant-loop-number
invariant-loop-number l =
    take l.number l.tracks.items ++ kept_after_view (drop l.number l.memories) (drop l.number l.tracks.items) (with_values l.view l.values)
    ≡ kept_after_view l.memories l.fn.tracks.items (with_values l.view l.values)
