use Rattle.std.proofs.Common.{◌≡◌, take}
use Rattle.std.specs.List.{All}
use Rattle.user_rules.specs.FirstBroken.{MeetsAll}
use Rattle.user_rules.specs.Remembered.{kept_after, valued_after}
use Rattle.user_rules.specs.Rules.{relations_of}
use Rattle.user_rules.proofs.remembering.first_broken_remembered.Given as goal

-- the views so far meet every rule, and the memories have kept them
abbrev pub invariant-loop-number : goal.invariant-loop-number
invariant-loop-number g l =
    All (MeetsAll (relations_of l.rules)) (valued_after l.memories l.fn.recollection (take l.number l.views))
    × (l.recollection ≡ kept_after l.memories l.fn.recollection (take l.number l.views))
