use Rattle.std.proofs.Common.{map, take}
use Rattle.std.specs.List.{All}
use Rattle.user_rules.specs.FirstBroken.{MeetsAll}
use Rattle.user_rules.specs.Meets.{alone}
use Rattle.user_rules.specs.Rules.{relations_of}
use Rattle.user_rules.proofs.broken.first_broken_in_turn.Given as goal

-- the views so far meet every rule
abbrev pub invariant-loop-view : goal.invariant-loop-view
invariant-loop-view g l = All (MeetsAll (relations_of l.rules)) (take l.view (map alone l.views))
