use Rattle.std.proofs.Common.{◌≡◌, ◌<◌, ℕ, None}
use Rattle.apex_machine.specs.Views.{view_in}
use Rattle.verdict_merge.specs.Rounds.{parts_in}
use Rattle.shown_run.proofs.run.view_at.Given as goal

-- the pieces with smaller numbers give no view
abbrev pub invariant-pieces : goal.invariant-pieces
invariant-pieces l = (other : ℕ) → other < l.number → view_in (parts_in l.pieces other) l.ordered ≡ None
