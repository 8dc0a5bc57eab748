use Rattle.std.specs.Prelude.{All}
use Rattle.piece_check.specs.Found.{IsWindowAt}
use Rattle.piece_check.proofs.windows.Windows.look_up.Given as goal

abbrev pub invariant-records : goal.invariant-records
invariant-records l = All (IsWindowAt l.config) l.self
