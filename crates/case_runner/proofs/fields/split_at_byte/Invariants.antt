use Rattle.std.proofs.Common.{◌≢◌, All, take}
use Rattle.case_runner.proofs.fields.split_at_byte.Given as goal

abbrev pub invariant-loop-at : goal.invariant-loop-at
invariant-loop-at l = All (λ byte. byte ≢ l.end) (take l.at l.text)
