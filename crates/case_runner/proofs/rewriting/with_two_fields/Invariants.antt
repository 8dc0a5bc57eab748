use Rattle.std.proofs.Common.{◌≡◌, ◌++◌, drop, false}
use Rattle.case_runner.specs.Rewriting.{widened}
use Rattle.case_runner.proofs.rewriting.with_two_fields.Given as goal

abbrev pub invariant-loop-byte : goal.invariant-loop-byte
invariant-loop-byte l = l.made.items ++ widened l.is_filled (drop l.byte-index l.text) ≡ widened false l.text
