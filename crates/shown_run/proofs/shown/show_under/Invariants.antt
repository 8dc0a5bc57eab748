use Rattle.std.proofs.Common.{◌≡◌}
use Rattle.user_rules.specs.Rules.{relations_of}
use Rattle.shown_run.proofs.shown.show_under.Given as goal

abbrev pub invariant-loop-relation : goal.invariant-loop-relation
invariant-loop-relation g l = relations_of l.rules.items ≡ l.yielded
