use Rattle.std.proofs.Common.{◌<◌, ℕ, List, Option}
use Rattle.user_rules.specs.Rules.{required_of}
use Rattle.order_run.specs.Left.{HasEnded, Lefts}
use Rattle.order_run.specs.UnderWay.{IsUnderWay}
use Rattle.order_run.proofs.propose.drain_all.Given as goal

-- the run is under way as it was at first, and the recordings of the cores so far have ended
abbrev pub invariant-loop-core : goal.invariant-loop-core
invariant-loop-core g l = record {
  goes_on : (bytes : Option (List ℕ)) (start : Lefts)
      → IsUnderWay l.config (required_of l.memories l.rules) bytes start l.fn.run (g.G.Guide.left l.fn.guide) (g.W.Sink.bytes l.fn.out)
      → IsUnderWay l.config (required_of l.memories l.rules) bytes start l.run (g.G.Guide.left l.guide) (g.W.Sink.bytes l.out);
  ended : (core : ℕ) → core < l.core → HasEnded (g.G.Guide.left l.guide) core;
}
