use Rattle.std.proofs.Common.{◌≡◌, ◌≢◌, ℕ, List, Option}
use Rattle.user_rules.specs.Rules.{required_of}
use Rattle.order_run.specs.Left.{Lefts, left_at}
use Rattle.order_run.specs.UnderWay.{IsUnderWay}
use Rattle.order_run.proofs.propose.drain.Given as goal

-- the run is under way as it was at first, and the other cores have left what they had
abbrev pub invariant-loop : goal.invariant-loop
invariant-loop g l = record {
  goes_on : (bytes : Option (List ℕ)) (start : Lefts)
      → IsUnderWay l.config (required_of l.memories l.rules) bytes start l.fn.run (g.G.Guide.left l.fn.guide) (g.W.Sink.bytes l.fn.out)
      → IsUnderWay l.config (required_of l.memories l.rules) bytes start l.run (g.G.Guide.left l.guide) (g.W.Sink.bytes l.out);
  others : (other : ℕ) → other ≢ l.core → left_at (g.G.Guide.left l.guide) other ≡ left_at (g.G.Guide.left l.fn.guide) other;
}
