use Rattle.std.proofs.Common.{below_more, ◌≡◌, [], IfSome, sym, subst, arith}
use Rattle.user_rules.specs.Rules.{required_of}
use Rattle.order_run.specs.Left.{HasEnded}
use Rattle.order_run.proofs.Way.{stops}
use Rattle.order_run.proofs.propose.drain_all.Goals as goal

pub drain-requires-clause-under_way : goal.drain-requires-clause-under_way
drain-requires-clause-under_way g c = let given = c.requires in (given.0, given.1, c.loop-core.invariant.goes_on given.0 given.1 given.2)

pub returns-in_err-drain-clause-goes_on : goal.returns-in_err-drain-clause-goes_on
returns-in_err-drain-clause-goes_on g c = λ bytes start way.
    stops c.args.config.now (required_of c.args.memories.now c.args.rules.now) bytes start c.from_residual.result c.drain.new.run (g.G.Guide.left c.drain.new.guide) (g.W.Sink.bytes c.drain.new.out) c.from_residual.ensures.0
    (c.in_err-drain.ensures.goes_on bytes start (c.loop-core.invariant.goes_on bytes start way))

pub loop-core-preserved : goal.loop-core-preserved
loop-core-preserved g c = record {
  goes_on = λ bytes start way. c.in_ok-drain.ensures.goes_on bytes start (c.loop-core.invariant.goes_on bytes start way);
  ended = below_more (λ core. HasEnded (g.G.Guide.left c.drain.new.guide) core) c.loop-core.core
      (λ core less. subst (λ left. IfSome left (λ items. items ≡ [])) (sym (c.in_ok-drain.ensures.others core (λ same. omega (arith, less, same)))) (c.loop-core.invariant.ended core less))
      c.in_ok-drain.ensures.ended;
}
