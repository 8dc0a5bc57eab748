use Rattle.std.proofs.Common.{◌∙◌, refl}
use Rattle.user_rules.specs.Rules.{required_of}
use Rattle.order_run.proofs.Way.{stops, way_begun}
use Rattle.order_run.proofs.propose.drain.Goals as goal

pub loop-init : goal.loop-init
loop-init g c = record { goes_on = λ bytes start way. way; others = λ other apart. refl }

pub put_next-requires-clause-under_way : goal.put_next-requires-clause-under_way
put_next-requires-clause-under_way g c = let given = c.requires.under_way in (given.0, given.1, c.loop.invariant.goes_on given.0 given.1 given.2)

pub loop-preserved : goal.loop-preserved
loop-preserved g c = record {
  goes_on = λ bytes start way. c.in_ok-is_put.ensures.goes_on bytes start (c.loop.invariant.goes_on bytes start way);
  others = λ other apart. c.in_ok-is_put.ensures.others other apart ∙ c.loop.invariant.others other apart;
}

pub returns-in_err-is_put-clause-goes_on : goal.returns-in_err-is_put-clause-goes_on
returns-in_err-is_put-clause-goes_on g c = λ bytes start way.
    stops c.args.config.now (required_of c.args.memories.now c.args.rules.now) bytes start c.from_residual.result c.put_next.new.run (g.G.Guide.left c.put_next.new.guide) (g.W.Sink.bytes c.put_next.new.out) c.from_residual.ensures.0
    (c.in_err-is_put.ensures.goes_on bytes start (c.loop.invariant.goes_on bytes start way))

pub returns-clause-goes_on : goal.returns-clause-goes_on
returns-clause-goes_on g c = λ bytes start way.
    way_begun c.args.config.now (required_of c.args.memories.now c.args.rules.now) bytes start c.loop.run (g.G.Guide.left c.loop.guide) (g.W.Sink.bytes c.loop.out) (c.loop.invariant.goes_on bytes start way)

pub returns-then-not-is_put-clause-goes_on : goal.returns-then-not-is_put-clause-goes_on
returns-then-not-is_put-clause-goes_on g c = λ bytes start way. c.in_ok-is_put.ensures.goes_on bytes start (c.loop.invariant.goes_on bytes start way)
