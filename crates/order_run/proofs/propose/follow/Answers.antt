use Rattle.user_rules.specs.Rules.{required_of}
use Rattle.order_run.proofs.Way.{stops, way_begun}
use Rattle.order_run.proofs.propose.follow.Goals as goal

pub returns-in_err-next : goal.returns-in_err-next
returns-in_err-next g c = λ bytes start way.
    stops c.args.config.now (required_of c.args.memories.now c.args.rules.now) bytes start c.from_residual.result _ _ _ c.from_residual.ensures.0
    (way_begun c.args.config.now (required_of c.args.memories.now c.args.rules.now) bytes start c.loop.run (g.G.Guide.left c.loop.guide) (g.W.Sink.bytes c.loop.out) (c.loop.invariant bytes start way))

pub returns-in_err-is_put : goal.returns-in_err-is_put
returns-in_err-is_put g c = λ bytes start way.
    stops c.args.config.now (required_of c.args.memories.now c.args.rules.now) bytes start c.from_residual-in_err-is_put.result c.put_next.new.run (g.G.Guide.left c.put_next.new.guide) (g.W.Sink.bytes c.put_next.new.out) c.from_residual-in_err-is_put.ensures.0
    (c.in_err-is_put.ensures.goes_on bytes start (rw c.in_ok-next.ensures (c.loop.invariant bytes start way)))

pub returns-then-not-is_put : goal.returns-then-not-is_put
returns-then-not-is_put g c = λ bytes start way. c.in_ok-is_put.ensures.goes_on bytes start (rw c.in_ok-next.ensures (c.loop.invariant bytes start way))

pub loop-preserved : goal.loop-preserved
loop-preserved g c = λ bytes start way. c.in_ok-is_put.ensures.goes_on bytes start (rw c.in_ok-next.ensures (c.loop.invariant bytes start way))

pub returns-in_default : goal.returns-in_default
returns-in_default g c = λ bytes start way. rw c.in_ok-next.ensures (c.loop.invariant bytes start way)

pub returns-then-core-cores : goal.returns-then-core-cores
returns-then-core-cores g c = λ bytes start way. rw c.in_ok-next.ensures (c.loop.invariant bytes start way)

pub put_next-requires-clause-under_way : goal.put_next-requires-clause-under_way
put_next-requires-clause-under_way g c = let given = c.requires in (given.0, given.1, rw c.in_ok-next.ensures (c.loop.invariant given.0 given.1 given.2))
