use Rattle.user_rules.specs.Rules.{required_of}
use Rattle.order_run.proofs.Way.{stops, way_cut, way_settled}
use Rattle.order_run.proofs.propose.make_room.Goals as goal

pub settle-requires : goal.settle-requires
settle-requires g c = let way = c.requires.3 in (way.settled, way.waiting, way.before, way.so_far)

pub returns-in_err-settle : goal.returns-in_err-settle
returns-in_err-settle g c = λ bytes start lefts way.
    stops c.args.config.now (required_of c.args.memories.now c.args.rules.now) bytes start c.from_residual.result c.settle.new.self lefts (g.W.Sink.bytes c.settle.new.out) c.from_residual.ensures.0
    (way_cut c.args.config.now (required_of c.args.memories.now c.args.rules.now) bytes start c.args.run.now lefts (g.W.Sink.bytes c.args.out.now) (g.W.Sink.bytes c.settle.new.out) way c.in_err-settle.ensures.cut)

pub returns : goal.returns
returns g c = λ bytes start lefts way.
    way_settled c.args.config.now (required_of c.args.memories.now c.args.rules.now) bytes start c.args.run.now c.settle.new.self lefts (g.W.Sink.bytes c.args.out.now) (g.W.Sink.bytes c.settle.new.out) way
    c.in_ok-settle.ensures.so_far c.settle.ensures.kept c.in_ok-settle.ensures.empty c.in_ok-settle.ensures.whole
