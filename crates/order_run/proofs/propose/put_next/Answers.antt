use Rattle.std.proofs.Common.{arith}
use Rattle.user_rules.specs.Rules.{required_of}
use Rattle.order_run.proofs.Scanned.{has_ended}
use Rattle.order_run.proofs.Way.{stops, way_begun, way_end, way_put}
use Rattle.order_run.proofs.propose.put_next.Goals as goal

pub make_room-requires : goal.make_room-requires
make_room-requires g c = let given = c.requires.under_way in (given.0, given.1, g.G.Guide.left c.args.guide.now, given.2)

pub take-requires : goal.take-requires
take-requires g c = omega (arith, c.requires.core, c.requires.under_way.2.cores)

pub returns-in_err-make_room-clause-goes_on : goal.returns-in_err-make_room-clause-goes_on
returns-in_err-make_room-clause-goes_on g c = λ bytes start way.
    stops c.args.config.now (required_of c.args.memories.now c.args.rules.now) bytes start c.from_residual.result c.make_room.new.run (g.G.Guide.left c.args.guide.now) (g.W.Sink.bytes c.make_room.new.out) c.from_residual.ensures.0
    (c.in_err-make_room.ensures bytes start (g.G.Guide.left c.args.guide.now) way)

pub returns-in_err-taken-clause-goes_on : goal.returns-in_err-taken-clause-goes_on
returns-in_err-taken-clause-goes_on g c = λ bytes start way.
    let left = g.G.Guide.left c.args.guide.now in
    let now = g.W.Sink.bytes c.make_room.new.out in
    stops c.args.config.now (required_of c.args.memories.now c.args.rules.now) bytes start c.from_residual-in_err-taken.result c.make_room.new.run (g.G.Guide.left c.take.new.self) now c.from_residual-in_err-taken.ensures.0
    (way_begun c.args.config.now (required_of c.args.memories.now c.args.rules.now) bytes start c.make_room.new.run left now (c.in_ok-make_room.ensures bytes start left way))

pub returns-in_err-put-in-Some-clause-goes_on : goal.returns-in_err-put-in-Some-clause-goes_on
returns-in_err-put-in-Some-clause-goes_on g c = λ bytes start way.
    let left = g.G.Guide.left c.args.guide.now in
    let now = g.W.Sink.bytes c.make_room.new.out in
    stops c.args.config.now (required_of c.args.memories.now c.args.rules.now) bytes start c.from_residual-in_err-put-in-Some.result c.put.new.self (g.G.Guide.left c.take.new.self) now c.from_residual-in_err-put-in-Some.ensures.0
    (way_begun c.args.config.now (required_of c.args.memories.now c.args.rules.now) bytes start c.make_room.new.run left now (c.in_ok-make_room.ensures bytes start left way))

pub returns-in_ok-put-in-Some-clause-goes_on : goal.returns-in_ok-put-in-Some-clause-goes_on
returns-in_ok-put-in-Some-clause-goes_on g c = λ bytes start way.
    let left = g.G.Guide.left c.args.guide.now in
    let now = g.W.Sink.bytes c.make_room.new.out in
    let is = rw c.in-Some.is at c.in_ok-taken.ensures in
    let put = rw c.new.ensures at c.in_ok-put-in-Some.ensures in
    way_put c.args.config.now (required_of c.args.memories.now c.args.rules.now) bytes start c.make_room.new.run c.put.new.self left (g.G.Guide.left c.take.new.self) now c.args.core c.in-Some.rec
    (c.in_ok-make_room.ensures bytes start left way) is (put.so_far c.args.config.now (required_of c.args.memories.now c.args.rules.now)) put.round put.fits put.taken put.place

pub returns-in-None : goal.returns-in-None
returns-in-None g c =
    let left = g.G.Guide.left c.args.guide.now in
    let now = g.W.Sink.bytes c.make_room.new.out in
    let is = rw c.in-None.is at c.in_ok-taken.ensures in
    record {
      goes_on = λ bytes start way.
          way_end c.args.config.now (required_of c.args.memories.now c.args.rules.now) bytes start c.make_room.new.run left (g.G.Guide.left c.take.new.self) now c.args.core (c.in_ok-make_room.ensures bytes start left way) is;
      others = is.others;
      ended = λ none. has_ended c.args.core left (g.G.Guide.left c.take.new.self) is;
    }
