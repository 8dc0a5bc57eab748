use Rattle.user_rules.specs.Rules.{relations_of, required_of}
use Rattle.order_run.proofs.Way.{cut_so, none_written, way_cut, way_ends, way_first, way_whole}
use Rattle.order_run.proofs.propose.propose_by.Goals as goal

pub follow-requires : goal.follow-requires
follow-requires g c =
    let start = g.G.Guide.left c.args.guide.now in
    let bytes = g.W.Sink.bytes c.args.out.now in (
      bytes,
      start,
      way_first c.args.config.now (required_of c.args.memories.now c.args.rules.now) c.in_ok-run.run' start bytes (c.in_ok-run.ensures.so_far (relations_of c.args.rules.now)) c.in_ok-run.ensures.empty c.in_ok-run.ensures.taken c.in_ok-run.ensures.place c.requires,
    )

pub drain_all-requires : goal.drain_all-requires
drain_all-requires g c =
    let start = g.G.Guide.left c.args.guide.now in
    let bytes = g.W.Sink.bytes c.args.out.now in
    let first = way_first c.args.config.now (required_of c.args.memories.now c.args.rules.now) c.in_ok-run.run' start bytes (c.in_ok-run.ensures.so_far (relations_of c.args.rules.now)) c.in_ok-run.ensures.empty c.in_ok-run.ensures.taken c.in_ok-run.ensures.place c.requires in
    (bytes, start, c.in_ok-follow.ensures bytes start first)

pub settle-requires : goal.settle-requires
settle-requires g c =
    let start = g.G.Guide.left c.args.guide.now in
    let bytes = g.W.Sink.bytes c.args.out.now in
    let first = way_first c.args.config.now (required_of c.args.memories.now c.args.rules.now) c.in_ok-run.run' start bytes (c.in_ok-run.ensures.so_far (relations_of c.args.rules.now)) c.in_ok-run.ensures.empty c.in_ok-run.ensures.taken c.in_ok-run.ensures.place c.requires in
    let way = c.in_ok-drain_all.ensures.goes_on bytes start (c.in_ok-follow.ensures bytes start first) in
    (way.settled, way.waiting, way.before, way.so_far)

pub returns-in_err-run-clause-prefix : goal.returns-in_err-run-clause-prefix
returns-in_err-run-clause-prefix g c =
    let start = g.G.Guide.left c.args.guide.now in
    let bytes = g.W.Sink.bytes c.args.out.now in
    cut_so c.args.config.now bytes start bytes c.from_residual.result c.from_residual.ensures.0 (none_written c.args.config.now bytes start)

pub returns-in_err-follow-clause-prefix : goal.returns-in_err-follow-clause-prefix
returns-in_err-follow-clause-prefix g c =
    let start = g.G.Guide.left c.args.guide.now in
    let bytes = g.W.Sink.bytes c.args.out.now in
    let first = way_first c.args.config.now (required_of c.args.memories.now c.args.rules.now) c.in_ok-run.run' start bytes (c.in_ok-run.ensures.so_far (relations_of c.args.rules.now)) c.in_ok-run.ensures.empty c.in_ok-run.ensures.taken c.in_ok-run.ensures.place c.requires in
    cut_so c.args.config.now bytes start (g.W.Sink.bytes c.follow.new.out) c.from_residual-in_err-follow.result c.from_residual-in_err-follow.ensures.0 (c.in_err-follow.ensures bytes start first)

pub returns-in_err-drain_all-clause-prefix : goal.returns-in_err-drain_all-clause-prefix
returns-in_err-drain_all-clause-prefix g c =
    let start = g.G.Guide.left c.args.guide.now in
    let bytes = g.W.Sink.bytes c.args.out.now in
    let first = way_first c.args.config.now (required_of c.args.memories.now c.args.rules.now) c.in_ok-run.run' start bytes (c.in_ok-run.ensures.so_far (relations_of c.args.rules.now)) c.in_ok-run.ensures.empty c.in_ok-run.ensures.taken c.in_ok-run.ensures.place c.requires in
    cut_so c.args.config.now bytes start (g.W.Sink.bytes c.drain_all.new.out) c.from_residual-in_err-drain_all.result c.from_residual-in_err-drain_all.ensures.0
    (c.in_err-drain_all.ensures.goes_on bytes start (c.in_ok-follow.ensures bytes start first))

pub returns-in_err-settle-clause-prefix : goal.returns-in_err-settle-clause-prefix
returns-in_err-settle-clause-prefix g c =
    let start = g.G.Guide.left c.args.guide.now in
    let bytes = g.W.Sink.bytes c.args.out.now in
    let first = way_first c.args.config.now (required_of c.args.memories.now c.args.rules.now) c.in_ok-run.run' start bytes (c.in_ok-run.ensures.so_far (relations_of c.args.rules.now)) c.in_ok-run.ensures.empty c.in_ok-run.ensures.taken c.in_ok-run.ensures.place c.requires in
    let way = c.in_ok-drain_all.ensures.goes_on bytes start (c.in_ok-follow.ensures bytes start first) in
    cut_so c.args.config.now bytes start (g.W.Sink.bytes c.settle.new.out) c.from_residual-in_err-settle.result c.from_residual-in_err-settle.ensures.0
    (way_cut c.args.config.now (required_of c.args.memories.now c.args.rules.now) bytes start c.drain_all.new.run (g.G.Guide.left c.drain_all.new.guide) (g.W.Sink.bytes c.drain_all.new.out) (g.W.Sink.bytes c.settle.new.out) way c.in_err-settle.ensures.cut)

pub returns : goal.returns
returns g c =
    let start = g.G.Guide.left c.args.guide.now in
    let bytes = g.W.Sink.bytes c.args.out.now in
    let lefts = g.G.Guide.left c.drain_all.new.guide in
    let now = g.W.Sink.bytes c.drain_all.new.out in
    let after = g.W.Sink.bytes c.settle.new.out in
    let first = way_first c.args.config.now (required_of c.args.memories.now c.args.rules.now) c.in_ok-run.run' start bytes (c.in_ok-run.ensures.so_far (relations_of c.args.rules.now)) c.in_ok-run.ensures.empty c.in_ok-run.ensures.taken c.in_ok-run.ensures.place c.requires in
    let way = c.in_ok-drain_all.ensures.goes_on bytes start (c.in_ok-follow.ensures bytes start first) in
    record {
      prefix = way_whole c.args.config.now (required_of c.args.memories.now c.args.rules.now) bytes start c.drain_all.new.run lefts now after way c.in_ok-settle.ensures.whole;
      proposed = λ texts opened.
          way_ends c.args.config.now (required_of c.args.memories.now c.args.rules.now) texts bytes start c.drain_all.new.run c.settle.new.self lefts now after c.proposal.result way opened c.in_ok-drain_all.ensures.ended
          c.keeps_limits.ensures.windows c.keeps_limits.ensures.ends c.in_ok-settle.ensures.so_far c.in_ok-settle.ensures.whole
          (λ pairs before put. c.proposal.ensures.verdict c.args.config.now (required_of c.args.memories.now c.args.rules.now) pairs before put c.in_ok-settle.ensures.empty)
          (λ pairs before put. c.proposal.ensures.order c.args.config.now (required_of c.args.memories.now c.args.rules.now) pairs before put c.in_ok-settle.ensures.empty);
    }
