use Rattle.std.proofs.Common.{rules, ◌≡◌}
use Rattle.crossbeam_channel.specs.Claims.{view}
use Rattle.core_intake.proofs.Chains.{sent_so_far}
use Rattle.core_intake.proofs.feed.send_all.Goals as goal

pub returns-then-not-send-clause-sent : goal.returns-then-not-send-clause-sent
returns-then-not-send-clause-sent g c =
    let same : view c.send.new.side ≡ view c.loop.side = search rules in
    rw same (sent_so_far g.R.TextSource.can_fail c.args.source.now.left c.loop.source.left (view c.loop.side).sent c.loop.invariant.3)

pub returns-in_default-clause-sent : goal.returns-in_default-clause-sent
returns-in_default-clause-sent g c = sent_so_far g.R.TextSource.can_fail c.args.source.now.left c.loop.source.left (view c.loop.side).sent c.loop.invariant.3
