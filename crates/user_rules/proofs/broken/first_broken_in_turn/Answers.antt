use Rattle.user_rules.specs.Rules.{relations_of}
use Rattle.user_rules.proofs.FirstBroken.{all_alone_met, alone_here, alone_met}
use Rattle.user_rules.proofs.broken.first_broken_in_turn.Goals as goal

pub returns-in-Some : goal.returns-in-Some
returns-in-Some g c =
    alone_here (relations_of c.args.rules.now) c.args.views.now c.loop-view.view c.in-Some.rule _ c.loop-view-test.true c.loop-view.invariant (c.in-Some.ensures)

pub loop-view-preserved : goal.loop-view-preserved
loop-view-preserved g c =
    alone_met (relations_of c.args.rules.now) c.args.views.now c.loop-view.view _ c.loop-view-test.true c.loop-view.invariant (c.in_default.ensures)

pub returns : goal.returns
returns g c = all_alone_met (relations_of c.args.rules.now) c.args.views.now c.loop-view.view c.loop-view-test.false c.loop-view.invariant
