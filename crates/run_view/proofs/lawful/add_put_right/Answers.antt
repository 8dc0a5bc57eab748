use Rattle.std.proofs.Common.{◌∙◌, ◌++◌, Option, ap}
use Rattle.apex_machine.specs.State.{is_named}
use Rattle.wait_set.specs.Givens.{answer_given}
use Rattle.piece_check.specs.declared.misnaming.Misnaming.{Misnaming}
use Rattle.piece_check.specs.Evidence.{misnamed}
use Rattle.run_view.specs.Lawful.{if_misnamed}
use Rattle.run_view.proofs.Righting.{one_more}
use Rattle.run_view.proofs.lawful.add_put_right.Goals as goal

pub loop-who-preserved : goal.loop-who-preserved
loop-who-preserved c =
    let ended = (answer_given c.args.given.now).woken in
    let named = c.args.woken.now in
    let who = c.who-item.result in
    one_more (λ one. if_misnamed one (misnamed (is_named one ended) (is_named one named))) c.args.listed.now c.loop-who.who-index who c.args.lawful.now.items c.loop-who.lawful.items
    c.add_misnamed.new.lawful.items c.loop-who-test.true c.who-item.is c.loop-who.invariant
    (c.in_ok-add_misnamed.ensures ∙ ap (λ (wrong : Option Misnaming). c.loop-who.lawful.items ++ if_misnamed who wrong) c.misnamed_by.ensures)
