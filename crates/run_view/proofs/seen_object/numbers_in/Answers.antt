-- The numbers of what the table yields.
use Rattle.std.proofs.Common.{◌∙◌, ap}
use Rattle.std.proofs.lemmas.Iterator.Consumers.{YieldsList-end, YieldsList-from_rest}
use Rattle.run_view.specs.Objects.{numbers_in}
use Rattle.run_view.proofs.ShownObjects.{one_more_number}
use Rattle.run_view.proofs.seen_object.numbers_in.Goals as goal

pub loop-number-preserved : goal.loop-number-preserved
loop-number-preserved g c = one_more_number c.loop-number.yielded _ c.loop-number.numbers.items _ c.loop-number.invariant c.in_ok-push.ensures.items

pub returns : goal.returns
returns g c =
    c.loop-number.invariant
    ∙ ap numbers_in (YieldsList-end (YieldsList-from_rest c.args.table.now cc) c.loop-number.yielded _ c.loop-number.yielded_by _ _ c.in-None.is c.next.ensures.steps).0
