-- The lock is shown as it is.
use Rattle.run_view.proofs.Showing.{in_turn_as}
use Rattle.apex_types.specs.declared.discipline.Discipline.TheVariants.{Priority}
use Rattle.run_view.proofs.thing.lock_view.Goals as goal

pub returns : goal.returns
returns c = (
  c.new.ensures.items,
  cc (c.owner.ensures, c.level.ensures),
  c.new-2.ensures.items,
  in_turn_as c.waiters.result.now Priority c.args.lock.now.waiters _ c.waiters.ensures.discipline c.waiters.ensures.entries c.in_ok-waiters_of.ensures,
)
