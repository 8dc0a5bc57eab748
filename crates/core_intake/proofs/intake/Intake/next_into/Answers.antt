use Rattle.core_intake.proofs.Asked.{asked_at}
use Rattle.core_intake.proofs.intake.Intake.next_into.Goals as goal

pub returns-clause-puts : goal.returns-clause-puts
returns-clause-puts g c =
    let put = c.next_into.ensures in (
      put.0,
      put.1,
      asked_at c.args.self.now c.self.inside.lanes.items c.args.core c.number.result c.index_mut.result.now put.0 c.next_into.new.self c.self.view_is c.number.ensures
          c.requires.core c.index_mut.ensures.value put.2,
    )
