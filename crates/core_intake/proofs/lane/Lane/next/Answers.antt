use Rattle.std.proofs.Common.{rules, ap, option_map}
use Rattle.record_read.specs.Row.{records_of}
use Rattle.core_intake.specs.Answered.{answered}
use Rattle.core_intake.proofs.Chains.{ends_on, splits_on, takes_first, takes_one}
use Rattle.core_intake.proofs.lane.Lane.next.Goals as goal

pub invariant_of-self : goal.invariant_of-self
invariant_of-self g c =
    let taken = takes_first _ _ _ _ _ (c.receive.ensures.kept _ c.self.invariant.3) c.next-answer.ensures.first in (
      c.self.invariant.0,
      c.receive.ensures.seat,
      search rules,
      splits_on _ _ _ _ taken,
      ends_on _ _ _ _ _ _ taken c.self.invariant.4 c.if-self.false c.ends-self-inside.ensures,
    )

pub returns-clause-gives : goal.returns-clause-gives
returns-clause-gives g c going =
    let taken = takes_first _ _ _ _ _ (c.receive.ensures.kept _ c.self.invariant.3) c.next-answer.ensures.first in
    rw (← c.self.view_is) (ap (answered (option_map records_of (g.R.TextSource.remaining c.self.inside.reader.promise.reader.value))) (takes_one _ _ _ _ taken))
