-- Each part of a tally takes one value more.
use Rattle.run_numbers.proofs.Tallying.{with_one_more}
use Rattle.run_numbers.proofs.tally.Tally.with.Goals as goal

pub returns : goal.returns
returns c = λ points is.
    with_one_more points c.args.later.now c.args.self.now c.saturating_add.result c.saturating_add-2.result c.greater.result c.less.result is c.saturating_add.ensures c.saturating_add-2.ensures c.greater.ensures
    c.less.ensures
