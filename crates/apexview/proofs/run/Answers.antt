use Rattle.std.proofs.Common.{true}
use Rattle.apexview.proofs.Ended.{concluded, explained}
use Rattle.apexview.proofs.run.Goals as goal

pub returns : goal.returns
returns g c =
    let facts = g.D.Folder.facts c.args.folder.now in (
      c.explain-ending.result,
      explained facts (λ watched. g.F.Read.remaining watched.inner) true c.args.asked.now c.conclude-written.result c.explain-ending.result c.explain-ending.ensures
          (concluded facts (λ watched. g.F.Read.remaining watched.inner) true c.args.asked.now c.answer-shown.result c.conclude-written.result c.conclude-written.ensures.same c.answer-shown.ensures),
      c.status_of.ensures.value,
    )
