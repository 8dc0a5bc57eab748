use Rattle.std.proofs.Common.{Some, ap}
use Rattle.piece_check.proofs.Reaching.{placed_at}
use Rattle.verdict_merge.specs.declared.verdict.Verdict.TheVariants.{Broken}
use Rattle.verdict_merge.proofs.verdict.Verdict.against.Goals as goal

pub returns-in-Some : goal.returns-in-Some
returns-in-Some c first placed =
    let one = c.in-Some.one in
    rw c.in-Some.is (ap (λ pos. Some (Broken pos one.rule)) (placed_at first one.seen.index c.index-records-one.result c.args.records.now placed (rw c.in-Some.is at c.requires)))
