use Rattle.user_rules.specs.Rules.{relations_of}
use Rattle.verdict_merge.proofs.by_threads.judge_piece_by_threads.Goals as goal

pub returns-in-Ok : goal.returns-in-Ok
returns-in-Ok g c =
    let judged = c.in-Ok.ensures.outcome (relations_of c.args.rules.now) c.first_breach-breach.result c.first_breach-breach.ensures in
    rw c.if-lent.false (record { over = judged.0; kept = tt })
