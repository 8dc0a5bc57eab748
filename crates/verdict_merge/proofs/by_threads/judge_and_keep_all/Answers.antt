use Rattle.user_rules.specs.Rules.{relations_of}
use Rattle.verdict_merge.proofs.by_threads.judge_and_keep_all.Goals as goal

pub returns-in-Ok : goal.returns-in-Ok
returns-in-Ok g c =
    let judged = c.in-Ok.ensures.outcome (relations_of c.args.rules.now) c.first_breach_in_turn-breach.result c.first_breach_in_turn-breach.ensures in
    record { over = judged.0; kept = judged.1 }
