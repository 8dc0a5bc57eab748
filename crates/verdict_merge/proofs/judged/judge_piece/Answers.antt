use Rattle.verdict_merge.proofs.judged.judge_piece.Goals as goal

pub returns-then-lent : goal.returns-then-lent
returns-then-lent g c = rw c.if-lent.true c.judge_and_keep_all.ensures

pub returns-in-Ok : goal.returns-in-Ok
returns-in-Ok g c = rw c.if-lent.false (record { over = c.in-Ok.ensures.outcome; kept = tt })
