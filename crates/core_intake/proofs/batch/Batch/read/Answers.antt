use Rattle.std.proofs.Common.{rules, refl, Ok, Err}
use Rattle.core_intake.proofs.Chains.{ends_read, reads_more}
use Rattle.core_intake.proofs.batch.Batch.read.Goals as goal

pub loop-preserved : goal.loop-preserved
loop-preserved g c = (
  search rules,
  reads_more g.R.TextSource.can_fail _ _ _ _ _ _ c.in_ok-record.field-0 c.loop.invariant.1 c.in_ok-record.ensures.gives (search rules) c.push_back_reserved.ensures.items,
  search rules,
  search rules,
)

pub returns-in-Ok-None-clause-read : goal.returns-in-Ok-None-clause-read
returns-in-Ok-None-clause-read g c =
    ends_read g.R.TextSource.can_fail _ _ _ c.next_answer.new.source.left _ _ (Ok tt) c.in_ok-record.field-0 refl refl c.loop.invariant.1 c.in_ok-record.ensures.gives (search rules)

pub returns-in-Err-clause-read : goal.returns-in-Err-clause-read
returns-in-Err-clause-read g c =
    ends_read g.R.TextSource.can_fail _ _ _ c.next_answer.new.source.left _ _ (Err c.in-Err.fault) c.in_ok-record.field-0 refl refl c.loop.invariant.1 c.in_ok-record.ensures.gives (search rules)
