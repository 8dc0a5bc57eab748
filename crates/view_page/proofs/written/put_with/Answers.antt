use Rattle.std.proofs.Common.{ap, ◌∙◌}
use Rattle.sink.specs.Written.{IsWritten}
use Rattle.view_page.proofs.Sent.{on_both}
use Rattle.view_page.proofs.written.put_with.Goals as goal

pub returns-clause-sent : goal.returns-clause-sent
returns-clause-sent g c = on_both c.put.result c.put.ensures.sent c.put.ensures.complete (λ sent complete. rw (← c.mark.ensures.added complete) sent)
