-- The processes whose waits end are named exactly.
use Rattle.std.proofs.Common.{◌∙◌, ap, length, min, take}
use Rattle.std.proofs.lemmas.Result.{IfOk-weaker}
use Rattle.run_view.proofs.Turns.{all_end, first_end, processes_of}
use Rattle.run_view.proofs.lawful.ended_by.Goals as goal

pub returns-in_ok-waiters-in-All : goal.returns-in_ok-waiters-in-All
returns-in_ok-waiters-in-All c =
    IfOk-weaker c.processes_of.result _ _
    (λ ended is. all_end c.args.given.now.woken c.in-All.set c.in_ok-waiters-in-All.waiters.items ended.items c.in-All.is
    c.in_ok-waiters-in-All.ensures (is ∙ ap processes_of c.as_slice.ensures.value)) c.processes_of.ensures

pub returns-in_ok-waiters-in-First : goal.returns-in_ok-waiters-in-First
returns-in_ok-waiters-in-First c =
    let waiters = c.in_ok-waiters-in-First.waiters.items in
    let firsts =
    ap (λ number. take number c.as_slice-in-First.result.now) (c.min-first.ensures ∙ ap (min c.in-First.count) (c.len.ensures ∙ c.in_ok-waiters-in-First.waiters.ok.0))
    ∙ ap (take (min c.in-First.count (length waiters))) c.as_slice-in-First.ensures.value in
    IfOk-weaker c.processes_of-in-First.result _ _
    (λ ended is. first_end c.args.given.now.woken c.in-First.set c.in-First.count waiters ended.items c.in-First.is
    c.in_ok-waiters-in-First.ensures (is ∙ ap processes_of firsts)) c.processes_of-in-First.ensures
