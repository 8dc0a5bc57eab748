-- The records that are kept of the last round are those that are accepted, up to the last place that is asked for.
use Rattle.std.proofs.Common.{◌≡◌, ◌≤◌, ◌++◌, ◌∙◌, List, arith, ap, length, min, subst, sym, take}
use Rattle.apex_types.specs.declared.record.Ordered.{Ordered}
use Rattle.shown_run.specs.Kept.{AreRecent}
use Rattle.shown_run.specs.Stretches.{accepted_by, asked_of}
use Rattle.shown_run.proofs.Judging.{whenever}
use Rattle.shown_run.proofs.FewerRecords.{run_over_kept}
use Rattle.shown_run.proofs.UpTo.{asked_least, up_to_all, up_to_both}
use Rattle.shown_run.proofs.gathering.Gathering.add_last.Goals as goal

pub returns-clause-gathered : goal.returns-clause-gathered
returns-clause-gathered c = whenever c.show_after.result _ (λ configuration taken pieces are room first placed cores have.
    let records = c.args.round.records.items in
    let asked = c.args.self.now.asked.at in
    let kept = c.min-kept.result in
    let accepted = accepted_by (length taken) (length records) c.args.verdict.now in
    let many : c.len.result ≡ length records = omega (arith, c.len.ensures, c.args.round.records.ok) in
    let same : min c.accepted_by-accepted.result (length records) ≡ min accepted (length records) =
    subst (λ place. min c.accepted_by-accepted.result (length records) ≡ min (accepted_by place (length records) c.args.verdict.now) (length records)) first
    (subst (λ count. min c.accepted_by-accepted.result count ≡ min (accepted_by c.args.round.first count c.args.verdict.now) count) many c.accepted_by-accepted.ensures) in
    let here : c.args.asked ≡ asked_of asked (length taken) (length records) = subst (λ place. c.args.asked ≡ asked_of asked place (length records)) first c.requires.asked in
    let least : kept ≡ min accepted (asked_of asked (length taken) (length records)) =
    omega (arith, c.min-kept.ensures, same, here, asked_least asked (length taken) (length records)) in
    let few : kept ≤ accepted = omega (arith, least) in
    let recent : c.show_after.new.self.recent ≡ c.keep_last.new.self = c.show_after.ensures.same.0 ∙ c.decide.ensures.same.0 in
    let asks : c.show_after.new.self.asked ≡ c.args.self.now.asked = c.show_after.ensures.same.1 ∙ c.decide.ensures.same.1 in
    rw (recent, asks)
    (subst (λ (list : List Ordered). AreRecent configuration list c.keep_last.new.self)
    (ap (λ count. taken ++ take count records) least ∙ sym (up_to_both asked taken records accepted room))
    (c.in-Ok.ensures.recent configuration taken (subst (λ list. AreRecent configuration list c.args.self.now.recent) (up_to_all asked taken room) are) placed cores
    (run_over_kept configuration taken records c.args.verdict.now pieces kept few have))))
