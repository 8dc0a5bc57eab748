use Rattle.std.proofs.Common.{◌≡◌, ◌∙◌, None, Ok, Err, length, sym, ap, arith, inl, inr, subst}
use Rattle.module_config.specs.Reading.{configuration_of}
use Rattle.order_cert.specs.Kept.{none_taken}
use Rattle.order_cert.specs.Row.{pairs_of}
use Rattle.placement.specs.Lanes.{IsScanOf}
use Rattle.placement.specs.Reading.{CanFail}
use Rattle.report.specs.Answers.{IsAnswer}
use Rattle.report.specs.Inputs.{Texts, items_at}
use Rattle.report.specs.Outcome.{argument_fault_of}
use Rattle.report.proofs.Answering.{answered, refused_configuration, refused_count, refused_settings, want_of_memory}
use Rattle.report.proofs.Lawful.{scan_placed}
use Rattle.report.proofs.Whole.{known_lanes, scanned_texts}
use Rattle.user_rules.specs.Rules.{required_of}
use Rattle.verdict_merge.proofs.Refusing.{run_up_to_no}
use Rattle.verdict_merge.proofs.Ruled.{run_where_yes}
use Rattle.report.proofs.checking.check_inputs.Goals as goal

pub returns-in-Some : goal.returns-in-Some
returns-in-Some g c = λ recordings certificate e is. refused_settings c.in-Some.fault c.clear.ensures (sym c.fault.ensures ∙ c.in-Some.is)

pub returns-in-Err : goal.returns-in-Err
returns-in-Err g c = λ recordings certificate e is.
    rw c.config_refusal.ensures (refused_configuration c.in-Err.fault c.clear.ensures (sym c.fault.ensures ∙ c.in_default.is)
    (λ other. subst (λ given. configuration_of given.config ≡ Err c.in-Err.fault) c.inputs.view_is (c.in-Err.ensures.value other)))

pub returns-then-len-cores : goal.returns-then-len-cores
returns-then-len-cores g c = λ recordings certificate e is.
    let lanes = known_lanes (λ reader. g.R.TextSource.remaining reader) c.inputs.inside.recordings.items recordings (ap (λ given. given.recordings) c.inputs.view_is ∙ e) in
    refused_count c.in-Ok.config c.clear.ensures (sym c.fault.ensures ∙ c.in_default.is)
    (subst (λ given. configuration_of given.config ≡ Ok c.in-Ok.config) c.inputs.view_is c.in-Ok.ensures.value) (λ same. omega (arith, same, lanes.0))

pub returns-in_default-new : goal.returns-in_default-new
returns-in_default-new g c = λ recordings certificate e is. want_of_memory c.clear.ensures

pub returns-in_default-open : goal.returns-in_default-open
returns-in_default-open g c = λ recordings certificate e is. want_of_memory c.clear.ensures

pub returns : goal.returns
returns g c = λ recordings certificate e is.
    let texts : Texts = record { config = c.args.inputs.config; recordings = recordings; certificate = certificate } in
    let can_fail : CanFail = c.args.inputs.can_fail in
    let required = required_of c.args.memories.now c.args.rules.now in
    let config = c.in-Ok.config in
    let none : argument_fault_of c.args.options.settings ≡ None = sym c.fault.ensures ∙ c.in_default.is in
    let same : c.deref.result.now ≡ config = c.deref.ensures ∙ c.in-Ok-new.ensures.ok in
    let lanes = known_lanes (λ reader. g.R.TextSource.remaining reader) c.inputs.inside.recordings.items recordings (ap (λ given. given.recordings) c.inputs.view_is ∙ e) in
    let readers : length c.inputs.inside.recordings.items ≡ config.cores = omega arith in
    let count : length recordings ≡ config.cores = sym lanes.0 ∙ readers in
    subst (IsAnswer c.args.options.settings texts can_fail required c.judge_all-answer.result) (sym c.settle.ensures)
    (answered c.args.options.settings texts can_fail required config c.judge_all-answer.result c.judge_all-answer.new.last none (subst (λ given. configuration_of given.config ≡ Ok config) c.inputs.view_is c.in-Ok.ensures.value) count
    (λ scanned verdict scan found. (
      run_where_yes config required scanned.placed verdict c.keeps_limits.ensures.windows c.keeps_limits.ensures.ends
          (scan_placed can_fail (length recordings) (items_at recordings) (pairs_of certificate) scanned scan) found,
      run_up_to_no config required scanned.placed verdict c.keeps_limits.ensures.windows c.keeps_limits.ensures.ends
          (scan_placed can_fail (length recordings) (items_at recordings) (pairs_of certificate) scanned scan) found,
    ))
    (elim (rw same at (c.judge_all-answer.ensures c.close.ensures.honest)) [
      | inl memory ↦ inl memory
      | inr (scanned, ahead, judged, reported) ↦ inr (record {
        scanned = scanned;
        scan = subst (λ given. IsScanOf given.can_fail (length recordings) none_taken 0 (items_at recordings) (pairs_of certificate) scanned) c.inputs.view_is
            (scanned_texts (record { recordings = g.R.TextSource.can_fail; certificate = g.C.TextSource.can_fail }) (λ reader. g.R.TextSource.remaining reader) c.inputs.inside.recordings.items recordings certificate
            (g.C.TextSource.remaining c.inputs.inside.order) c.new-placer.result scanned
            (ap (λ given. given.recordings) c.inputs.view_is ∙ e) (ap (λ given. given.certificate) c.inputs.view_is ∙ is) (c.new-placer.ensures.lanes ∙ c.in-Ok-open.ensures.open) (c.new-placer.ensures.pairs ∙ c.new-2.ensures.left)
            c.new-placer.ensures.taken c.new-placer.ensures.place ahead);
        judged = judged;
        reported = reported;
      })
    ]))
