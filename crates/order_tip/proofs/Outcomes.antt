-- What is proposed is the outcome of a check.
use Rattle.std.proofs.Common.{◌≡◌, ◌∙◌, ℕ, zero, suc, List, [], ◌∷◌, Some, None, Result, Ok, false, length, refl, sym, ap, subst, inr}
use mathlib.Core.Path.{fun_ext}
use Rattle.order_cert.specs.declared.fault.CertFault.TheVariants as cert
use Rattle.order_cert.specs.Kept.{none_taken}
use Rattle.order_cert.specs.Row.{pairs_of}
use Rattle.placement.specs.Lanes.{IsScanOf}
use Rattle.placement.specs.Reading.{CanFail}
use Rattle.placement.specs.Scan.{Scan, scan}
use Rattle.placement.proofs.Readings.{reads_all}
use Rattle.record_read.specs.declared.fault.RowFault.TheVariants as row
use Rattle.verdict_merge.specs.declared.verdict.Verdict.{Verdict}
use Rattle.report.specs.declared.fault.CheckFault.{CheckFault}
use Rattle.report.specs.Inputs.{items_at, whole}
use Rattle.report.specs.Last.{last_of}
use Rattle.report.specs.Outcome.{IsJudged, IsOutcomeBy, IsOutcomeWith, answer_with}
use Rattle.report.proofs.Lawful.{no_means, yes_means}
use Rattle.report.proofs.Whole.{outcome_under}
use Rattle.order_run.specs.declared.proposal.Proposal.{Proposal}
use Rattle.order_run.specs.declared.proposal.Proposal.TheVariants.{Found, NotFound}
use Rattle.order_run.specs.Left.{items_at as items_read_at}
use Rattle.order_run.specs.Proposal.{verdict_of}
use Rattle.order_tip.specs.Outcome.{ProposalIsTheOutcome}

-- both read the same items
items_same : (texts : List (List ℕ)) (core : ℕ) → items_read_at texts core ≡ items_at texts core
items_same [] core = refl
items_same (text ∷ texts) zero = refl
items_same (text ∷ texts) (suc core) = items_same texts core

-- no reader fails
abbrev never : CanFail
never = record { recordings = false; certificate = false }

-- a Yes needs an input without a fault; a No and a broken rule do not
answers : (proposal : Proposal) → ◌≡◌ {A = Result Verdict CheckFault} (Ok (verdict_of proposal)) (answer_with (verdict_of proposal) (Ok tt))
answers (Found records None) = refl
answers (Found records (Some one)) = refl
answers (NotFound refused None) = refl
answers (NotFound refused (Some one)) = refl

pub proposal_is_the_outcome : ProposalIsTheOutcome
proposal_is_the_outcome settings configuration requirements texts proposal sound read count is =
    let scanned : Scan = record { placed = is.records; end = Ok tt } in
    let scans : scan (length texts.recordings) none_taken 0 (items_at texts.recordings) (pairs_of texts.certificate) ≡ scanned =
    ap (λ cores. scan cores none_taken 0 (items_at texts.recordings) (pairs_of texts.certificate)) count
    ∙ ap (λ items. scan configuration.cores none_taken 0 items (pairs_of texts.certificate)) (sym (fun_ext (items_same texts.recordings))) ∙ is.placed in
    let judged : IsJudged configuration requirements scanned (Ok (verdict_of proposal)) = (verdict_of proposal, is.verdict, answers proposal) in
    let scan_is : IsScanOf never (length texts.recordings) none_taken 0 (items_at texts.recordings) (pairs_of texts.certificate) scanned =
    (items_at texts.recordings, pairs_of texts.certificate, (λ core. reads_all false row.Read (items_at texts.recordings core)), reads_all false cert.Read (pairs_of texts.certificate), scans) in (
      inr (subst (λ found. IsOutcomeWith found texts whole requirements (Ok (verdict_of proposal))) (sym sound)
          (subst (λ one. IsOutcomeBy one texts whole requirements (Ok (verdict_of proposal))) (sym read)
          (outcome_under configuration texts whole requirements (Ok (verdict_of proposal)) scanned count scans judged))),
      yes_means never texts requirements configuration scanned read count scan_is (verdict_of proposal) (Ok (verdict_of proposal)) is.yes (answers proposal),
      (no_means never texts requirements configuration scanned read count scan_is (verdict_of proposal) (Ok (verdict_of proposal)) (last_of (Ok (verdict_of proposal)) is.records) is.no (answers proposal) refl).0,
    )
