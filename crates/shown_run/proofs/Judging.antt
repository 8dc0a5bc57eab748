-- Rounds one after another, up to the answer.
use Rattle.std.proofs.Common.{◌≡◌, ◌⊎◌, ◌+◌, ◌-◌, ◌++◌, ◌∙◌, ℕ, suc, List, [], ◌∷◌, Option, Some, None, Result, Ok, Err, length, take, refl, sym, ap, subst, inl, inr, arith, append-nil, append_assoc}
use Rattle.std.proofs.lemmas.List.{length-append}
use Rattle.std.proofs.Math.Seq.{take-append_seam, take-length}
use Rattle.std.specs.Prelude.{IfOk, OnOk}
use Rattle.apex_types.specs.declared.record.Ordered.{Ordered}
use Rattle.apex_machine.specs.Configuration.{Configuration}
use Rattle.apex_machine.specs.Pieces.{Part}
use Rattle.apex_machine.specs.Runs.{AreOfCores, ArePlaced}
use Rattle.piece_check.specs.Parts.{Holding}
use Rattle.placement.specs.declared.fault.InputFault.{InputFault}
use Rattle.placement.proofs.Ahead.{something_ahead}
use Rattle.placement.specs.Lanes.{IsAhead, IsFilled, Lead, Placing}
use Rattle.placement.specs.Reading.{CanFail}
use Rattle.placement.specs.Scan.{Scan, led_by}
use Rattle.report.proofs.Going.{HoldBefore, after_on, filled_on, last_decided, last_undecided, over_all, round_decides}
use Rattle.report.proofs.Breaking.{leaves_its_breach, leads_nowhere, still_breaks}
use Rattle.report.proofs.Rejecting.{still_rejects}
use Rattle.report.specs.declared.fault.CheckFault.{CheckFault}
use Rattle.report.specs.declared.fault.CheckFault.TheVariants.{Memory}
use Rattle.report.specs.Outcome.{IsJudged, answer_with}
use Rattle.report.specs.Rounds.{IsDecided, IsLastAnswer}
use Rattle.report.specs.Shown.{StillBreaks, StillRejects}
use Rattle.shown_run.specs.Walks.{EachRuns}
use Rattle.user_rules.specs.declared.memory.Cell.{Cell}
use Rattle.user_rules.specs.Remembered.{Requirements, with_kept}
use Rattle.verdict_merge.proofs.Rounds.{all_run_on, runs_on}
use Rattle.verdict_merge.proofs.Verdicts.{no_at, runs_up_to}
use Rattle.verdict_merge.specs.declared.breach.Breach.{Breach}
use Rattle.verdict_merge.specs.declared.finding.Refused.{Refused}
use Rattle.verdict_merge.specs.declared.verdict.Verdict.{Verdict}
use Rattle.verdict_merge.specs.declared.verdict.Verdict.TheVariants.{Yes, No, Broken}
use Rattle.verdict_merge.specs.Rounds.{AllRun, AreGoing, HaveRunOver, IsRound, IsTested, Runs, cold_parts, parts_in}
use Rattle.verdict_merge.specs.Verdicts.{IsVerdictFrom, ViewsLead, against}
use Rattle.verdict_merge.specs.Views.{broken_of}
use Rattle.shown_run.proofs.UpTo.{take_seam}
use Rattle.shown_run.specs.declared.gathering.Gathering.{Gathering}
use Rattle.shown_run.specs.declared.stretch.Stretch.{Stretch}
use Rattle.shown_run.specs.Kept.{IsKept}
use Rattle.shown_run.specs.Judged.{IsAnswerOf, IsFollowed, IsGatheredOf, IsShownOf, answer_after, filled_of, followed_by, judging_of, judging_with}
use Rattle.shown_run.specs.Stretches.{HaveTaken, IsGathered, accepted, accepted_by, up_to, with_accepted}

-- one round

round_of : (configuration : Configuration) (first : ℕ) (old new : List Holding) (reached kept : List (List Cell)) (records : List Ordered) (found : Option Refused) → HaveRunOver configuration old records found new
    → (found ≡ None → AreGoing configuration (first + length records) new) → IsRound configuration (judging_of first old reached) records found (judging_of (first + length records) new kept)
round_of configuration first old new reached kept records None run going = (run, refl, going refl)
round_of configuration first old new reached kept records (Some found) is_no going = is_no

-- what the records of a round decide
pub judged_round : (configuration : Configuration) (requirements : Requirements) (first : ℕ) (old new : List Holding) (reached kept : List (List Cell)) (records : List Ordered) (found : Option Refused) (breach : Option Breach)
    → AreGoing configuration first old → ArePlaced first records → AreOfCores configuration.cores records → HaveRunOver configuration old records found new
    → IsTested configuration requirements (parts_in old) records found breach kept → (found ≡ None → AreGoing configuration (first + length records) new)
    → (decides : Option Verdict) → decides ≡ against first found (broken_of breach)
    → IsDecided configuration requirements (judging_of first old reached) records decides (judging_of (first + length records) new kept)
judged_round configuration requirements first old new reached kept records found breach ready placed cores outcome tested going decides is =
    round_decides configuration requirements (judging_of first old reached) (judging_of (first + length records) new kept) records found breach (record { ready = ready; placed = placed; cores = cores })
    (round_of configuration first old new reached kept records found outcome going) tested decides is

-- the piece of a No is as it was before the record that it rejects
pub rejects_there : (configuration : Configuration) (requirements : Requirements) (first : ℕ) (old new : List Holding) (reached kept : List (List Cell)) (before records : List Ordered) (verdict : Verdict)
    → AllRun configuration (cold_parts configuration) before (parts_in old) → first ≡ length before → ArePlaced first records
    → IsDecided configuration requirements (judging_of first old reached) records (Some verdict) (judging_of (first + length records) new kept)
    → StillRejects configuration records (Ok verdict) (judging_of first new kept)
rejects_there configuration requirements first old new reached kept before records (Yes count) run many placed decided = tt
rejects_there configuration requirements first old new reached kept before records (Broken pos rule) run many placed decided = tt
rejects_there configuration requirements first old new reached kept before records (No pos piece cause) run many placed decided =
    still_rejects configuration (judging_of first old reached) (judging_of (first + length records) new kept) before records (Ok (No pos piece cause)) run many placed decided.2

-- the breach of a broken rule is of the record at its place
pub breaks_there : (configuration : Configuration) (requirements : Requirements) (first : ℕ) (old new : List Holding) (reached kept : List (List Cell)) (before records : List Ordered) (found : Option Refused) (breach : Option Breach) (verdict : Verdict)
    → AllRun configuration (cold_parts configuration) before (parts_in old) → ViewsLead configuration requirements (cold_parts configuration) before (with_kept requirements reached) → first ≡ length before → ArePlaced first records
    → HaveRunOver configuration old records found new → IsTested configuration (with_kept requirements reached) (parts_in old) records found breach kept → (found ≡ None → AreGoing configuration (first + length records) new)
    → against first found (broken_of breach) ≡ Some verdict → StillBreaks configuration requirements records (Ok verdict) (judging_with first new kept breach)
breaks_there configuration requirements first old new reached kept before records found breach verdict run meet many placed outcome tested going is =
    let counted : first ≡ 0 + length before = omega (arith, many) in
    still_breaks configuration requirements reached (cold_parts configuration) (parts_in old) 0 first before records (Ok verdict) breach kept run meet counted
    (leaves_its_breach configuration (with_kept requirements reached) (judging_of first old reached) (judging_of (first + length records) new kept) records found breach kept verdict placed
    (round_of configuration first old new reached kept records found outcome going) tested is)

-- round after round

-- the answer is that of a check of what is ahead, of which these are the first records; a lack of memory outranks it
abbrev pub IsAnswerAfter : CanFail → Configuration → Requirements → Placing → List Ordered → Result Verdict CheckFault → Type 0
IsAnswerAfter can_fail configuration requirements start records answer =
    (answer ≡ Err Memory)
    ⊎ ((scanned : Scan) × IsAhead can_fail start scanned × IsJudged configuration requirements scanned answer × ((rest : List Ordered) × (scanned.placed ≡ records ++ rest)))

-- the answer of a run in which a round decides and after which the input goes on
decided_answer : (can_fail : CanFail) (configuration : Configuration) (requirements : Requirements) (start now : Placing) (first next : ℕ) (old new : List Holding) (reached kept : List (List Cell)) (before records : List Ordered) (verdict : Verdict)
    → Lead can_fail start (before ++ records) now → HoldBefore configuration requirements before (judging_of first old reached)
    → IsDecided configuration (with_kept requirements reached) (judging_of first old reached) records (Some verdict) (judging_of next new kept)
    → IsAnswerAfter can_fail configuration requirements start (before ++ records) (Ok verdict)
decided_answer can_fail configuration requirements start now first next old new reached kept before records verdict lead hold (over, final, leaves) =
    let more = something_ahead can_fail now in
    inr (
      led_by (before ++ records) more.0,
      lead more.0 more.1,
      (
        verdict,
        subst (λ list. IsVerdictFrom configuration requirements (cold_parts configuration) 0 list verdict) (sym (append_assoc before records more.0.placed))
            (over_all configuration requirements (judging_of first old reached) before (records ++ more.0.placed) verdict hold (over more.0.placed)),
        final more.0.end,
      ),
      (more.0.placed, refl),
    )

-- the answer of a run after whose last records the input ends so
last_answer : (can_fail : CanFail) (configuration : Configuration) (requirements : Requirements) (start now : Placing) (first : ℕ) (old : List Holding) (reached : List (List Cell)) (before records : List Ordered)
    (end : Result (Unit {0}) InputFault) (answer : Result Verdict CheckFault) → IsFilled can_fail start (before ++ records) (filled_of (Some end)) now
    → HoldBefore configuration requirements before (judging_of first old reached)
    → IsLastAnswer configuration (with_kept requirements reached) (judging_of first old reached) records end answer → IsAnswerAfter can_fail configuration requirements start (before ++ records) answer
last_answer can_fail configuration requirements start now first old reached before records end answer filled hold (inl memory) = inl memory
last_answer can_fail configuration requirements start now first old reached before records end answer filled hold (inr (verdict, is, reported)) =
    inr (
      record { placed = before ++ records; end = end },
      filled,
      (verdict, over_all configuration requirements (judging_of first old reached) before records verdict hold is, reported),
      ([], sym (append-nil (before ++ records))),
    )

-- the answer after a round, if there is one
pub round_answer : (can_fail : CanFail) (configuration : Configuration) (requirements : Requirements) (start now : Placing) (first next : ℕ) (old new : List Holding) (reached kept : List (List Cell)) (before records : List Ordered)
    (end : Option (Result (Unit {0}) InputFault)) (decided : Option Verdict) (answer : Result Verdict CheckFault) → answer_after next end decided ≡ Some answer
    → IsFilled can_fail start (before ++ records) (filled_of end) now → HoldBefore configuration requirements before (judging_of first old reached)
    → IsDecided configuration (with_kept requirements reached) (judging_of first old reached) records decided (judging_of next new kept)
    → IsAnswerAfter can_fail configuration requirements start (before ++ records) answer
round_answer can_fail configuration requirements start now first next old new reached kept before records None (Some verdict) answer is filled hold decided =
    let same : Ok verdict ≡ answer = cc in
    subst (IsAnswerAfter can_fail configuration requirements start (before ++ records)) same
    (decided_answer can_fail configuration requirements start now first next old new reached kept before records verdict filled hold decided)
round_answer can_fail configuration requirements start now first next old new reached kept before records (Some end) (Some verdict) answer is filled hold decided =
    let same : Ok verdict ≡ answer = cc in
    subst (IsAnswerAfter can_fail configuration requirements start (before ++ records)) same
    (last_answer can_fail configuration requirements start now first old reached before records end (Ok verdict) filled hold
    (last_decided configuration (with_kept requirements reached) (judging_of first old reached) (judging_of next new kept) records end verdict decided))
round_answer can_fail configuration requirements start now first next old new reached kept before records (Some end) None answer is filled hold decided =
    let same : answer_with (Yes next) end ≡ answer = cc in
    subst (IsAnswerAfter can_fail configuration requirements start (before ++ records)) same
    (last_answer can_fail configuration requirements start now first old reached before records end (answer_with (Yes next) end) filled hold
    (last_undecided configuration (with_kept requirements reached) (judging_of first old reached) (judging_of next new kept) records end decided))
round_answer can_fail configuration requirements start now first next old new reached kept before records None None answer is filled hold decided =
    let none : ◌≡◌ {A = Option (Result Verdict CheckFault)} None (Some answer) = is in cc

-- it is that of a check of what is ahead
pub answer_ahead : (can_fail : CanFail) (configuration : Configuration) (requirements : Requirements) (start : Placing) (records : List Ordered) (answer : Result Verdict CheckFault)
    → IsAnswerAfter can_fail configuration requirements start records answer → IsAnswerOf can_fail configuration requirements start answer
answer_ahead can_fail configuration requirements start records answer (inl memory) = inl memory
answer_ahead can_fail configuration requirements start records answer (inr (scanned, ahead, judged, split)) = inr (scanned, ahead, judged)

-- a run goes on only where the input does and nothing decides
pub goes_on : (next : ℕ) (end : Option (Result (Unit {0}) InputFault)) (decided : Option Verdict) → answer_after next end decided ≡ None → (end ≡ None) × (decided ≡ None)
goes_on next end (Some verdict) is = let none : ◌≡◌ {A = Option (Result Verdict CheckFault)} (Some (Ok verdict)) None = is in cc
goes_on next (Some end) None is = let none : ◌≡◌ {A = Option (Result Verdict CheckFault)} (Some (answer_with (Yes next) end)) None = is in cc
goes_on next None None is = (refl, refl)

-- where nothing decides, the pieces may judge what comes next
pub ready_on : (configuration : Configuration) (requirements : Requirements) (first next : ℕ) (old new : List Holding) (reached kept : List (List Cell)) (records : List Ordered) (decided : Option Verdict)
    → decided ≡ None → IsDecided configuration requirements (judging_of first old reached) records decided (judging_of next new kept) → AreGoing configuration next new
ready_on configuration requirements first next old new reached kept records None none (run, counted, meet, ready) = ready
ready_on configuration requirements first next old new reached kept records (Some verdict) none is = let some : ◌≡◌ {A = Option Verdict} (Some verdict) None = none in absurd cc

-- before the first record

pub hold_nothing : (configuration : Configuration) (requirements : Requirements) (holdings : List Holding) (kept : List (List Cell)) → AllRun configuration (cold_parts configuration) [] (parts_in holdings)
    → kept ≡ requirements.kept → HoldBefore configuration requirements [] (judging_of 0 holdings kept)
hold_nothing configuration requirements holdings kept run is = (
  run,
  subst (λ keeps. ViewsLead configuration requirements (cold_parts configuration) [] (with_kept requirements keeps)) (sym is) (leads_nowhere configuration requirements (cold_parts configuration)),
  refl,
)

-- after a round that decides nothing

pub lead_on : (can_fail : CanFail) (start now next : Placing) (before records : List Ordered) (end : Option (Result (Unit {0}) InputFault)) → end ≡ None → Lead can_fail start before now
    → IsFilled can_fail now records (filled_of end) next → Lead can_fail start (before ++ records) next
lead_on can_fail start now next before records end none lead filled =
    filled_on can_fail start now next before records (filled_of None) lead (subst (λ one. IsFilled can_fail now records (filled_of one) next) none filled)

pub hold_on : (configuration : Configuration) (requirements : Requirements) (first next : ℕ) (old new : List Holding) (reached kept : List (List Cell)) (before records : List Ordered) (decided : Option Verdict) → decided ≡ None
    → next ≡ first + length records → HoldBefore configuration requirements before (judging_of first old reached)
    → IsDecided configuration (with_kept requirements reached) (judging_of first old reached) records decided (judging_of (first + length records) new kept) → HoldBefore configuration requirements (before ++ records) (judging_of next new kept)
hold_on configuration requirements first next old new reached kept before records decided none reaches hold is =
    subst (λ place. HoldBefore configuration requirements (before ++ records) (judging_of place new kept)) (sym reaches)
    (after_on configuration requirements (judging_of first old reached) (judging_of (first + length records) new kept) before records hold
    (subst (λ one. IsDecided configuration (with_kept requirements reached) (judging_of first old reached) records one (judging_of (first + length records) new kept)) none is))

-- what holds of an answer holds of that of a run that is followed
pub is_followed : (Stop : Type 0) (can_fail : CanFail) (configuration : Configuration) (requirements : Requirements) (start : Placing) (answer : Result Verdict CheckFault)
    → IsAnswerOf can_fail configuration requirements start answer → IsFollowed {Stop = Stop} can_fail configuration requirements start (followed_by answer)
is_followed Stop can_fail configuration requirements start (Ok verdict) is = is
is_followed Stop can_fail configuration requirements start (Err fault) is = is

-- what holds whatever comes of a call holds if it comes to an end
pub whenever : {A E : Type 0} (result : Result A E) (Fact : Type 0) → Fact → OnOk result Fact
whenever (Ok value) Fact is = is
whenever (Err fault) Fact is = tt

-- what three facts give together that hold if a call comes to an end
pub on_three : {A E : Type 0} {First Second Third Fact : Type 0} (result : Result A E) → OnOk result First → OnOk result Second → OnOk result Third → (First → Second → Third → Fact) → OnOk result Fact
on_three (Ok value) first second third gives = gives first second third
on_three (Err fault) first second third gives = tt

-- what the pieces have run over after a verdict
accepted_run : (configuration : Configuration) (requirements : Requirements) (first : ℕ) (old : List Holding) (reached : List (List Cell)) (before records : List Ordered) (verdict : Verdict)
    → HoldBefore configuration requirements before (judging_of first old reached) → ArePlaced first records → IsVerdictFrom configuration (with_kept requirements reached) (parts_in old) first records verdict
    → EachRuns configuration (cold_parts configuration) (before ++ take (accepted_by (length before) (length records) (Some verdict)) records)
accepted_run configuration requirements first old reached before records (Yes all) hold placed is = λ number within.
    subst (λ (list : List Ordered). Runs configuration (cold_parts configuration) number (before ++ list)) (sym (take-length records))
    (runs_on configuration (cold_parts configuration) (parts_in old) number before records (hold.0 number within) (is.1.0 number, is.1.1 number within))
accepted_run configuration requirements first old reached before records (No pos piece cause) hold placed (shown, meet) =
    let found : Refused = record { pos = pos; piece = piece; cause = cause } in
    let at = no_at configuration (parts_in old) first records found placed shown in
    let many : pos - length before ≡ length shown.before = omega (arith, at, hold.2) in
    let front : take (pos - length before) records ≡ shown.before =
    ap (λ n. take n records) many ∙ ap (λ (list : List Ordered). take (length shown.before) list) shown.split ∙ take-append_seam shown.before (shown.ordered ∷ shown.after) in
    λ number within. subst (λ (list : List Ordered). Runs configuration (cold_parts configuration) number (before ++ list)) (sym front)
    (runs_on configuration (cold_parts configuration) (parts_in old) number before shown.before (hold.0 number within) (runs_up_to configuration (parts_in old) records found shown number within))
accepted_run configuration requirements first old reached before records (Broken pos rule) hold placed is =
    let many : suc (pos - length before) ≡ length is.through = omega (arith, is.place, is.last, hold.2) in
    let front : take (suc (pos - length before)) records ≡ is.through =
    ap (λ n. take n records) many ∙ ap (λ (list : List Ordered). take (length is.through) list) is.split ∙ take-append_seam is.through is.after in
    λ number within. subst (λ (list : List Ordered). Runs configuration (cold_parts configuration) number (before ++ list)) (sym front)
    (runs_on configuration (cold_parts configuration) (parts_in old) number before is.through (hold.0 number within) (is.runs number within))

-- the records that a run accepts whose round has this verdict
accepted_of : (configuration : Configuration) (requirements : Requirements) (first : ℕ) (parts : ℕ → Part) (before records rest : List Ordered) (verdict : Verdict)
    → first ≡ length before → ArePlaced first records → IsVerdictFrom configuration requirements parts first records verdict
    → take (accepted verdict) ((before ++ records) ++ rest) ≡ with_accepted before records (Some verdict)
accepted_of configuration requirements first parts before records rest (Yes all) counted placed is =
    take_seam before records rest all (length records) (omega (arith, is.0, counted)) (omega (arith, is.0, counted)) (omega (arith, is.0, counted))
accepted_of configuration requirements first parts before records rest (No pos piece cause) counted placed (shown, meet) =
    let at = no_at configuration parts first records (record { pos = pos; piece = piece; cause = cause }) placed shown in
    let size = ap length shown.split ∙ length-append shown.before (shown.ordered ∷ shown.after) in
    take_seam before records rest pos (pos - length before) (omega (arith, at, counted)) (omega (arith, at, size, counted)) refl
accepted_of configuration requirements first parts before records rest (Broken pos rule) counted placed is =
    let size = ap length is.split ∙ length-append is.through is.after in
    take_seam before records rest (suc pos) (suc (pos - length before)) (omega (arith, is.place, counted)) (omega (arith, is.place, is.last, size, counted)) (omega (arith, is.place, counted))

-- what is gathered of a run whose answer is known after a round
shown_after : (can_fail : CanFail) (configuration : Configuration) (requirements : Requirements) (start : Placing) (through : List Ordered) (answer : Result Verdict CheckFault) (gathering : Gathering)
    → ((rest : List Ordered) → IfOk answer (λ verdict. IsGathered configuration (take (accepted verdict) (through ++ rest)) gathering))
    → IsAnswerAfter can_fail configuration requirements start through answer → IsGatheredOf can_fail configuration requirements start answer gathering
shown_after can_fail configuration requirements start through answer gathering are (inl memory) = inl memory
shown_after can_fail configuration requirements start through answer gathering are (inr (scanned, ahead, judged, split)) =
    inr (scanned, ahead, judged, subst (λ list. IfOk answer (λ verdict. IsGathered configuration (take (accepted verdict) list) gathering)) (sym split.1) (are split.0))

-- the same after a round whose accepted records were gathered
pub round_shown : (can_fail : CanFail) (configuration : Configuration) (requirements : Requirements) (start : Placing) (first next : ℕ) (old new : List Holding) (reached kept : List (List Cell)) (before records : List Ordered)
    (end : Option (Result (Unit {0}) InputFault)) (decided : Option Verdict) (answer : Result Verdict CheckFault) (gathering : Gathering) → answer_after next end decided ≡ Some answer → next ≡ first + length records
    → HoldBefore configuration requirements before (judging_of first old reached) → ArePlaced first records
    → IsDecided configuration (with_kept requirements reached) (judging_of first old reached) records decided (judging_of next new kept)
    → IsGathered configuration (with_accepted before records decided) gathering
    → IsAnswerAfter can_fail configuration requirements start (before ++ records) answer → IsGatheredOf can_fail configuration requirements start answer gathering
round_shown can_fail configuration requirements start first next old new reached kept before records end (Some verdict) answer gathering is reaches hold placed (over, final, leaves) are answered =
    let same : Ok verdict ≡ answer = cc in
    let here = subst (λ list. IsVerdictFrom configuration (with_kept requirements reached) (parts_in old) first list verdict) (append-nil records) (over []) in
    shown_after can_fail configuration requirements start (before ++ records) answer gathering
    (λ rest. subst (λ one. IfOk one (λ found. IsGathered configuration (take (accepted found) ((before ++ records) ++ rest)) gathering)) same
    (subst (λ list. IsGathered configuration list gathering) (sym (accepted_of configuration (with_kept requirements reached) first (parts_in old) before records rest verdict hold.2 placed here)) are)) answered
round_shown can_fail configuration requirements start first next old new reached kept before records (Some (Ok ended)) None answer gathering is reaches hold placed decided are answered =
    let same : answer_with (Yes next) (Ok ended) ≡ answer = cc in
    shown_after can_fail configuration requirements start (before ++ records) answer gathering
    (λ rest. subst (λ one. IfOk one (λ found. IsGathered configuration (take (accepted found) ((before ++ records) ++ rest)) gathering)) same
    (subst (λ list. IsGathered configuration list gathering)
    (sym (take_seam before records rest next (length records) (omega (arith, reaches, hold.2)) (omega (arith, reaches, hold.2)) (omega (arith, reaches, hold.2)))) are)) answered
round_shown can_fail configuration requirements start first next old new reached kept before records (Some (Err fault)) None answer gathering is reaches hold placed decided are answered =
    let same : answer_with (Yes next) (Err fault) ≡ answer = cc in
    shown_after can_fail configuration requirements start (before ++ records) answer gathering
    (λ rest. subst (λ one. IfOk one (λ found. IsGathered configuration (take (accepted found) ((before ++ records) ++ rest)) gathering)) same tt) answered
round_shown can_fail configuration requirements start first next old new reached kept before records None None answer gathering is reaches hold placed decided are answered =
    let none : ◌≡◌ {A = Option (Result Verdict CheckFault)} None (Some answer) = is in cc

-- the stretch that is cut from what was gathered of a run
pub stretch_shown : (can_fail : CanFail) (configuration : Configuration) (requirements : Requirements) (start : Placing) (at : Option ℕ) (verdict : Verdict) (gathering : Gathering) (stretch : Stretch) → gathering.asked.at ≡ at
    → ((taken : List Ordered) → IsGathered configuration taken gathering → IsKept configuration (up_to gathering.asked.at taken) stretch.before stretch.kept.items)
    → IsGatheredOf can_fail configuration requirements start (Ok verdict) gathering → IsShownOf can_fail configuration requirements start at (Ok (verdict, stretch))
stretch_shown can_fail configuration requirements start at verdict gathering stretch is kept (inl memory) = absurd cc
stretch_shown can_fail configuration requirements start at verdict gathering stretch is kept (inr (scanned, ahead, judged, are)) =
    let all = take (accepted verdict) scanned.placed in
    inr (scanned, ahead, judged, subst (λ one. IsKept configuration (up_to one all) stretch.before stretch.kept.items) is (kept all are))

-- what the pieces have taken after a round
pub have_taken : (configuration : Configuration) (requirements : Requirements) (first : ℕ) (old new : List Holding) (reached kept : List (List Cell)) (before records : List Ordered) (decided : Option Verdict)
    → HoldBefore configuration requirements before (judging_of first old reached) → ArePlaced first records
    → IsDecided configuration (with_kept requirements reached) (judging_of first old reached) records decided (judging_of (first + length records) new kept) → HaveTaken configuration before records decided new
have_taken configuration requirements first old new reached kept before records None hold placed (run, counted, meet, ready) = (
  all_run_on configuration (cold_parts configuration) (parts_in old) (parts_in new) before records hold.0 run,
  subst (λ place. AreGoing configuration (place + length records) new) hold.2 ready,
)
have_taken configuration requirements first old new reached kept before records (Some verdict) hold placed (over, final, leaves) =
    accepted_run configuration requirements first old reached before records verdict hold placed
    (subst (λ (list : List Ordered). IsVerdictFrom configuration (with_kept requirements reached) (parts_in old) first list verdict) (append-nil records) (over []))
