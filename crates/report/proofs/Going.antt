-- Rounds one after another, up to the answer.
use Rattle.std.proofs.Common.{◌≡◌, ◌⊎◌, ◌+◌, ◌∙◌, ℕ, List, [], ◌++◌, Option, Some, None, Result, Ok, Err, length, map, refl, sym, ap, subst, inl, inr, arith, append_assoc}
use Rattle.std.proofs.lemmas.List.{append-nil, length-append}
use Rattle.apex_types.specs.declared.record.Ordered.{Ordered}
use Rattle.apex_machine.specs.Configuration.{Configuration}
use Rattle.apex_machine.specs.Runs.{ArePlaced}
use Rattle.placement.specs.declared.fault.InputFault.{InputFault}
use Rattle.placement.specs.declared.placer.Filled.{Filled}
use Rattle.placement.specs.declared.placer.Filled.TheVariants as filled
use Rattle.placement.specs.Lanes.{IsAhead, IsFilled, Lead, Placing}
use Rattle.placement.specs.Reading.{CanFail}
use Rattle.placement.specs.Scan.{Scan, led_by}
use Rattle.placement.proofs.Ahead.{something_ahead}
use Rattle.user_rules.specs.declared.broken.Broken.{Broken as BrokenView}
use Rattle.user_rules.specs.Remembered.{Requirements, with_kept}
use Rattle.circular_buffer.specs.Buffer.{keep_last}
use Rattle.verdict_merge.specs.declared.breach.Breach.{Breach}
use Rattle.verdict_merge.specs.declared.finding.Refused.{Refused}
use Rattle.verdict_merge.specs.declared.verdict.Verdict.{Verdict}
use Rattle.verdict_merge.specs.declared.verdict.Verdict.TheVariants.{Yes, Broken}
use Rattle.verdict_merge.specs.Rounds.{AllRun, IsRound, IsTested, Judging, cold_parts, parts_of}
use Rattle.verdict_merge.specs.Verdicts.{IsVerdictFrom, ViewsLead, against, no_of}
use Rattle.verdict_merge.specs.Views.{broken_of}
use Rattle.verdict_merge.proofs.Rounds.{all_run_on}
use Rattle.verdict_merge.proofs.Ruled.{ends_here, goes_on_here, lead_on, leads_meet, verdict_on}
use Rattle.report.specs.declared.fault.CheckFault.{CheckFault}
use Rattle.report.specs.declared.fault.CheckFault.TheVariants.{Memory}
use Rattle.report.specs.declared.last.LastItem.{LastItem}
use Rattle.report.specs.Last.{item_of, kept_after_answer, last_of, most_last}
use Rattle.report.specs.Outcome.{IsJudged, answer_with}
use Rattle.report.specs.Rounds.{IsDecided, IsLastAnswer, MayJudge}
use Rattle.report.proofs.LastOnes.{answer_within, kept_is_last, verdict_within}
use Rattle.report.proofs.Rejecting.{leaves_its_piece}

-- one round

-- what decides against a round decides however the input ends
decides_whatever : (first : ℕ) (found : Option Refused) (broken : Option BrokenView) (verdict : Verdict) (end : Result (Unit {0}) InputFault) → against first found broken ≡ Some verdict
    → Ok verdict ≡ answer_with verdict end
decides_whatever first found (Some broken) verdict end is =
    let same : Broken (first + broken.view) broken.rule ≡ verdict = cc in
    subst (λ one. Ok one ≡ answer_with one end) same refl
decides_whatever first (Some found) None verdict end is =
    let same : no_of found ≡ verdict = cc in
    subst (λ one. Ok one ≡ answer_with one end) same refl
decides_whatever first None None verdict end is = let none : ◌≡◌ {A = Option Verdict} None (Some verdict) = is in cc

pub round_decides : (configuration : Configuration) (requirements : Requirements) (judging judged : Judging) (records : List Ordered) (found : Option Refused) (breach : Option Breach)
    → MayJudge configuration judging records → IsRound configuration judging records found judged → IsTested configuration requirements (parts_of judging) records found breach judged.kept
    → (decides : Option Verdict) → decides ≡ against judging.count found (broken_of breach) → IsDecided configuration requirements judging records decides judged
round_decides configuration requirements judging judged records found breach may round tested (Some verdict) is = (
  (λ later. ends_here configuration requirements judging judged records later found breach verdict may.placed round tested (sym is)),
  (λ end. decides_whatever judging.count found (broken_of breach) verdict end (sym is)),
  leaves_its_piece configuration judging judged records found (broken_of breach) verdict round (sym is),
)
round_decides configuration requirements judging judged records found breach may round tested None is =
    let on = goes_on_here configuration requirements judging judged records found breach round tested (sym is) in
    (on.0.0, on.0.1, on.1, on.0.2)

-- the answer over the last records, by what they decide
pub last_decided : (configuration : Configuration) (requirements : Requirements) (judging judged : Judging) (records : List Ordered) (end : Result (Unit {0}) InputFault) (verdict : Verdict)
    → IsDecided configuration requirements judging records (Some verdict) judged → IsLastAnswer configuration requirements judging records end (Ok verdict)
last_decided configuration requirements judging judged records end verdict (over, final, leaves) =
    inr (verdict, subst (λ list. IsVerdictFrom configuration requirements (parts_of judging) judging.count list verdict) (append-nil records) (over []), final end)

pub last_undecided : (configuration : Configuration) (requirements : Requirements) (judging judged : Judging) (records : List Ordered) (end : Result (Unit {0}) InputFault)
    → IsDecided configuration requirements judging records None judged → IsLastAnswer configuration requirements judging records end (answer_with (Yes judged.count) end)
last_undecided configuration requirements judging judged records end (run, counted, meet, ready) =
    inr (Yes judged.count, (omega (arith, counted), (parts_of judged, run), leads_meet configuration requirements (with_kept requirements judged.kept) (parts_of judging) records meet), refl)

-- round after round

pub lead_join : (can_fail : CanFail) (start now next : Placing) (before records : List Ordered) → Lead can_fail start before now → Lead can_fail now records next → Lead can_fail start (before ++ records) next
lead_join can_fail start now next before records first second scanned ahead =
    subst (λ placed. IsAhead can_fail start (record { placed = placed; end = scanned.end })) (sym (append_assoc before records scanned.placed)) (first (led_by records scanned) (second scanned ahead))

-- a round after others is filled as all of them are
pub filled_on : (can_fail : CanFail) (start now next : Placing) (before records : List Ordered) (filled : Filled) → Lead can_fail start before now → IsFilled can_fail now records filled next → IsFilled can_fail start (before ++ records) filled next
filled_on can_fail start now next before records filled.Full lead is = lead_join can_fail start now next before records lead is
filled_on can_fail start now next before records (filled.Ended end) lead is = lead (record { placed = records; end = end }) is
filled_on can_fail start now next before records filled.Memory lead is = tt

-- these records were judged, each of their views meets every relation, and the memories have kept what they keep of them
abbrev pub HoldBefore : Configuration → Requirements → List Ordered → Judging → Type 0
HoldBefore configuration requirements before judging =
    AllRun configuration (cold_parts configuration) before (parts_of judging)
    × ViewsLead configuration requirements (cold_parts configuration) before (with_kept requirements judging.kept) × (judging.count ≡ length before)

-- what is required after these records
abbrev pub required_after : Requirements → Judging → Requirements
required_after requirements judging = with_kept requirements judging.kept

-- the verdict over what is after and what comes
pub over_all : (configuration : Configuration) (requirements : Requirements) (judging : Judging) (before records : List Ordered) (verdict : Verdict) → HoldBefore configuration requirements before judging
    → IsVerdictFrom configuration (required_after requirements judging) (parts_of judging) judging.count records verdict
    → IsVerdictFrom configuration requirements (cold_parts configuration) 0 (before ++ records) verdict
over_all configuration requirements judging before records verdict (run, meet, count) is =
    verdict_on configuration requirements (required_after requirements judging) (cold_parts configuration) (parts_of judging) 0 before records verdict run meet
    (subst (λ n. IsVerdictFrom configuration (required_after requirements judging) (parts_of judging) n records verdict) (let e : judging.count ≡ 0 + length before = omega (arith, count) in e) is)

-- the answer over what is ahead, and the last records before its place
abbrev pub IsReportedOf : CanFail → Configuration → Requirements → Placing → Result Verdict CheckFault → List LastItem → Type 0
IsReportedOf can_fail configuration requirements start answer last =
    (scanned : Scan) × IsAhead can_fail start scanned × IsJudged configuration requirements scanned answer × (last ≡ last_of answer scanned.placed)

-- the answer of a check whose last records are answered so
pub last_on : (can_fail : CanFail) (configuration : Configuration) (requirements : Requirements) (start now : Placing) (judging : Judging) (before records : List Ordered) (end : Result (Unit {0}) InputFault) (answer : Result Verdict CheckFault)
    → IsFilled can_fail start (before ++ records) (filled.Ended end) now → HoldBefore configuration requirements before judging → ArePlaced judging.count records
    → IsLastAnswer configuration (required_after requirements judging) judging records end answer
    → (answer ≡ Err Memory) ⊎ IsReportedOf can_fail configuration requirements start answer (kept_after_answer answer judging.count (keep_last most_last (map item_of before)) records)
last_on can_fail configuration requirements start now judging before records end answer filled those_after placed (inl memory) = inl memory
last_on can_fail configuration requirements start now judging before records end answer filled those_after placed (inr (verdict, is, reported)) =
    inr (
      record { placed = before ++ records; end = end },
      filled,
      (verdict, over_all configuration requirements judging before records verdict those_after is, reported),
      kept_is_last answer judging.count before records [] those_after.2 (answer_within verdict end judging.count records answer reported (verdict_within configuration (required_after requirements judging) (parts_of judging) judging.count records verdict placed is))
          ∙ ap (last_of answer) (append-nil (before ++ records)),
    )

-- the answer of a check in which a round decides
pub decided_on : (can_fail : CanFail) (configuration : Configuration) (requirements : Requirements) (start now : Placing) (judging judged : Judging) (before records : List Ordered) (verdict : Verdict)
    → Lead can_fail start (before ++ records) now → HoldBefore configuration requirements before judging → ArePlaced judging.count records
    → IsDecided configuration (required_after requirements judging) judging records (Some verdict) judged
    → (Ok verdict ≡ Err Memory) ⊎ IsReportedOf can_fail configuration requirements start (Ok verdict) (kept_after_answer (Ok verdict) judging.count (keep_last most_last (map item_of before)) records)
decided_on can_fail configuration requirements start now judging judged before records verdict lead those_after placed (over, final, leaves) =
    let more = something_ahead can_fail now in
    let here = subst (λ list. IsVerdictFrom configuration (required_after requirements judging) (parts_of judging) judging.count list verdict) (append-nil records) (over []) in
    inr (
      led_by (before ++ records) more.0,
      lead more.0 more.1,
      (
        verdict,
        subst (λ list. IsVerdictFrom configuration requirements (cold_parts configuration) 0 list verdict) (sym (append_assoc before records more.0.placed))
            (over_all configuration requirements judging before (records ++ more.0.placed) verdict those_after (over more.0.placed)),
        final more.0.end,
      ),
      kept_is_last (Ok verdict) judging.count before records more.0.placed those_after.2 (verdict_within configuration (required_after requirements judging) (parts_of judging) judging.count records verdict placed here),
    )

-- what is after once a round decided nothing
pub after_on : (configuration : Configuration) (requirements : Requirements) (judging judged : Judging) (before records : List Ordered) → HoldBefore configuration requirements before judging
    → IsDecided configuration (required_after requirements judging) judging records None judged → HoldBefore configuration requirements (before ++ records) judged
after_on configuration requirements judging judged before records (run, meet, count) (more, counted, also, ready) = (
  all_run_on configuration (cold_parts configuration) (parts_of judging) (parts_of judged) before records run more,
  lead_on configuration requirements (required_after requirements judging) (required_after requirements judged) (cold_parts configuration) (parts_of judging) before records run meet also,
  omega (arith, counted, count, length-append before records),
)
