-- How a run goes on.
use Rattle.std.proofs.Common.{◌≡◌, ◌<◌, ◌≤◌, ◌+◌, ◌∙◌, ℕ, suc, List, [], ◌∷◌, ◌++◌, length, Option, Some, None, Result, Ok, Err, refl, sym, ap, subst, arith, append_assoc, append-nil, length-append}
use Rattle.std.specs.Prelude.{IfOk, IfSome, false, true, is_some}
use Rattle.std.proofs.lemmas.Bool.{false≢true, true≢false}
use Rattle.apex_machine.specs.Configuration.{Configuration}
use Rattle.apex_machine.specs.Pieces.{Part, pieces}
use Rattle.apex_machine.specs.Runs.{ArePlaced, AreOfCores}
use Rattle.apex_types.specs.declared.limits.TheConstants.{PLACE_COUNT}
use Rattle.apex_types.specs.declared.record.Ordered.{Ordered}
use Rattle.apex_types.specs.declared.record.Pair.{Pair}
use Rattle.apex_types.specs.declared.record.Record.{Record}
use Rattle.order_cert.specs.Kept.{Follows, place_of, taken_of}
use Rattle.order_cert.specs.Order.{misplaced, pair_of}
use Rattle.placement.specs.Scan.{placed_at}
use Rattle.placement.proofs.Refusal.{IsWhy, why}
use Rattle.user_rules.specs.declared.memory.Cell.{Cell}
use Rattle.user_rules.specs.declared.memory.RuleMemory.{RuleMemory}
use Rattle.user_rules.specs.declared.relation.Relation.{Relation}
use Rattle.user_rules.specs.Remembered.{Requirements, required_by, with_kept}
use Rattle.verdict_merge.specs.declared.breach.Breach.{Breach}
use Rattle.verdict_merge.specs.declared.finding.Refused.{Refused}
use Rattle.verdict_merge.specs.declared.verdict.Verdict.{Verdict}
use Rattle.verdict_merge.specs.declared.verdict.Verdict.TheVariants.{Yes, Broken}
use Rattle.verdict_merge.specs.Rounds.{IsReady, IsRound, IsTested, Judging, cold_parts, parts_of}
use Rattle.verdict_merge.specs.Verdicts.{IsVerdict, IsVerdictFrom, MeetAndLead, ViewsLead, against, no_of}
use Rattle.verdict_merge.specs.Views.{broken_of}
use Rattle.verdict_merge.proofs.Rounds.{all_run_on}
use Rattle.verdict_merge.proofs.Ruled.{breach_within, ends_here, goes_on_here, lead_on, leads_meet, no_here, verdict_on}
use Rattle.order_run.specs.declared.base.Judgement.{Judgement}
use Rattle.order_run.specs.declared.proposal.BrokenRule.{BrokenRule}
use Rattle.order_run.specs.declared.proposal.Proposal.TheVariants.{Found, NotFound}
use Rattle.order_run.specs.Proposal.{verdict_of}
use Rattle.order_run.specs.declared.run.Run.{Run}
use Rattle.order_run.specs.Rows.{row_of}
use Rattle.order_run.specs.UnderWay.{AllFit, HasPut, HaveJudged, HaveTested, first_broken}
use Rattle.order_run.proofs.Text.{rows_push}

-- one record more at its place
placed_push : (place : ℕ) (records : List Ordered) (ordered : Ordered) → ArePlaced place records → ordered.pos ≡ place + length records → ArePlaced place (records ++ ordered ∷ [])
placed_push place [] ordered placed is = (omega (arith, is), tt)
placed_push place (one ∷ records) ordered (here, placed) is = (here, placed_push (suc place) records ordered placed (omega (arith, is)))

of_cores_push : (cores : ℕ) (records : List Ordered) (ordered : Ordered) → AreOfCores cores records → ordered.core < cores → AreOfCores cores (records ++ ordered ∷ [])
of_cores_push cores [] ordered of_cores within = (within, tt)
of_cores_push cores (one ∷ records) ordered (here, of_cores) within = (here, of_cores_push cores records ordered of_cores within)

placed_after : (place : ℕ) (front back : List Ordered) → ArePlaced place (front ++ back) → ArePlaced (place + length front) back
placed_after place [] back placed = subst (λ n. ArePlaced n back) (let e : place ≡ place + 0 = omega arith in e) placed
placed_after place (one ∷ front) back (here, placed) =
    subst (λ n. ArePlaced n back) (let e : suc place + length front ≡ place + suc (length front) = omega arith in e) (placed_after (suc place) front back placed)

-- the records of a round are placed after those that were judged
pub round_placed : (configuration : Configuration) (requirements : Requirements) (run : Run) (settled waiting : List Pair) (before : List Ordered) → HasPut configuration requirements run settled waiting before
    → ArePlaced (length before) run.round.items
round_placed configuration requirements run settled waiting before so_far =
    subst (λ n. ArePlaced n run.round.items) (let e : 0 + length before ≡ length before = omega arith in e) (placed_after 0 before run.round.items so_far.placed)

-- no records change what is required
leads_nowhere : (configuration : Configuration) (memories : List RuleMemory) (kept : List (List Cell)) (relations : List Relation)
    → MeetAndLead configuration memories kept relations (cold_parts configuration) [] (record { memories = memories; kept = kept; relations = relations })
leads_nowhere configuration memories kept [] = refl
leads_nowhere configuration memories kept (relation ∷ relations) = ([], refl, (λ index one within. absurd (omega (arith, within))), refl)

-- no view of no record breaks a rule
none_tested : (configuration : Configuration) (requirements : Requirements) (kept : List (List Cell)) → kept ≡ requirements.kept → HaveTested configuration requirements [] None None kept
none_tested configuration requirements kept is =
    subst (λ keeps. ViewsLead configuration requirements (cold_parts configuration) [] (with_kept requirements keeps)) (sym is)
    (leads_nowhere configuration requirements.memories requirements.kept requirements.relations)

-- before the first record
pub begun : (configuration : Configuration) (requirements : Requirements) (run : Run) → run.keeper.cores ≡ configuration.cores → Follows run.keeper [] → place_of run.keeper ≡ 0
    → run.text.items ≡ [] → run.round.items ≡ [] → run.refused ≡ None → run.broken ≡ None → IsReady configuration run.base
    → ((number : ℕ) → number < length (pieces configuration) → parts_of run.base number ≡ cold_parts configuration number) → run.base.count ≡ 0 → run.base.kept ≡ requirements.kept
    → HasPut configuration requirements run [] [] []
begun configuration requirements run cores follows place text round refused broken ready cold count kept = record {
  cores = cores;
  follows = follows;
  few = omega arith;
  fit = tt;
  text = text;
  place = omega (arith, place, ap length round);
  placed = subst (ArePlaced 0) (sym round) tt;
  of_cores = subst (AreOfCores configuration.cores) (sym round) tt;
  judged = subst (λ found. HaveJudged configuration [] found run.base) (sym refused) (ready, cold, count);
  tested = rw (refused, broken) (none_tested configuration requirements run.base.kept kept);
}

all_fit_push : (pairs : List Pair) (pair : Pair) → AllFit pairs → pair.core ≤ 0xFFFFFFFF → pair.seq ≤ 0xFFFFFFFF → AllFit (pairs ++ pair ∷ [])
all_fit_push [] pair fit core seq = (core, seq, tt)
all_fit_push (one ∷ pairs) pair (here, also, fit) core seq = (here, also, all_fit_push pairs pair fit core seq)

-- a record is put next
pub put_on : (configuration : Configuration) (requirements : Requirements) (old new : Run) (settled waiting : List Pair) (before : List Ordered) (core : ℕ) (rec : Record)
    → HasPut configuration requirements old settled waiting before → new.keeper.cores ≡ old.keeper.cores → core < old.keeper.cores → core ≤ 0xFFFFFFFF
    → misplaced old.keeper.cores (taken_of old.keeper) (pair_of core (taken_of old.keeper core)) ≡ None
    → ((pairs : List Pair) → Follows old.keeper pairs → length pairs < PLACE_COUNT)
    → place_of new.keeper ≡ suc (place_of old.keeper)
    → ((pairs : List Pair) → Follows old.keeper pairs → Follows new.keeper (pairs ++ pair_of core (taken_of old.keeper core) ∷ []))
    → new.text.items ≡ old.text.items ++ row_of (pair_of core (taken_of old.keeper core))
    → new.round.items ≡ old.round.items ++ placed_at (place_of old.keeper) core rec ∷ []
    → new.refused ≡ old.refused → new.broken ≡ old.broken → new.base ≡ old.base
    → HasPut configuration requirements new settled (waiting ++ pair_of core (taken_of old.keeper core) ∷ []) before
put_on configuration requirements old new settled waiting before core rec so_far cores within small fits few place follows text round refused broken base =
    let pair : Pair = pair_of core (taken_of old.keeper core) in
    let fitting = subst (IsWhy old.keeper.cores (taken_of old.keeper) pair) fits (why old.keeper.cores (taken_of old.keeper) pair) in
    record {
      cores = cores ∙ so_far.cores;
      follows = subst (Follows new.keeper) (append_assoc settled waiting (pair ∷ [])) (follows (settled ++ waiting) so_far.follows);
      few = omega (arith, few (settled ++ waiting) so_far.follows, ap length (append_assoc settled waiting (pair ∷ [])), length-append (settled ++ waiting) (pair ∷ []));
      fit = subst AllFit (append_assoc settled waiting (pair ∷ [])) (all_fit_push (settled ++ waiting) pair so_far.fit small (omega (arith, fitting.below)));
      text = text ∙ ap (λ rows. rows ++ row_of pair) so_far.text ∙ sym (rows_push waiting pair);
      place = omega (arith, place, so_far.place, ap length round, length-append old.round.items (placed_at (place_of old.keeper) core rec ∷ []));
      placed = subst (λ records. ArePlaced 0 (before ++ records)) (sym round)
          (subst (ArePlaced 0) (append_assoc before old.round.items (placed_at (place_of old.keeper) core rec ∷ []))
          (placed_push 0 (before ++ old.round.items) (placed_at (place_of old.keeper) core rec) so_far.placed
          (omega (arith, so_far.place, length-append before old.round.items))));
      of_cores = subst (AreOfCores configuration.cores) (sym round)
          (of_cores_push configuration.cores old.round.items (placed_at (place_of old.keeper) core rec) so_far.of_cores (subst (λ n. core < n) so_far.cores within));
      judged = subst (λ found. HaveJudged configuration before found new.base) (sym refused) (subst (HaveJudged configuration before old.refused) (sym base) so_far.judged);
      tested = subst (λ found. HaveTested configuration requirements before found new.broken new.base.kept) (sym refused)
          (subst (λ one. HaveTested configuration requirements before old.refused one new.base.kept) (sym broken)
          (subst (λ (judging : Judging). HaveTested configuration requirements before old.refused old.broken judging.kept) (sym base) so_far.tested));
    }

-- the records of a round are judged
pub round_judged : (configuration : Configuration) (before round : List Ordered) (found : Option Refused) (old new : Judging)
    → HaveJudged configuration before None old → ArePlaced (length before) round → IsRound configuration old round found new
    → HaveJudged configuration (before ++ round) found new
round_judged configuration before round None old new (ready, run, count) placed (more, counted, now_ready) = (
  now_ready,
  all_run_on configuration (cold_parts configuration) (parts_of old) (parts_of new) before round run more,
  omega (arith, counted, count, length-append before round),
)
round_judged configuration before round (Some found) old new (ready, run, count) placed refusal = λ later.
    subst (λ records. IsVerdict configuration (required_by [] []) records (no_of found)) (sym (append_assoc before round later))
    (verdict_on configuration (required_by [] []) (required_by [] []) (cold_parts configuration) (parts_of old) 0 before (round ++ later) (no_of found) run refl
    (subst (λ count. IsVerdictFrom configuration (required_by [] []) (parts_of old) count (round ++ later) (no_of found)) (let e : length before ≡ 0 + length before = omega arith in e)
    (no_here configuration (required_by [] []) (parts_of old) (length before) round later found placed refusal.0 tt)))

-- once a record was refused nothing more is judged
pub still_refused : (configuration : Configuration) (before round : List Ordered) (found : Refused) (old new : Judging)
    → HaveJudged configuration before (Some found) old → HaveJudged configuration (before ++ round) (Some found) new
still_refused configuration before round found old new judged = λ later.
    subst (λ records. IsVerdict configuration (required_by [] []) records (no_of found)) (sym (append_assoc before round later)) (judged (round ++ later))

-- the views of a round are tested, if no rule is broken so far
round_tested : (configuration : Configuration) (requirements : Requirements) (before round : List Ordered) (found : Option Refused) (breach : Option Breach) (old new : Judging)
    → HaveJudged configuration before None old → HaveTested configuration requirements before None None old.kept → ArePlaced (length before) round
    → IsRound configuration old round found new → IsTested configuration (with_kept requirements old.kept) (parts_of old) round found breach new.kept
    → HaveTested configuration requirements (before ++ round) found (first_broken None (length before) breach) new.kept
round_tested configuration requirements before round found breach old new (ready, run, count) meet placed is_round tested =
    by found breach is_round tested
  where
    here : Requirements
    here = with_kept requirements old.kept

    -- the verdict that ends the round is the verdict over all the records so far, whichever follow
    over : (found : Option Refused) (breach : Option Breach) (verdict : Verdict) → IsRound configuration old round found new → IsTested configuration here (parts_of old) round found breach new.kept
        → against (length before) found (broken_of breach) ≡ Some verdict → (later : List Ordered) → IsVerdict configuration requirements ((before ++ round) ++ later) verdict
    over found breach verdict is_round tested decides later =
        subst (λ records. IsVerdict configuration requirements records verdict) (sym (append_assoc before round later))
        (verdict_on configuration requirements here (cold_parts configuration) (parts_of old) 0 before (round ++ later) verdict run meet
        (subst (λ place. IsVerdictFrom configuration here (parts_of old) place (round ++ later) verdict) (let e : old.count ≡ 0 + length before = omega (arith, count) in e)
        (ends_here configuration here old new round later found breach verdict (subst (λ place. ArePlaced place round) (sym count) placed) is_round tested
        (ap (λ place. against place found (broken_of breach)) count ∙ decides))))

    by : (found : Option Refused) (breach : Option Breach) → IsRound configuration old round found new → IsTested configuration here (parts_of old) round found breach new.kept
        → HaveTested configuration requirements (before ++ round) found (first_broken None (length before) breach) new.kept
    by found (Some breach) is_round tested = over found (Some breach) (Broken (length before + breach.seen.index) breach.rule) is_round tested refl
    by (Some refused) None is_round tested = over (Some refused) None (no_of refused) is_round tested refl
    by None None is_round tested =
        let on = goes_on_here configuration here old new round None None is_round tested refl in
        lead_on configuration requirements here (with_kept requirements new.kept) (cold_parts configuration) (parts_of old) before round run meet on.1

-- the view that breaks a rule is one of the round's
pub tested_within : {E : Type 0} (configuration : Configuration) (requirements : Requirements) (parts : ℕ → Part) (records : List Ordered) (result : Result Judgement E) (kept : List (List Cell))
    → IfOk result (λ judged. IsTested configuration requirements parts records judged.refused judged.breach kept)
    → IfOk result (λ judged. IfSome judged.breach (λ one. one.seen.index < length records))
tested_within configuration requirements parts records (Ok judged) kept tested = breach_within configuration requirements parts records judged.refused judged.breach kept tested
tested_within configuration requirements parts records (Err fault) kept tested = tt

-- the first rule that is broken stays so
still_broken : (configuration : Configuration) (requirements : Requirements) (before round : List Ordered) (refused found : Option Refused) (broken : BrokenRule) (kept next : List (List Cell))
    → HaveTested configuration requirements before refused (Some broken) kept → HaveTested configuration requirements (before ++ round) found (Some broken) next
still_broken configuration requirements before round refused found broken kept next tested = λ later.
    subst (λ records. IsVerdict configuration requirements records (Broken broken.pos broken.rule)) (sym (append_assoc before round later)) (tested (round ++ later))

-- the records of a round are judged, whatever rule was broken before; after a broken rule none is tested
pub round_tested_on : (configuration : Configuration) (requirements : Requirements) (before round : List Ordered) (broken : Option BrokenRule) (found : Option Refused) (breach : Option Breach) (old new : Judging)
    → HaveJudged configuration before None old → HaveTested configuration requirements before None broken old.kept → ArePlaced (length before) round
    → IsRound configuration old round found new
    → (broken ≡ None → IsTested configuration (with_kept requirements old.kept) (parts_of old) round found breach new.kept)
    → HaveTested configuration requirements (before ++ round) found (first_broken broken (length before) breach) new.kept
round_tested_on configuration requirements before round None found breach old new judged tested placed is_round is_tested =
    round_tested configuration requirements before round found breach old new judged tested placed is_round (is_tested refl)
round_tested_on configuration requirements before round (Some broken) found breach old new judged tested placed is_round is_tested =
    still_broken configuration requirements before round None found broken old.kept new.kept tested

-- once a record was refused no view is tested
pub still_tested : (configuration : Configuration) (requirements : Requirements) (before round : List Ordered) (refused : Option Refused) (broken : Option BrokenRule) (kept : List (List Cell)) → is_some refused ≡ true
    → HaveTested configuration requirements before refused broken kept → HaveTested configuration requirements (before ++ round) refused broken kept
still_tested configuration requirements before round None broken kept some tested = absurd (false≢true some)
still_tested configuration requirements before round (Some found) (Some broken) kept some tested =
    still_broken configuration requirements before round (Some found) (Some found) broken kept kept tested
still_tested configuration requirements before round (Some found) None kept some tested = λ later.
    subst (λ records. IsVerdict configuration requirements records (no_of found)) (sym (append_assoc before round later)) (tested (round ++ later))

-- the rows of a round were written
pub round_settled : (configuration : Configuration) (requirements : Requirements) (old new : Run) (settled waiting : List Pair) (before : List Ordered)
    → HasPut configuration requirements old settled waiting before → new.keeper ≡ old.keeper → new.text.items ≡ [] → new.round.items ≡ []
    → HaveJudged configuration (before ++ old.round.items) new.refused new.base
    → HaveTested configuration requirements (before ++ old.round.items) new.refused new.broken new.base.kept
    → HasPut configuration requirements new (settled ++ waiting) [] (before ++ old.round.items)
round_settled configuration requirements old new settled waiting before so_far keeper text round judged tested = record {
  cores = ap (λ kept. kept.cores) keeper ∙ so_far.cores;
  follows = subst (λ kept. Follows kept ((settled ++ waiting) ++ [])) (sym keeper) (subst (Follows old.keeper) (sym (append-nil (settled ++ waiting))) so_far.follows);
  few = subst (λ pairs. length pairs ≤ PLACE_COUNT) (sym (append-nil (settled ++ waiting))) so_far.few;
  fit = subst AllFit (sym (append-nil (settled ++ waiting))) so_far.fit;
  text = text;
  place = omega (arith, ap place_of keeper, so_far.place, length-append before old.round.items, ap length round);
  placed = subst (λ records. ArePlaced 0 ((before ++ old.round.items) ++ records)) (sym round) (subst (ArePlaced 0) (sym (append-nil (before ++ old.round.items))) so_far.placed);
  of_cores = subst (AreOfCores configuration.cores) (sym round) tt;
  judged = judged;
  tested = tested;
}

-- what is proposed, once every record is judged

pub all_found : (configuration : Configuration) (before : List Ordered) (judging : Judging) (records : ℕ) → HaveJudged configuration before None judging → records ≡ length before
    → IsVerdict configuration (required_by [] []) before (Yes records)
all_found configuration before judging records (ready, run, count) is = (omega (arith, is), (parts_of judging, run), tt)

pub none_found : (configuration : Configuration) (before : List Ordered) (judging : Judging) (found : Refused) → HaveJudged configuration before (Some found) judging
    → IsVerdict configuration (required_by [] []) before (no_of found)
none_found configuration before judging found judged = subst (λ records. IsVerdict configuration (required_by [] []) records (no_of found)) (append-nil before) (judged [])

-- the same under the rules

pub all_met : (configuration : Configuration) (requirements : Requirements) (before : List Ordered) (judging : Judging) (broken : Option BrokenRule) (records : ℕ)
    → HaveJudged configuration before None judging → HaveTested configuration requirements before None broken judging.kept → records ≡ length before
    → IsVerdict configuration requirements before (verdict_of (Found records broken))
all_met configuration requirements before judging None records (ready, run, count) meet is =
    (omega (arith, is), (parts_of judging, run), leads_meet configuration requirements (with_kept requirements judging.kept) (cold_parts configuration) before meet)
all_met configuration requirements before judging (Some broken) records judged tested is =
    subst (λ list. IsVerdict configuration requirements list (Broken broken.pos broken.rule)) (append-nil before) (tested [])

pub some_refused : (configuration : Configuration) (requirements : Requirements) (before : List Ordered) (found : Refused) (broken : Option BrokenRule) (kept : List (List Cell))
    → HaveTested configuration requirements before (Some found) broken kept → IsVerdict configuration requirements before (verdict_of (NotFound found broken))
some_refused configuration requirements before found None kept tested = subst (λ list. IsVerdict configuration requirements list (no_of found)) (append-nil before) (tested [])
some_refused configuration requirements before found (Some broken) kept tested =
    subst (λ list. IsVerdict configuration requirements list (Broken broken.pos broken.rule)) (append-nil before) (tested [])

-- the judging of a round, by whether a record was refused before

pub none_refused : (configuration : Configuration) (before : List Ordered) (refused : Option Refused) (judging : Judging) → is_some refused ≡ false
    → HaveJudged configuration before refused judging → HaveJudged configuration before None judging
none_refused configuration before None judging none judged = judged
none_refused configuration before (Some found) judging none judged = absurd (true≢false none)

pub none_refused_tested : (configuration : Configuration) (requirements : Requirements) (before : List Ordered) (refused : Option Refused) (broken : Option BrokenRule) (kept : List (List Cell)) → is_some refused ≡ false
    → HaveTested configuration requirements before refused broken kept → HaveTested configuration requirements before None broken kept
none_refused_tested configuration requirements before None broken kept none tested = tested
none_refused_tested configuration requirements before (Some found) broken kept none tested = absurd (true≢false none)

pub one_refused : (configuration : Configuration) (before round : List Ordered) (refused : Option Refused) (judging : Judging) → is_some refused ≡ true
    → HaveJudged configuration before refused judging → HaveJudged configuration (before ++ round) refused judging
one_refused configuration before round None judging some judged = absurd (false≢true some)
one_refused configuration before round (Some found) judging some judged = still_refused configuration before round found judging judging judged
