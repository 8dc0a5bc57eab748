-- The view that breaks a rule, as a round leaves it and as a witness is shown it.
use Rattle.std.proofs.Common.{◌≡◌, ◌<◌, ◌+◌, ◌-◌, ◌∙◌, ℕ, suc, List, [], ◌∷◌, ◌++◌, Option, Some, None, Result, Ok, Err, length, get_or, take, drop, refl, sym, ap, subst, arith, append_assoc}
use Rattle.std.specs.List.{All}
use Rattle.std.specs.Prelude.{IfSome, slice_get}
use Rattle.std.proofs.lemmas.List.{append-nil, length-append, length-take-le}
use Rattle.std.proofs.lemmas.Option.{get_or_from_slice_get, same_Some, slice_get_within}
use Rattle.std.proofs.Math.Seq.{split_at}
use Rattle.apex_types.specs.declared.record.Ordered.{Ordered}
use Rattle.apex_types.specs.declared.view.View.{View}
use Rattle.apex_machine.specs.Configuration.{Configuration}
use Rattle.apex_machine.specs.Pieces.{Part}
use Rattle.apex_machine.specs.Runs.{ArePlaced}
use Rattle.apex_laws.proofs.Joins.{runs_join}
use Rattle.placement.specs.declared.fault.InputFault.{InputFault}
use Rattle.piece_check.proofs.Reaching.{placed_at}
use Rattle.piece_check.specs.Parts.{piece_at}
use Rattle.user_rules.proofs.FirstBroken.{valued_append, valued_length}
use Rattle.user_rules.specs.declared.memory.Cell.{Cell}
use Rattle.user_rules.specs.declared.memory.RuleMemory.{RuleMemory}
use Rattle.user_rules.specs.declared.relation.Relation.{Relation}
use Rattle.user_rules.specs.FirstBroken.{AllMeet, IsFirstRuleBroken, MeetsAll}
use Rattle.user_rules.specs.Memories.{kept_after_view}
use Rattle.user_rules.specs.Remembered.{Requirements, after, kept_after, valued, valued_after, valued_at, with_kept}
use Rattle.verdict_merge.specs.declared.breach.Breach.{Breach}
use Rattle.verdict_merge.specs.declared.finding.Refused.{Refused}
use Rattle.verdict_merge.specs.declared.verdict.Verdict.{Verdict}
use Rattle.verdict_merge.specs.declared.verdict.Verdict.TheVariants.{Yes, No, Broken}
use Rattle.verdict_merge.specs.Rounds.{AllRun, IsRound, IsTested, Judging, Runs, parts_of}
use Rattle.verdict_merge.specs.Verdicts.{MeetAndLead, ViewsLead, against, no_of}
use Rattle.verdict_merge.specs.Views.{AreViews, AreViewsAfter, IsViewOf, broken_of, up_to}
use Rattle.verdict_merge.proofs.Giving.{HaveRun, run_up_to}
use Rattle.verdict_merge.proofs.Rounds.{runs_on}
use Rattle.verdict_merge.proofs.Ruled.{lead_on}
use Rattle.verdict_merge.proofs.Viewing.{up_to_front}
use Rattle.report.specs.declared.fault.CheckFault.{CheckFault}
use Rattle.report.specs.Outcome.{answer_with}
use Rattle.report.specs.Shown.{HasBreach, IsBreachAt, IsSeenAfter, IsSeenAt, StillBreaks}
use Rattle.report.proofs.Rejecting.{contains_seam, place_of_seam}

-- one of the views of some records

-- the record that it is of
view_among : (configuration : Configuration) (parts : ℕ → Part) (before records : List Ordered) (views front : List View) (view : View) (back : List View)
    → AreViewsAfter configuration parts before records views → views ≡ front ++ view ∷ back
    → (these : List Ordered) × (ordered : Ordered) × (those : List Ordered) × (records ≡ these ++ ordered ∷ those) × (length these ≡ length front)
    × AreViewsAfter configuration parts before these front × IsViewOf configuration parts (before ++ these) ordered view
view_among configuration parts before [] views front view back none split = absurd (omega (arith, ap length none, ap length split, length-append front (view ∷ back)))
view_among configuration parts before (ordered ∷ others) views [] view back (one, more, is, here, rest) split =
    let heads : one ∷ more ≡ view ∷ back = sym is ∙ split in
    let same : one ≡ view = cc in (
      [],
      ordered,
      others,
      refl,
      refl,
      refl,
      subst (λ list. IsViewOf configuration parts list ordered view) (sym (append-nil before)) (subst (λ (one : View). IsViewOf configuration parts before ordered one) same here),
    )
view_among configuration parts before (ordered ∷ others) views (first ∷ front) view back (one, more, is, here, rest) split =
    let heads : one ∷ more ≡ first ∷ (front ++ view ∷ back) = sym is ∙ split in
    let same : one ≡ first = cc in
    let tails : more ≡ front ++ view ∷ back = cc in
    let further = view_among configuration parts (before ++ ordered ∷ []) others more front view back rest tails in (
      ordered ∷ further.0,
      further.1,
      further.2,
      ap (λ list. ordered ∷ list) further.3,
      ap suc further.4,
      (first, front, refl, subst (λ (one : View). IsViewOf configuration parts before ordered one) same here, further.5),
      subst (λ list. IsViewOf configuration parts list further.1 view) (append_assoc before (ordered ∷ []) further.0) further.6,
    )

-- views that all meet every relation, and what is required after them
lead_under : (configuration : Configuration) (memories : List RuleMemory) (kept : List (List Cell)) (relations : List Relation) (parts : ℕ → Part) (records : List Ordered) (views : List View)
    → AreViews configuration parts records views → AllMeet (record { memories = memories; kept = kept; relations = relations }) views
    → MeetAndLead configuration memories kept relations parts records (after (record { memories = memories; kept = kept; relations = relations }) views)
lead_under configuration memories kept [] parts records views viewed meet = refl
lead_under configuration memories kept (relation ∷ relations) parts records views viewed meet = (views, viewed, meet, refl)

views_lead : (configuration : Configuration) (requirements : Requirements) (parts : ℕ → Part) (records : List Ordered) (views : List View) → AreViews configuration parts records views
    → AllMeet requirements views → ViewsLead configuration requirements parts records (after requirements views)
views_lead configuration requirements = lead_under configuration requirements.memories requirements.kept requirements.relations

-- no records change what is required
pub leads_nowhere : (configuration : Configuration) (requirements : Requirements) (parts : ℕ → Part) → ViewsLead configuration requirements parts [] requirements
leads_nowhere configuration requirements parts = views_lead configuration requirements parts [] [] refl (λ index one within. absurd (omega (arith, within)))

-- two splits of a list at one number are the same
same_split : {A : Type 0} (before : List A) (one : A) (after before' : List A) (one' : A) (after' : List A) → before ++ one ∷ after ≡ before' ++ one' ∷ after' → length before ≡ length before'
    → (before ≡ before') × (one ≡ one')
same_split [] one after [] one' after' same counted = (refl, cc)
same_split [] one after (first ∷ before') one' after' same counted = absurd (omega (arith, counted))
same_split (first ∷ before) one after [] one' after' same counted = absurd (omega (arith, counted))
same_split (first ∷ before) one after (first' ∷ before') one' after' same counted =
    let head : first ≡ first' = cc in
    let tail : before ++ one ∷ after ≡ before' ++ one' ∷ after' = cc in
    let rest = same_split before one after before' one' after' tail (omega (arith, counted)) in
    (ap (λ item. item ∷ before) head ∙ ap (λ list. first' ∷ list) rest.0, rest.1)

-- as a round leaves it

-- what became of all pieces in a round
run_of_round : (configuration : Configuration) (old new : Judging) (records : List Ordered) (found : Option Refused) → IsRound configuration old records found new
    → HaveRun configuration (parts_of old) records found
run_of_round configuration old new records None is = λ number within. (parts_of new number, is.0 number within)
run_of_round configuration old new records (Some found) is = is.0

-- the breach of the first view that breaks a rule
breach_at : (configuration : Configuration) (requirements : Requirements) (parts : ℕ → Part) (count : ℕ) (records : List Ordered) (found : Option Refused) (breach : Breach) (kept : List (List Cell))
    → ArePlaced count records → HaveRun configuration parts records found → IsTested configuration requirements parts records found (Some breach) kept
    → IsBreachAt configuration requirements parts count records (count + breach.seen.index) breach.rule breach kept
breach_at configuration requirements parts count records found breach kept placed outcome tested =
    let memories = requirements.memories in
    let view = breach.seen.view in
    let index = breach.seen.index in
    let views = tested.views in
    let first = tested.first in
    let earlier = take index views in
    let later = drop (suc index) views in
    let reached = kept_after memories requirements.kept earlier in
    let one = valued_at memories reached view in
    let within : index < length views = slice_get_within views index view tested.reported in
    let cut_here : views ≡ earlier ++ view ∷ later =
    split_at views index view within ∙ ap (λ item. earlier ++ item ∷ later) (get_or_from_slice_get views index view view tested.reported) in
    let many : length earlier ≡ index = length-take-le index views (omega (arith, within)) in
    let valued_cut : valued requirements views ≡ valued requirements earlier ++ one ∷ valued_after memories (kept_after_view memories reached one) later =
    ap (valued requirements) cut_here ∙ valued_append memories requirements.kept earlier (view ∷ later) in
    let same = same_split first.before first.view first.after (valued requirements earlier) one (valued_after memories (kept_after_view memories reached one) later) (sym first.split ∙ valued_cut)
    (omega (arith, first.counted, many, valued_length memories requirements.kept earlier)) in
    let shown = view_among configuration parts [] (up_to found records) views earlier view later tested.viewed cut_here in
    let before = shown.0 in
    let ordered = shown.1 in
    let front = up_to_front records found in
    let split : records ≡ before ++ ordered ∷ (shown.2 ++ front.0) =
    front.1 ∙ ap (λ list. list ++ front.0) shown.3 ∙ append_assoc before (ordered ∷ shown.2) front.0 in
    let cut : up_to found records ≡ (before ++ ordered ∷ []) ++ shown.2 = shown.3 ∙ sym (append_assoc before (ordered ∷ []) shown.2) in
    let at : ordered.pos ≡ count + length before = place_of_seam count before ordered (shown.2 ++ front.0) records split placed in
    record {
      before = before;
      ordered = ordered;
      among = contains_seam before ordered (shown.2 ++ front.0) records split;
      there = omega (arith, at, shown.4, many);
      counted = omega (arith, shown.4, many);
      seen = record {
        runs = λ number within. run_up_to configuration parts count records found placed outcome number within (before ++ ordered ∷ []) shown.2 cut;
        meet = subst (λ keeps. ViewsLead configuration requirements parts before (with_kept requirements keeps)) (sym tested.remembered)
            (views_lead configuration requirements parts before earlier shown.5 (subst (All (MeetsAll requirements.relations)) same.0 first.met));
        viewed = shown.6;
      };
      first = subst (λ item. IsFirstRuleBroken requirements.relations item breach.rule) (same.1 ∙ ap (λ keeps. valued_at memories keeps view) (sym tested.remembered)) first.first;
    }

-- the breach of a broken rule that decides against a round
pub leaves_its_breach : (configuration : Configuration) (requirements : Requirements) (old new : Judging) (records : List Ordered) (found : Option Refused) (breach : Option Breach) (kept : List (List Cell)) (verdict : Verdict)
    → ArePlaced old.count records → IsRound configuration old records found new → IsTested configuration requirements (parts_of old) records found breach kept
    → against old.count found (broken_of breach) ≡ Some verdict → HasBreach configuration requirements (parts_of old) old.count records (Ok verdict) breach kept
leaves_its_breach configuration requirements old new records found (Some breach) kept verdict placed round tested is =
    let same : Broken (old.count + breach.seen.index) breach.rule ≡ verdict = cc in
    subst (λ one. HasBreach configuration requirements (parts_of old) old.count records (Ok one) (Some breach) kept) same
    (breach, refl, breach_at configuration requirements (parts_of old) old.count records found breach kept placed (run_of_round configuration old new records found round) tested)
leaves_its_breach configuration requirements old new records (Some found) None kept verdict placed round tested is =
    let same : no_of found ≡ verdict = cc in
    subst (λ one. HasBreach configuration requirements (parts_of old) old.count records (Ok one) None kept) same tt
leaves_its_breach configuration requirements old new records None None kept verdict placed round tested is = let none : ◌≡◌ {A = Option Verdict} None (Some verdict) = is in cc

-- the breach after a round, by what decides against it
pub round_leaves : (configuration : Configuration) (requirements : Requirements) (old new : Judging) (records : List Ordered) (found : Option Refused) (breach : Option Breach) (kept : List (List Cell))
    → ArePlaced old.count records → IsRound configuration old records found new → IsTested configuration requirements (parts_of old) records found breach kept
    → (decides : Option Verdict) → decides ≡ against old.count found (broken_of breach)
    → IfSome decides (λ verdict. HasBreach configuration requirements (parts_of old) old.count records (Ok verdict) breach kept)
round_leaves configuration requirements old new records found breach kept placed round tested None is = tt
round_leaves configuration requirements old new records found breach kept placed round tested (Some verdict) is =
    leaves_its_breach configuration requirements old new records found breach kept verdict placed round tested (sym is)

-- an answer after records against which nothing decides is no broken rule
pub leaves_no_breach : (configuration : Configuration) (requirements : Requirements) (parts : ℕ → Part) (count : ℕ) (records : List Ordered) (all : ℕ) (end : Result (Unit {0}) InputFault) (breach : Option Breach) (kept : List (List Cell))
    → HasBreach configuration requirements parts count records (answer_with (Yes all) end) breach kept
leaves_no_breach configuration requirements parts count records all (Ok done) breach kept = tt
leaves_no_breach configuration requirements parts count records all (Err fault) breach kept = tt

-- as a witness is shown it

-- what is seen after more records, of which the memories have kept this
seen_on : (configuration : Configuration) (requirements : Requirements) (reached : List (List Cell)) (old new : ℕ → Part) (front before : List Ordered) (ordered : Ordered) (view : View) (kept : List (List Cell))
    → AllRun configuration old front new → ViewsLead configuration requirements old front (with_kept requirements reached)
    → IsSeenAfter configuration (with_kept requirements reached) new before ordered view kept → IsSeenAfter configuration requirements old (front ++ before) ordered view kept
seen_on configuration requirements reached old new front before ordered view kept run meet is =
    let here = is.viewed in
    record {
      runs = λ number within. subst (Runs configuration old number) (sym (append_assoc front before (ordered ∷ [])))
          (runs_on configuration old new number front (before ++ ordered ∷ []) (run number within) (is.runs number within));
      meet = lead_on configuration requirements (with_kept requirements reached) (with_kept requirements kept) old new front before run meet is.meet;
      viewed = record {
        number = here.number;
        within = here.within;
        judges = here.judges;
        reached = here.reached;
        run = (runs_join configuration (piece_at configuration here.number) (old here.number) front before here.reached).1 (new here.number, run here.number here.within, here.run);
        seen = here.seen;
      };
    }

-- the breach after rounds in which nothing decides, of whose views the memories have kept this
pub still_breaks : (configuration : Configuration) (requirements : Requirements) (reached : List (List Cell)) (old new : ℕ → Part) (count place : ℕ) (front records : List Ordered) (answer : Result Verdict CheckFault) (breach : Option Breach) (kept : List (List Cell))
    → AllRun configuration old front new → ViewsLead configuration requirements old front (with_kept requirements reached) → place ≡ count + length front
    → HasBreach configuration (with_kept requirements reached) new place records answer breach kept → HasBreach configuration requirements old count records answer breach kept
still_breaks configuration requirements reached old new count place front records (Ok (Broken at rule)) breach kept run meet counted (one, some, is) = (
  one,
  some,
  record {
    before = front ++ is.before;
    ordered = is.ordered;
    among = is.among;
    there = is.there;
    counted = omega (arith, is.counted, counted, length-append front is.before);
    seen = seen_on configuration requirements reached old new front is.before is.ordered one.seen.view kept run meet is.seen;
    first = is.first;
  },
)
still_breaks configuration requirements reached old new count place front records (Ok (Yes all)) breach kept run meet counted has = tt
still_breaks configuration requirements reached old new count place front records (Ok (No at piece cause)) breach kept run meet counted has = tt
still_breaks configuration requirements reached old new count place front records (Err fault) breach kept run meet counted has = tt

-- the view of the breach and the record at the place
pub breach_shown : (configuration : Configuration) (requirements : Requirements) (first : ℕ) (records : List Ordered) (place rule : ℕ) (judging : Judging) (shown : Breach) (ordered : Ordered)
    → ArePlaced first records → StillBreaks configuration requirements records (Ok (Broken place rule)) judging → judging.breach ≡ Some shown → slice_get records (place - first) ≡ Some ordered
    → IsSeenAt configuration requirements ordered shown.seen.view judging.kept
    × IsFirstRuleBroken requirements.relations (valued_at requirements.memories judging.kept shown.seen.view) rule
breach_shown configuration requirements first records place rule judging shown ordered placed (one, some, is) same_breach record_there =
    let kept = judging.kept in
    let index = is.among.0 in
    let at : place - first ≡ index = omega (arith, is.there, ap (λ (one : Ordered). one.pos) is.among.2, placed_at first index is.ordered records placed is.among.1) in
    let same : is.ordered ≡ ordered = sym is.among.2 ∙ ap (λ n. get_or records n is.ordered) (sym at) ∙ get_or_from_slice_get records (place - first) ordered is.ordered record_there in
    let alike : one ≡ shown = same_Some one shown (sym some ∙ same_breach) in
    let many : length is.before ≡ is.ordered.pos = omega (arith, is.counted, is.there) in
    subst (λ (breach : Breach). IsSeenAt configuration requirements ordered breach.seen.view kept × IsFirstRuleBroken requirements.relations (valued_at requirements.memories kept breach.seen.view) rule) alike
    (subst (λ (ordered : Ordered). IsSeenAt configuration requirements ordered one.seen.view kept) same (is.before, many, is.seen), is.first)
