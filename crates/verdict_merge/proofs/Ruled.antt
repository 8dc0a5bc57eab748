-- The verdict with the user's rules: there is one, what a Yes means, and how rounds follow one another.
use Rattle.std.proofs.Common.{◌≡◌, ◌<◌, ◌≤◌, ◌+◌, ◌∙◌, ℕ, suc, List, [], ◌∷◌, ◌++◌, append_assoc, Option, Some, None, length, take, drop, refl, sym, ap, subst, inl, inr, arith}
use Rattle.std.specs.List.{All}
use Rattle.std.specs.Prelude.{IfSome}
use Rattle.std.proofs.lemmas.Bool.{cases_lt}
use Rattle.std.proofs.lemmas.List.{append-nil, get_or_append_left, length-append, length-take-le, take-append-drop}
use Rattle.std.proofs.lemmas.Option.{same_Some}
use Rattle.apex_types.specs.declared.record.Ordered.{Ordered}
use Rattle.apex_types.specs.declared.view.View.{View}
use Rattle.apex_machine.specs.Channels.{EndsAreApart}
use Rattle.apex_machine.specs.Configuration.{Configuration, WindowsAreConfigured}
use Rattle.apex_machine.specs.Pieces.{Part}
use Rattle.apex_machine.specs.Runs.{ArePlaced}
use Rattle.apex_machine.specs.State.{State, cold_state}
use Rattle.apex_machine.specs.Step.{Run}
use Rattle.apex_machine.specs.Views.{run_views}
use Rattle.apex_laws.proofs.Stays.{stays_tied}
use Rattle.piece_check.specs.Parts.{Holding}
use Rattle.user_rules.proofs.FirstBroken.{first_broken_after, first_broken_stays, one_first_broken, valued_append, valued_length}
use Rattle.user_rules.proofs.Searching.{kept_alone, kept_append, valued_alone}
use Rattle.user_rules.specs.declared.broken.Broken.{Broken as BrokenView}
use Rattle.user_rules.specs.declared.memory.Cell.{Cell}
use Rattle.user_rules.specs.declared.memory.RuleMemory.{RuleMemory}
use Rattle.user_rules.specs.declared.relation.Relation.{Relation}
use Rattle.user_rules.specs.FirstBroken.{AllMeet, IsFirstAmong, IsFirstBroken, MeetsAll}
use Rattle.user_rules.specs.Meets.{Valued}
use Rattle.user_rules.specs.Passed.{passed}
use Rattle.user_rules.specs.Remembered.{Requirements, after, required_by, valued, valued_after, with_kept}
use Rattle.verdict_merge.specs.declared.finding.Refused.{Refused}
use Rattle.verdict_merge.specs.declared.survey.Survey.{Survey}
use Rattle.verdict_merge.specs.declared.verdict.Verdict.{Verdict}
use Rattle.verdict_merge.specs.declared.verdict.Verdict.TheVariants.{Yes, No, Broken}
use Rattle.verdict_merge.specs.declared.breach.Breach.{Breach}
use Rattle.verdict_merge.specs.Rounds.{AllRun, AreGoing, HaveRunOver, IsNo, IsRound, IsSurveyed, IsTested, IsTestedAlone, Judging, cold_parts, parts_in, parts_of}
use Rattle.verdict_merge.specs.Verdicts.{IsBroken, IsRunWhereYes, IsVerdict, IsVerdictFrom, MeetAndLead, MeetUnder, OneVerdict, ViewsLead, ViewsMeet, against, no_of}
use Rattle.verdict_merge.specs.Views.{AreViews, AreViewsAfter, broken_of, up_to}
use Rattle.verdict_merge.proofs.Giving.{HaveRun, run_up_to, up_to_no}
use Rattle.verdict_merge.proofs.Rounds.{all_run_on, no_after, no_on, runs_on}
use Rattle.verdict_merge.proofs.Silence.{machine_runs}
use Rattle.verdict_merge.proofs.Splits.{begins, begins_with}
use Rattle.verdict_merge.proofs.Verdicts.{no_rule_broken, one_pieces_verdict, runs_no_longer}
use Rattle.verdict_merge.proofs.Viewing.{up_to_front}
use Rattle.verdict_merge.proofs.ViewedRun.{one_list_of_views, views_are_of_the_run, views_join, views_on}

-- parts of lists of views

-- the views of the front of some records
pub views_front : (configuration : Configuration) (parts : ℕ → Part) (before front back : List Ordered) (views : List View)
    → AreViewsAfter configuration parts before (front ++ back) views
    → (first : List View) × (rest : List View) × (views ≡ first ++ rest) × AreViewsAfter configuration parts before front first
views_front configuration parts before [] back views viewed = ([], views, refl, refl)
views_front configuration parts before (ordered ∷ front) back views (view, more, is, here, holds_before) =
    let further = views_front configuration parts (before ++ ordered ∷ []) front back more holds_before in
    (view ∷ further.0, further.1, is ∙ ap (λ list. view ∷ list) further.2, (view, further.0, refl, here, further.3))

all_front : {A : Type 0} (Fact : A → Type 0) (front back : List A) → All Fact (front ++ back) → All Fact front
all_front Fact front back all = λ index one within.
    subst Fact (get_or_append_left front back one index within) (all index one (omega (arith, within, length-append front back)))

-- what follows after: what is required there is what the views before lead to
meet_under : (configuration : Configuration) (memories : List RuleMemory) (kept : List (List Cell)) (relations : List Relation) (later : Requirements) (old new : ℕ → Part) (front back : List Ordered)
    → AllRun configuration old front new → MeetAndLead configuration memories kept relations old front later → ViewsMeet configuration later new back
    → MeetUnder configuration memories kept relations old (front ++ back)
meet_under configuration memories kept [] later old new front back all meet also = tt
meet_under configuration memories kept (relation ∷ relations) later old new front back all (views, viewed, meet, leads) also =
    let requirements : Requirements = record { memories = memories; kept = kept; relations = relation ∷ relations } in
    let rest = subst (λ one. ViewsMeet configuration one new back) leads also in (
      views ++ rest.0,
      views_join configuration old [] front back views rest.0 viewed (subst (λ list. AreViewsAfter configuration old list back rest.0) (append-nil front) (views_on configuration old new front [] back rest.0 all rest.1)),
      first_broken_after requirements views rest.0 None meet rest.2,
    )

pub meet_on : (configuration : Configuration) (requirements later : Requirements) (old new : ℕ → Part) (front back : List Ordered) → AllRun configuration old front new
    → ViewsLead configuration requirements old front later → ViewsMeet configuration later new back → ViewsMeet configuration requirements old (front ++ back)
meet_on configuration requirements later = meet_under configuration requirements.memories requirements.kept requirements.relations later

-- records that lead on meet what is required
meet_leads : (configuration : Configuration) (memories : List RuleMemory) (kept : List (List Cell)) (relations : List Relation) (later : Requirements) (parts : ℕ → Part) (records : List Ordered)
    → MeetAndLead configuration memories kept relations parts records later → MeetUnder configuration memories kept relations parts records
meet_leads configuration memories kept [] later parts records meet = tt
meet_leads configuration memories kept (relation ∷ relations) later parts records (views, viewed, meet, leads) = (views, viewed, meet)

pub leads_meet : (configuration : Configuration) (requirements later : Requirements) (parts : ℕ → Part) (records : List Ordered)
    → ViewsLead configuration requirements parts records later → ViewsMeet configuration requirements parts records
leads_meet configuration requirements later = meet_leads configuration requirements.memories requirements.kept requirements.relations later

-- one part after another
lead_under : (configuration : Configuration) (memories : List RuleMemory) (kept : List (List Cell)) (relations : List Relation) (later last : Requirements) (old new : ℕ → Part) (front back : List Ordered)
    → AllRun configuration old front new → MeetAndLead configuration memories kept relations old front later → ViewsLead configuration later new back last
    → MeetAndLead configuration memories kept relations old (front ++ back) last
lead_under configuration memories kept [] later last old new front back all meet also = by later.relations meet also
  where
    by : (relations : List Relation) → relations ≡ [] → MeetAndLead configuration later.memories later.kept relations new back last → last.relations ≡ []
    by [] none leads = leads
    by (relation ∷ relations) none leads = absurd cc
lead_under configuration memories kept (relation ∷ relations) later last old new front back all (views, viewed, meet, leads) also =
    let requirements : Requirements = record { memories = memories; kept = kept; relations = relation ∷ relations } in
    let rest = subst (λ one. ViewsLead configuration one new back last) leads also in (
      views ++ rest.0,
      views_join configuration old [] front back views rest.0 viewed (subst (λ list. AreViewsAfter configuration old list back rest.0) (append-nil front) (views_on configuration old new front [] back rest.0 all rest.1)),
      first_broken_after requirements views rest.0 None meet rest.2,
      rest.3 ∙ ap (λ keeps. record { memories = memories; kept = keeps; relations = relation ∷ relations }) (sym (kept_append memories kept views rest.0)),
    )

pub lead_on : (configuration : Configuration) (requirements later last : Requirements) (old new : ℕ → Part) (front back : List Ordered) → AllRun configuration old front new
    → ViewsLead configuration requirements old front later → ViewsLead configuration later new back last → ViewsLead configuration requirements old (front ++ back) last
lead_on configuration requirements later last = lead_under configuration requirements.memories requirements.kept requirements.relations later last

-- one verdict

-- if a rule is broken, not all views of as many records meet every relation
broken_not_under : (configuration : Configuration) (memories : List RuleMemory) (kept : List (List Cell)) (relations : List Relation) (records : List Ordered) (pos rule : ℕ)
    → (is : IsBroken configuration (record { memories = memories; kept = kept; relations = relations }) (cold_parts configuration) 0 records pos rule) → (long rest : List Ordered) → records ≡ long ++ rest
    → length is.through ≤ length long → MeetUnder configuration memories kept relations (cold_parts configuration) long → ⊥
broken_not_under configuration memories kept [] records pos rule is long rest split most meet = no_rule_broken (valued_after memories kept is.views) is.broken is.first
broken_not_under configuration memories kept (relation ∷ relations) records pos rule is long rest split most (views, viewed, meet) =
    let requirements : Requirements = record { memories = memories; kept = kept; relations = relation ∷ relations } in
    let middle = begins is.through is.after long rest (sym is.split ∙ split) most in
    let parted = views_front configuration (cold_parts configuration) [] is.through middle.0 views (subst (λ list. AreViewsAfter configuration (cold_parts configuration) [] list views) middle.1 viewed) in
    let same : parted.0 ≡ is.views = one_list_of_views configuration [] is.through parted.0 is.views parted.3 is.viewed in
    let met : IsFirstBroken requirements is.views None =
    subst (AllMeet requirements) same (front_meets requirements parted.0 parted.1 (subst (AllMeet requirements) parted.2 meet)) in
    let none : ◌≡◌ {A = Option BrokenView} None (Some is.broken) = one_first_broken requirements is.views None (Some is.broken) met is.first in
    cc
  where
    front_meets : (requirements : Requirements) (front back : List View) → AllMeet requirements (front ++ back) → AllMeet requirements front
    front_meets requirements front back all =
        all_front (MeetsAll requirements.relations) (valued requirements front) (valued (after requirements front) back)
        (subst (All (MeetsAll requirements.relations)) (valued_append requirements.memories requirements.kept front back) all)

broken_not_met : (configuration : Configuration) (requirements : Requirements) (records : List Ordered) (pos rule : ℕ)
    → (is : IsBroken configuration requirements (cold_parts configuration) 0 records pos rule) → (long rest : List Ordered) → records ≡ long ++ rest → length is.through ≤ length long
    → ViewsMeet configuration requirements (cold_parts configuration) long → ⊥
broken_not_met configuration requirements = broken_not_under configuration requirements.memories requirements.kept requirements.relations

-- a No before which all views meet every relation, and a broken rule
no_and_broken : (configuration : Configuration) (requirements : Requirements) (records : List Ordered) (found : Refused) (pos rule : ℕ)
    → (is_shown : IsNo configuration (cold_parts configuration) records found) → ViewsMeet configuration requirements (cold_parts configuration) is_shown.before
    → IsBroken configuration requirements (cold_parts configuration) 0 records pos rule → ⊥
no_and_broken configuration requirements records found pos rule is_shown meet is = elim (cases_lt (length is_shown.before) (length is.through)) [
  | inl less ↦ runs_no_longer configuration (cold_parts configuration) records found is_shown is.through is.after is.split less (is.runs found.piece is_shown.piece)
  | inr most ↦ broken_not_met configuration requirements records pos rule is is_shown.before (is_shown.ordered ∷ is_shown.after) is_shown.split most meet
]

-- if each piece runs over all the records and all views meet every relation, no rule is broken
yes_and_broken : (configuration : Configuration) (requirements : Requirements) (records : List Ordered) (pos rule : ℕ) → ViewsMeet configuration requirements (cold_parts configuration) records
    → IsBroken configuration requirements (cold_parts configuration) 0 records pos rule → ⊥
yes_and_broken configuration requirements records pos rule meet is =
    broken_not_met configuration requirements records pos rule is records [] (sym (append-nil records)) (omega (arith, ap length is.split, length-append is.through is.after)) meet

-- of two broken rules that begin alike the first view is one
one_broken_of : (configuration : Configuration) (requirements : Requirements) (records : List Ordered) (pos rule pos' rule' : ℕ)
    → (is : IsBroken configuration requirements (cold_parts configuration) 0 records pos rule) → (also : IsBroken configuration requirements (cold_parts configuration) 0 records pos' rule')
    → length is.through ≤ length also.through → is.broken ≡ also.broken
one_broken_of configuration requirements records pos rule pos' rule' is also most =
    let middle = begins is.through is.after also.through also.after (sym is.split ∙ also.split) most in
    let parted = views_front configuration (cold_parts configuration) [] is.through middle.0 also.views (subst (λ list. AreViewsAfter configuration (cold_parts configuration) [] list also.views) middle.1 also.viewed) in
    let same : parted.0 ≡ is.views = one_list_of_views configuration [] is.through parted.0 is.views parted.3 is.viewed in
    let here : IsFirstBroken requirements also.views (Some is.broken) =
    subst (λ list. IsFirstBroken requirements list (Some is.broken)) (sym parted.2)
    (first_broken_stays requirements parted.0 parted.1 is.broken (subst (λ list. IsFirstBroken requirements list (Some is.broken)) (sym same) is.first)) in
    same_Some is.broken also.broken (one_first_broken requirements also.views (Some is.broken) (Some also.broken) here also.first)

one_broken : (configuration : Configuration) (requirements : Requirements) (records : List Ordered) (pos rule pos' rule' : ℕ)
    → IsBroken configuration requirements (cold_parts configuration) 0 records pos rule → IsBroken configuration requirements (cold_parts configuration) 0 records pos' rule'
    → ◌≡◌ {A = Verdict} (Broken pos rule) (Broken pos' rule')
one_broken configuration requirements records pos rule pos' rule' is also =
    let same : is.broken ≡ also.broken = elim (cases_lt (length is.through) (length also.through)) [
      | inl less ↦ one_broken_of configuration requirements records pos rule pos' rule' is also (omega (arith, less))
      | inr most ↦ sym (one_broken_of configuration requirements records pos' rule' pos rule also is most)
    ] in
    let places : pos ≡ pos' = is.place ∙ ap (λ (broken : BrokenView). 0 + broken.view) same ∙ sym also.place in
    let numbers : rule ≡ rule' = is.number ∙ ap (λ (broken : BrokenView). broken.rule) same ∙ sym also.number in
    cc

pub one_verdict : OneVerdict
one_verdict configuration requirements records (Yes all) (Yes all') placed is also = one_pieces_verdict configuration records (Yes all) (Yes all') placed (is.0, is.1) (also.0, also.1)
one_verdict configuration requirements records (Yes all) (No pos piece cause) placed is also = one_pieces_verdict configuration records (Yes all) (No pos piece cause) placed (is.0, is.1) also.0
one_verdict configuration requirements records (No pos piece cause) (Yes all) placed is also = one_pieces_verdict configuration records (No pos piece cause) (Yes all) placed is.0 (also.0, also.1)
one_verdict configuration requirements records (No pos piece cause) (No pos' piece' cause') placed is also =
    one_pieces_verdict configuration records (No pos piece cause) (No pos' piece' cause') placed is.0 also.0
one_verdict configuration requirements records (Yes all) (Broken pos rule) placed is also = absurd (yes_and_broken configuration requirements records pos rule is.2 also)
one_verdict configuration requirements records (Broken pos rule) (Yes all) placed is also = absurd (yes_and_broken configuration requirements records pos rule also.2 is)
one_verdict configuration requirements records (No place piece cause) (Broken pos rule) placed is also =
    absurd (no_and_broken configuration requirements records (record { pos = place; piece = piece; cause = cause }) pos rule is.0 is.1 also)
one_verdict configuration requirements records (Broken pos rule) (No place piece cause) placed is also =
    absurd (no_and_broken configuration requirements records (record { pos = place; piece = piece; cause = cause }) pos rule also.0 also.1 is)
one_verdict configuration requirements records (Broken pos rule) (Broken pos' rule') placed is also = one_broken configuration requirements records pos rule pos' rule' is also

-- what a Yes means

-- the views of a run that the pieces see are the machine's: if those meet every relation, these do
run_meets_under : (configuration : Configuration) (memories : List RuleMemory) (kept : List (List Cell)) (relations : List Relation) (records : List Ordered) (final : State)
    (run : Run configuration (cold_state configuration) records final) → EndsAreApart configuration → MeetUnder configuration memories kept relations (cold_parts configuration) records
    → AllMeet (record { memories = memories; kept = kept; relations = relations }) (run_views configuration (cold_state configuration) records final run)
run_meets_under configuration memories kept [] records final run ends meet = λ index view within rule relation below. absurd (omega (arith, below))
run_meets_under configuration memories kept (relation ∷ relations) records final run ends (views, viewed, meet) =
    let same = views_are_of_the_run configuration (cold_state configuration) [] records final views ends (stays_tied.0 configuration) (λ piece is. refl) viewed run in
    subst (AllMeet (record { memories = memories; kept = kept; relations = relation ∷ relations })) same meet

pub run_meets : (configuration : Configuration) (requirements : Requirements) (records : List Ordered) (final : State) (run : Run configuration (cold_state configuration) records final)
    → EndsAreApart configuration → ViewsMeet configuration requirements (cold_parts configuration) records
    → AllMeet requirements (run_views configuration (cold_state configuration) records final run)
run_meets configuration requirements = run_meets_under configuration requirements.memories requirements.kept requirements.relations

pub run_where_yes : (configuration : Configuration) (requirements : Requirements) (records : List Ordered) (verdict : Verdict)
    → WindowsAreConfigured configuration → EndsAreApart configuration → ArePlaced 0 records → IsVerdict configuration requirements records verdict
    → IsRunWhereYes configuration requirements records verdict
run_where_yes configuration requirements records (No pos piece cause) windows ends placed is = tt
run_where_yes configuration requirements records (Broken pos rule) windows ends placed is = tt
run_where_yes configuration requirements records (Yes count) windows ends placed (counted, (final, all), meet) =
    let run = machine_runs configuration records windows placed (λ number within. (final number, all number within)) in
    (run.0, run.1, run_meets configuration requirements records run.0 run.1 ends meet, omega (arith, counted))

-- rounds

-- a round from what all pieces made of it
pub round_is : (configuration : Configuration) (old new : Judging) (records : List Ordered) (survey : Survey) → new.count ≡ old.count + length records
    → HaveRunOver configuration old.pieces records survey.found survey.pieces.items → AreGoing configuration (old.count + length records) survey.pieces.items
    → survey.pieces.items ≡ new.pieces → IsRound configuration old records survey.found new
round_is configuration old new records survey counted outcome going left =
    by survey.found (subst (HaveRunOver configuration old.pieces records survey.found) left outcome)
  where
    by : (found : Option Refused) → HaveRunOver configuration old.pieces records found new.pieces → IsRound configuration old records found new
    by None outcome = (outcome, counted, subst (λ place. AreGoing configuration place new.pieces) (sym counted) (subst (AreGoing configuration (old.count + length records)) left going))
    by (Some found) outcome = outcome

-- how many views records have
pub length_viewed : (configuration : Configuration) (parts : ℕ → Part) (before records : List Ordered) (views : List View) → AreViewsAfter configuration parts before records views
    → length views ≡ length records
length_viewed configuration parts before [] views none = ap length none
length_viewed configuration parts before (ordered ∷ others) views (view, more, is, here, rest) =
    ap length is ∙ ap suc (length_viewed configuration parts (before ++ ordered ∷ []) others more rest)

-- the verdict over what is after a round in which nothing was found is that over the round and it
verdict_under : (configuration : Configuration) (memories : List RuleMemory) (kept : List (List Cell)) (relations : List Relation) (later : Requirements) (old new : ℕ → Part) (count : ℕ) (front back : List Ordered)
    (pos rule : ℕ) → AllRun configuration old front new → MeetAndLead configuration memories kept relations old front later
    → IsBroken configuration later new (count + length front) back pos rule → IsBroken configuration (record { memories = memories; kept = kept; relations = relations }) old count (front ++ back) pos rule
verdict_under configuration memories kept [] later old new count front back pos rule runs meet is = absurd (by later.relations meet (valued later is.views) is.broken is.first)
  where
    by : (relations : List Relation) → relations ≡ [] → (views : List Valued) (broken : BrokenView) → IsFirstAmong relations views (Some broken) → ⊥
    by [] none views broken first = no_rule_broken views broken first
    by (relation ∷ relations) none views broken first = absurd cc
verdict_under configuration memories kept (relation ∷ relations) later old new count front back pos rule runs (views, viewed, meet, leads) is =
    let requirements : Requirements = record { memories = memories; kept = kept; relations = relation ∷ relations } in
    let counted : length views ≡ length front = length_viewed configuration old [] front views viewed in
    record {
      through = front ++ is.through;
      after = is.after;
      split = ap (λ list. front ++ list) is.split ∙ sym (append_assoc front is.through is.after);
      runs = λ number within. runs_on configuration old new number front is.through (runs number within) (is.runs number within);
      views = views ++ is.views;
      viewed = views_join configuration old [] front is.through views is.views viewed
          (subst (λ list. AreViewsAfter configuration old list is.through is.views) (append-nil front) (views_on configuration old new front [] is.through is.views runs is.viewed));
      broken = record { view = length views + is.broken.view; rule = is.broken.rule };
      first = first_broken_after requirements views is.views (Some is.broken) meet (subst (λ one. IsFirstBroken one is.views (Some is.broken)) leads is.first);
      last = length-append front is.through ∙ omega (arith, is.last, counted);
      place = omega (arith, is.place, counted);
      number = is.number;
    }

pub verdict_on : (configuration : Configuration) (requirements later : Requirements) (old new : ℕ → Part) (count : ℕ) (front back : List Ordered) (verdict : Verdict)
    → AllRun configuration old front new → ViewsLead configuration requirements old front later
    → IsVerdictFrom configuration later new (count + length front) back verdict → IsVerdictFrom configuration requirements old count (front ++ back) verdict
verdict_on configuration requirements later old new count front back (Yes all) runs meet (counted, (final, more), also) = (
  omega (arith, counted, length-append front back),
  (final, all_run_on configuration old new final front back runs more),
  meet_on configuration requirements later old new front back runs meet also,
)
verdict_on configuration requirements later old new count front back (No pos piece cause) runs meet (is_shown, also) = (
  no_on configuration old new front back (record { pos = pos; piece = piece; cause = cause }) runs is_shown,
  meet_on configuration requirements later old new front is_shown.before runs meet also,
)
verdict_on configuration requirements later old new count front back (Broken pos rule) runs meet is =
    verdict_under configuration requirements.memories requirements.kept requirements.relations later old new count front back pos rule runs meet is

-- a No in a round holds, whatever comes after
pub no_here : (configuration : Configuration) (requirements : Requirements) (parts : ℕ → Part) (count : ℕ) (records more : List Ordered) (found : Refused) → ArePlaced count records
    → IsNo configuration parts records found → ViewsMeet configuration requirements parts (up_to (Some found) records)
    → IsVerdictFrom configuration requirements parts count (records ++ more) (no_of found)
no_here configuration requirements parts count records more found placed is_shown meet =
    (no_after configuration parts records more found is_shown, subst (ViewsMeet configuration requirements parts) (up_to_no configuration parts count records found placed is_shown) meet)

-- the first broken view is the first of those up to it
first_among_through : (relations : List Relation) (front back : List Valued) (broken : BrokenView) → length front ≡ suc broken.view → IsFirstAmong relations (front ++ back) (Some broken)
    → IsFirstAmong relations front (Some broken)
first_among_through relations front back broken counted is =
    let parted = begins_with is.before is.view is.after front back (sym is.split) (omega (arith, counted, is.counted)) in
    let none : parted.0 ≡ [] = no_more parted.0 (omega (arith, counted, is.counted, ap length parted.1, length-append (is.before ++ is.view ∷ []) parted.0, length-append is.before (is.view ∷ []))) in
    record {
      before = is.before;
      view = is.view;
      after = [];
      split = parted.1 ∙ ap (λ list. (is.before ++ is.view ∷ []) ++ list) none ∙ append-nil (is.before ++ is.view ∷ []);
      counted = is.counted;
      met = is.met;
      first = is.first;
    }
  where
    no_more : {A : Type 0} (list : List A) → length list ≡ 0 → list ≡ []
    no_more [] e = refl
    no_more (one ∷ list) e = absurd (omega (arith, e))

first_through : (requirements : Requirements) (front back : List View) (broken : BrokenView) → length front ≡ suc broken.view → IsFirstBroken requirements (front ++ back) (Some broken)
    → IsFirstBroken requirements front (Some broken)
first_through requirements front back broken counted is =
    let memories = requirements.memories in
    let kept = requirements.kept in
    first_among_through requirements.relations (valued requirements front) (valued (after requirements front) back) broken (valued_length memories kept front ∙ counted)
    (subst (λ list. IsFirstAmong requirements.relations list (Some broken)) (valued_append memories kept front back) is)

-- a view of a round that breaks a rule does so, whatever comes after
pub broken_here : (configuration : Configuration) (requirements : Requirements) (parts : ℕ → Part) (count : ℕ) (records more : List Ordered) (found : Option Refused) (views : List View) (broken : BrokenView)
    → ArePlaced count records → HaveRun configuration parts records found → AreViews configuration parts (up_to found records) views → IsFirstBroken requirements views (Some broken)
    → IsVerdictFrom configuration requirements parts count (records ++ more) (Broken (count + broken.view) broken.rule)
broken_here configuration requirements parts count records more found views broken placed outcome viewed first =
    let front = up_to_front records found in
    let counted : length views ≡ length (up_to found records) = length_viewed configuration parts [] (up_to found records) views viewed in
    let inside : broken.view < length (up_to found records) =
    omega (arith, counted, valued_length requirements.memories requirements.kept views, ap length first.split, length-append first.before (first.view ∷ first.after), first.counted) in
    let through = take (suc broken.view) (up_to found records) in
    let rest = drop (suc broken.view) (up_to found records) in
    let cut : up_to found records ≡ through ++ rest = sym (take-append-drop (suc broken.view) (up_to found records)) in
    let many : length through ≡ suc broken.view = length-take-le (suc broken.view) (up_to found records) (omega (arith, inside)) in
    let parted = views_front configuration parts [] through rest views (subst (λ list. AreViewsAfter configuration parts [] list views) cut viewed) in
    record {
      through = through;
      after = (rest ++ front.0) ++ more;
      split = ap (λ list. list ++ more) (front.1 ∙ ap (λ list. list ++ front.0) cut ∙ append_assoc through rest front.0) ∙ append_assoc through (rest ++ front.0) more;
      runs = λ number within. run_up_to configuration parts count records found placed outcome number within through rest cut;
      views = parted.0;
      viewed = parted.3;
      broken = broken;
      first = first_through requirements parted.0 parted.1 broken (length_viewed configuration parts [] through parted.0 parted.3 ∙ many) (subst (λ list. IsFirstBroken requirements list (Some broken)) parted.2 first);
      last = many;
      place = refl;
      number = refl;
    }

-- the verdict of a round

-- if no view breaks a rule, all meet every relation, and what is required after them is known
lead_tested : (configuration : Configuration) (memories : List RuleMemory) (kept : List (List Cell)) (relations : List Relation) (parts : ℕ → Part) (records : List Ordered) (found : Option Refused) (new : List (List Cell))
    → IsTested configuration (record { memories = memories; kept = kept; relations = relations }) parts records found None new
    → MeetAndLead configuration memories kept relations parts (up_to found records) (record { memories = memories; kept = new; relations = relations })
lead_tested configuration memories kept [] parts records found new tested = refl
lead_tested configuration memories kept (relation ∷ relations) parts records found new tested =
    (tested.views, tested.viewed, tested.first, ap (λ keeps. record { memories = memories; kept = keeps; relations = relation ∷ relations }) tested.remembered)

pub leads_tested : (configuration : Configuration) (requirements : Requirements) (parts : ℕ → Part) (records : List Ordered) (found : Option Refused) (new : List (List Cell))
    → IsTested configuration requirements parts records found None new → ViewsLead configuration requirements parts (up_to found records) (with_kept requirements new)
leads_tested configuration requirements = lead_tested configuration requirements.memories requirements.kept requirements.relations

pub meet_tested : (configuration : Configuration) (requirements : Requirements) (parts : ℕ → Part) (records : List Ordered) (found : Option Refused) (new : List (List Cell))
    → IsTested configuration requirements parts records found None new → ViewsMeet configuration requirements parts (up_to found records)
meet_tested configuration requirements parts records found new tested =
    leads_meet configuration requirements (with_kept requirements new) parts (up_to found records) (leads_tested configuration requirements parts records found new tested)

-- the view that breaks a rule is one of the records'
pub breach_within : (configuration : Configuration) (requirements : Requirements) (parts : ℕ → Part) (records : List Ordered) (found : Option Refused) (breach : Option Breach) (new : List (List Cell))
    → IsTested configuration requirements parts records found breach new → IfSome breach (λ one. one.seen.index < length records)
breach_within configuration requirements parts records found None new tested = tt
breach_within configuration requirements parts records found (Some breach) new tested =
    let front = up_to_front records found in
    let first = tested.first in
    let inside : breach.seen.index < length tested.views = omega (arith, valued_length requirements.memories requirements.kept tested.views, ap length first.split, length-append first.before (first.view ∷ first.after), first.counted) in
    omega (arith, inside, length_viewed configuration parts [] (up_to found records) tested.views tested.viewed, ap length front.1, length-append (up_to found records) front.0)

-- what became of all pieces in a round
run_of_round : (configuration : Configuration) (old new : Judging) (records : List Ordered) (found : Option Refused) → IsRound configuration old records found new
    → HaveRun configuration (parts_of old) records found
run_of_round configuration old new records None is = λ number within. (parts_of new number, is.0 number within)
run_of_round configuration old new records (Some found) is = is.0

-- the verdict that ends a round holds, whatever comes after
pub ends_here : (configuration : Configuration) (requirements : Requirements) (old new : Judging) (records more : List Ordered) (found : Option Refused) (breach : Option Breach) (verdict : Verdict)
    → ArePlaced old.count records → IsRound configuration old records found new → IsTested configuration requirements (parts_of old) records found breach new.kept
    → against old.count found (broken_of breach) ≡ Some verdict → IsVerdictFrom configuration requirements (parts_of old) old.count (records ++ more) verdict
ends_here configuration requirements old new records more found (Some breach) verdict placed round tested is =
    let same : Broken (old.count + breach.seen.index) breach.rule ≡ verdict = cc in
    subst (IsVerdictFrom configuration requirements (parts_of old) old.count (records ++ more)) same
    (broken_here configuration requirements (parts_of old) old.count records more found tested.views (record { view = breach.seen.index; rule = breach.rule }) placed
    (run_of_round configuration old new records found round) tested.viewed tested.first)
ends_here configuration requirements old new records more (Some found) None verdict placed round tested is =
    let same : no_of found ≡ verdict = cc in
    subst (IsVerdictFrom configuration requirements (parts_of old) old.count (records ++ more)) same
    (no_here configuration requirements (parts_of old) old.count records more found placed round.0 (meet_tested configuration requirements (parts_of old) records (Some found) new.kept tested))
ends_here configuration requirements old new records more None None verdict placed round tested is = let none : ◌≡◌ {A = Option Verdict} None (Some verdict) = is in cc

-- if nothing decides against a round, all pieces ran over it, and its views meet every relation
pub goes_on_here : (configuration : Configuration) (requirements : Requirements) (old new : Judging) (records : List Ordered) (found : Option Refused) (breach : Option Breach)
    → IsRound configuration old records found new → IsTested configuration requirements (parts_of old) records found breach new.kept → against old.count found (broken_of breach) ≡ None
    → IsRound configuration old records None new × ViewsLead configuration requirements (parts_of old) records (with_kept requirements new.kept)
goes_on_here configuration requirements old new records found (Some breach) round tested is = let some : ◌≡◌ {A = Option Verdict} (Some (Broken (old.count + breach.seen.index) breach.rule)) None = is in cc
goes_on_here configuration requirements old new records (Some found) None round tested is = let some : ◌≡◌ {A = Option Verdict} (Some (no_of found)) None = is in cc
goes_on_here configuration requirements old new records None None round tested is = (round, leads_tested configuration requirements (parts_of old) records None new.kept tested)

-- the verdict that decides, else Yes
abbrev pub decided_or : Option Verdict → ℕ → Verdict
decided_or None count = Yes count
decided_or (Some verdict) count = verdict

-- where there are no memories, what is tested by relations alone is tested by what is required
pub tested_alone : (configuration : Configuration) (relations : List Relation) (kept : List (List Cell)) (parts : ℕ → Part) (records : List Ordered) (found : Option Refused) (breach : Option Breach)
    → IsTestedAlone configuration relations parts records found breach
    → IsTested configuration (record { memories = []; kept = kept; relations = relations }) parts records found breach kept
tested_alone configuration relations kept parts records found breach tested = record {
  views = tested.views;
  viewed = tested.viewed;
  first = subst (λ list. IsFirstAmong relations list (broken_of breach)) (sym (valued_alone kept tested.views)) tested.first;
  reported = tested.reported;
  remembered = sym (kept_alone kept (passed (broken_of breach) tested.views));
}

-- the verdict over all the records, which the pieces survey from the cold state on
pub plain_verdict : (configuration : Configuration) (relations : List Relation) (records : List Ordered) (pieces_before : List Holding) (survey : Survey) (decided : Option Verdict)
    → ArePlaced 0 records → AllRun configuration (cold_parts configuration) [] (parts_in pieces_before) → IsSurveyed configuration 0 records relations pieces_before survey
    → against 0 survey.found (broken_of survey.breach) ≡ decided → IsVerdict configuration (required_by [] relations) records (decided_or decided (length records))
plain_verdict configuration relations records pieces_before survey decided placed cold surveyed decides =
    verdict_on configuration required required (cold_parts configuration) (parts_in pieces_before) 0 [] records (decided_or decided (length records)) cold (lead_nowhere relations)
    (by decided decides)
  where
    required : Requirements
    required = required_by [] relations

    lead_nowhere : (relations : List Relation) → ViewsLead configuration (required_by [] relations) (cold_parts configuration) [] (required_by [] relations)
    lead_nowhere [] = refl
    lead_nowhere (relation ∷ relations) = ([], refl, (λ index one within. absurd (omega (arith, within))), refl)

    start : Judging
    start = record { count = 0; pieces = pieces_before; breach = None; kept = [] }

    end : Judging
    end = record { count = length records; pieces = survey.pieces.items; breach = survey.breach; kept = [] }

    round : IsRound configuration start records survey.found end
    round = round_is configuration start end records survey (omega arith) surveyed.outcome surveyed.going refl

    tested : IsTested configuration required (parts_in pieces_before) records survey.found survey.breach []
    tested = tested_alone configuration relations [] (parts_in pieces_before) records survey.found survey.breach surveyed.tested

    by : (decided : Option Verdict) → against 0 survey.found (broken_of survey.breach) ≡ decided
        → IsVerdictFrom configuration required (parts_in pieces_before) 0 records (decided_or decided (length records))
    by (Some verdict) decides =
        subst (λ list. IsVerdictFrom configuration required (parts_in pieces_before) 0 list verdict) (append-nil records)
        (ends_here configuration required start end records [] survey.found survey.breach verdict placed round tested decides)
    by None decides =
        let on = goes_on_here configuration required start end records survey.found survey.breach round tested decides in
        (omega (arith, on.0.1), (parts_in survey.pieces.items, on.0.0), leads_meet configuration required (with_kept required []) (parts_in pieces_before) records on.1)
