-- What a No and a broken rule mean: up to there all pieces run, so the machine does.
use Rattle.std.proofs.Common.{◌≡◌, ◌<◌, ◌≤◌, ◌-◌, ◌∙◌, ℕ, zero, suc, List, [], ◌∷◌, ◌++◌, Some, IsTrue, length, refl, sym, ap, subst, inl, inr, arith}
use Rattle.std.proofs.lemmas.Bool.{cases_lt}
use Rattle.apex_types.specs.declared.record.Ordered.{Ordered}
use Rattle.apex_machine.specs.Channels.{EndsAreApart, channel_numbers}
use Rattle.apex_machine.specs.Configuration.{Configuration, WindowsAreConfigured}
use Rattle.apex_machine.specs.Pieces.{is_configured, part, pieces}
use Rattle.apex_machine.specs.Runs.{ArePlaced, PieceRun}
use Rattle.apex_machine.specs.State.{State, cold_state}
use Rattle.apex_machine.specs.Step.{Run, Step}
use Rattle.apex_laws.proofs.Joins.{runs_join}
use Rattle.apex_laws.proofs.Runs.{run_of_each}
use Rattle.apex_laws.proofs.Stays.{stays_tied}
use Rattle.module_config.proofs.Numbers.{number-at, numbered-at}
use Rattle.piece_check.proofs.Numbering.{length-pieces, piece_at_channel, piece_at_partition}
use Rattle.piece_check.specs.Parts.{piece_at}
use Rattle.user_rules.specs.declared.broken.Broken.{Broken as BrokenView}
use Rattle.user_rules.specs.Remembered.{Requirements}
use Rattle.user_rules.specs.FirstBroken.{IsFirstBroken}
use Rattle.verdict_merge.specs.declared.finding.Refused.{Refused}
use Rattle.verdict_merge.specs.declared.verdict.Verdict.{Verdict}
use Rattle.verdict_merge.specs.declared.verdict.Verdict.TheVariants.{Yes, No, Broken}
use Rattle.verdict_merge.specs.Refusals.{IsBrokenAt, IsRefusedAt, IsRunUpToNo, VerdictIsOfTheMachine}
use Rattle.verdict_merge.specs.Rounds.{IsNo, cold_parts}
use Rattle.verdict_merge.specs.Verdicts.{IsBroken, IsVerdict, ViewsMeet}
use Rattle.verdict_merge.proofs.Ruled.{run_meets, run_where_yes}
use Rattle.verdict_merge.proofs.Silence.{machine_runs}
use Rattle.verdict_merge.proofs.Splits.{placed_front}
use Rattle.verdict_merge.proofs.Verdicts.{no_at, runs_and_refuses, runs_up_to}
use Rattle.verdict_merge.proofs.ViewedRun.{views_are_of_the_run}

-- each piece that has a number is configured

channel_at : (configuration : Configuration) (index : ℕ) → suc index < length (pieces configuration) → length configuration.partitions ≤ index
    → IsTrue (is_configured configuration (piece_at configuration (suc index)))
channel_at configuration index within past =
    let many = length-pieces configuration in
    let below : suc index - 1 - length configuration.partitions < length (channel_numbers configuration) = omega (arith, within, many, past) in
    rw (piece_at_channel configuration (suc index) (omega arith) (omega (arith, past)) below)
    (number-at configuration (channel_numbers configuration) (suc index - 1 - length configuration.partitions) 0 refl below)

configured_at : (configuration : Configuration) (number : ℕ) → number < length (pieces configuration) → IsTrue (is_configured configuration (piece_at configuration number))
configured_at configuration zero within = refl
configured_at configuration (suc index) within = elim (cases_lt index (length configuration.partitions)) [
  | inl below ↦
      rw (piece_at_partition configuration (suc index) (omega arith) (omega (arith, below)))
      (numbered-at (λ limits. limits.number) configuration.partitions (suc index - 1) 0 (omega (arith, below)))
  | inr past ↦ channel_at configuration index within past
]

-- a No

-- a piece that runs over these records and refuses the next one has no local step there, so the machine has none
no_step_there : (configuration : Configuration) (records : List Ordered) (found : Refused) → EndsAreApart configuration
    → (is_shown : IsNo configuration (cold_parts configuration) records found) (reached : State) → Run configuration (cold_state configuration) is_shown.before reached
    → (next : State) → ¬ Step configuration reached is_shown.ordered next
no_step_there configuration records found ends is_shown reached run next step =
    let piece = piece_at configuration found.piece in
    let known = configured_at configuration found.piece is_shown.piece in
    let cold = cold_state configuration in
    let before = run_of_each configuration cold is_shown.before reached ends (stays_tied.0 configuration) run piece known in
    let there = run_of_each configuration reached (is_shown.ordered ∷ []) next ends (stays_tied.2 configuration is_shown.before cold reached (stays_tied.0 configuration) run) (next, step, refl) piece known in
    let whole : PieceRun configuration piece (part piece cold) (is_shown.before ++ is_shown.ordered ∷ []) (part piece next) =
    (runs_join configuration piece (part piece cold) is_shown.before (is_shown.ordered ∷ []) (part piece next)).1 (part piece reached, before, there) in
    runs_and_refuses configuration piece (part piece cold) is_shown.before is_shown.ordered found.cause (part piece next) whole is_shown.refused

refused_at : (configuration : Configuration) (requirements : Requirements) (records : List Ordered) (found : Refused)
    → WindowsAreConfigured configuration → EndsAreApart configuration → ArePlaced 0 records
    → (is_shown : IsNo configuration (cold_parts configuration) records found) → ViewsMeet configuration requirements (cold_parts configuration) is_shown.before
    → IsRefusedAt configuration requirements records found.pos
refused_at configuration requirements records found windows ends placed is_shown meet =
    let front = placed_front 0 is_shown.before (is_shown.ordered ∷ is_shown.after) (subst (ArePlaced 0) is_shown.split placed) in
    let run = machine_runs configuration is_shown.before windows front (runs_up_to configuration (cold_parts configuration) records found is_shown) in
    record {
      before = is_shown.before;
      ordered = is_shown.ordered;
      after = is_shown.after;
      split = is_shown.split;
      place = omega (arith, no_at configuration (cold_parts configuration) 0 records found placed is_shown);
      reached = run.0;
      run = run.1;
      meets = run_meets configuration requirements is_shown.before run.0 run.1 ends meet;
      no_step = no_step_there configuration records found ends is_shown run.0 run.1;
    }

-- a broken rule

abbrev broken_of : ℕ → ℕ → BrokenView
broken_of view rule = record { view = view; rule = rule }

broken_at : (configuration : Configuration) (requirements : Requirements) (records : List Ordered) (pos rule : ℕ)
    → WindowsAreConfigured configuration → EndsAreApart configuration → ArePlaced 0 records
    → IsBroken configuration requirements (cold_parts configuration) 0 records pos rule → IsBrokenAt configuration requirements records pos rule
broken_at configuration requirements records pos rule windows ends placed is =
    let front = placed_front 0 is.through is.after (subst (ArePlaced 0) is.split placed) in
    let run = machine_runs configuration is.through windows front is.runs in
    let views = views_are_of_the_run configuration (cold_state configuration) [] is.through run.0 is.views ends (stays_tied.0 configuration) (λ piece known. refl) is.viewed run.1 in
    let reported : is.broken ≡ broken_of pos rule = same is.broken (omega (arith, is.place)) (sym is.number) in
    record {
      through = is.through;
      after = is.after;
      split = is.split;
      place = omega (arith, is.last, is.place);
      final = run.0;
      run = run.1;
      first = subst (λ list. IsFirstBroken requirements list (Some (broken_of pos rule))) views (subst (λ broken. IsFirstBroken requirements is.views (Some broken)) reported is.first);
    }
  where
    same : (broken : BrokenView) → broken.view ≡ pos → broken.rule ≡ rule → broken ≡ broken_of pos rule
    same broken view number =
        ap (λ one. broken_of one broken.rule) view ∙ ap (λ one. broken_of pos one) number

-- the machine runs up to what a verdict reports
pub run_up_to_no : (configuration : Configuration) (requirements : Requirements) (records : List Ordered) (verdict : Verdict)
    → WindowsAreConfigured configuration → EndsAreApart configuration → ArePlaced 0 records → IsVerdict configuration requirements records verdict
    → IsRunUpToNo configuration requirements records verdict
run_up_to_no configuration requirements records (Yes count) windows ends placed is = tt
run_up_to_no configuration requirements records (No place piece cause) windows ends placed (is_shown, meet) =
    refused_at configuration requirements records (record { pos = place; piece = piece; cause = cause }) windows ends placed is_shown meet
run_up_to_no configuration requirements records (Broken place rule) windows ends placed is = broken_at configuration requirements records place rule windows ends placed is

pub verdict_is_of_the_machine : VerdictIsOfTheMachine
verdict_is_of_the_machine configuration requirements records verdict windows ends placed is = (
  run_where_yes configuration requirements records verdict windows ends placed is,
  run_up_to_no configuration requirements records verdict windows ends placed is,
)
