-- What a No and a broken rule say of the machine.
use Rattle.std.specs.Prelude.{◌≡◌, ℕ, suc, List, ◌∷◌, ◌++◌, Some, length}
use Rattle.apex_types.specs.declared.record.Ordered.{Ordered}
use Rattle.apex_machine.specs.Channels.{EndsAreApart}
use Rattle.apex_machine.specs.Configuration.{Configuration, WindowsAreConfigured}
use Rattle.apex_machine.specs.Runs.{ArePlaced}
use Rattle.apex_machine.specs.State.{State, cold_state}
use Rattle.apex_machine.specs.Step.{Run, Step}
use Rattle.apex_machine.specs.Views.{run_views}
use Rattle.user_rules.specs.FirstBroken.{AllMeet, IsFirstBroken}
use Rattle.user_rules.specs.Remembered.{Requirements}
use Rattle.verdict_merge.specs.declared.verdict.Verdict.{Verdict}
use Rattle.verdict_merge.specs.declared.verdict.Verdict.TheVariants.{Yes, No, Broken}
use Rattle.verdict_merge.specs.Verdicts.{IsRunWhereYes, IsVerdict}

-- the records before this place are a run of the machine from the cold state, in which each view meets every relation, and the
-- machine has no step that takes the record at this place
pub record IsRefusedAt (configuration : Configuration) (requirements : Requirements) (records : List Ordered) (pos : ℕ) : Type 0 where
  pub before : List Ordered
  pub ordered : Ordered
  pub after : List Ordered
  pub split : records ≡ before ++ ordered ∷ after
  pub place : length before ≡ pos
  pub reached : State
  pub run : Run configuration (cold_state configuration) before reached
  pub meets : AllMeet requirements (run_views configuration (cold_state configuration) before reached run)
  pub no_step : (next : State) → ¬ Step configuration reached ordered next

-- the records up to this place and the one there are a run of the machine from the cold state; the view of the one there is the
-- first that breaks a rule, and of the rules that it breaks this one has the smallest number
pub record IsBrokenAt (configuration : Configuration) (requirements : Requirements) (records : List Ordered) (pos rule : ℕ) : Type 0 where
  pub through : List Ordered
  pub after : List Ordered
  pub split : records ≡ through ++ after
  pub place : length through ≡ suc pos
  pub final : State
  pub run : Run configuration (cold_state configuration) through final
  pub first : IsFirstBroken requirements (run_views configuration (cold_state configuration) through final run) (Some (record { view = pos; rule = rule }))

-- what a No and a broken rule mean: up to the place the records are a run of the machine, and the verdict's finding is there
abbrev pub IsRunUpToNo : Configuration → Requirements → List Ordered → Verdict → Type 0
IsRunUpToNo configuration requirements records (Yes count) = Unit {0}
IsRunUpToNo configuration requirements records (No pos piece cause) = IsRefusedAt configuration requirements records pos
IsRunUpToNo configuration requirements records (Broken pos rule) = IsBrokenAt configuration requirements records pos rule

-- the law

-- if each window is of a configured partition, and no partition is at both ends of a queuing channel, a verdict means for the machine
-- what it says
abbrev pub VerdictIsOfTheMachine : Type 0
VerdictIsOfTheMachine =
    (configuration : Configuration) (requirements : Requirements) (records : List Ordered) (verdict : Verdict)
    → WindowsAreConfigured configuration → EndsAreApart configuration → ArePlaced 0 records → IsVerdict configuration requirements records verdict
    → IsRunWhereYes configuration requirements records verdict × IsRunUpToNo configuration requirements records verdict
