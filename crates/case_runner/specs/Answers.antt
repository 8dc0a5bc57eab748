-- What answers a case, and what is expected.
use Rattle.std.specs.Prelude.{◌≡◌, ◌↔◌, ◌++◌, ◌∷◌, [], ℕ, Bool, false, List, Option, IfSome, Result}
use Rattle.verdict_merge.specs.declared.verdict.Verdict.{Verdict}
use Rattle.placement.specs.Reading.{CanFail}
use Rattle.report.specs.declared.fault.CheckFault.{CheckFault}
use Rattle.report.specs.declared.settings.Settings.{Settings}
use Rattle.report.specs.declared.last.LastItem.{LastItem}
use Rattle.report.specs.Answers.{IsAnswer}
use Rattle.report.specs.Inputs.{Texts}
use Rattle.report.specs.Last.{last_lines}
use Rattle.report.specs.Text.{outcome_status_of, report_of}
use Rattle.asked_rules.specs.declared.option.RuleOption.{RuleOption}
use Rattle.asked_rules.specs.Options.{SayInTurn}
use Rattle.user_rules.specs.declared.relation.Relation.{Relation}
use Rattle.user_rules.specs.Remembered.{required_by}
use Rattle.case_runner.specs.declared.manner.Named.{Named}

-- what a check reported: the line without its line feed, the lines of the last records with theirs, and the exit status
pub record Reported : Type 0 where
  pub line : List ℕ
  pub last : List ℕ
  pub status : ℕ

abbrev pub reported_by : List ℕ → List ℕ → ℕ → Reported
reported_by line last status = record { line = line; last = last; status = status }

-- what is expected; the lines of the last records only if a case names them
pub record Wanted : Type 0 where
  pub line : List ℕ
  pub last : Option (List ℕ)
  pub status : ℕ

abbrev pub wanted_by : List ℕ → Option (List ℕ) → ℕ → Wanted
wanted_by line last status = record { line = line; last = last; status = status }

-- what was reported is what is expected
abbrev pub IsWanted : Reported → Wanted → Type 0
IsWanted found wanted = (found.line ≡ wanted.line) × IfSome wanted.last (λ lines. found.last ≡ lines) × (found.status ≡ wanted.status)

-- reading a text in memory cannot fail
abbrev pub in_memory : CanFail
in_memory = record { recordings = false; certificate = false }

-- the line, ended by a line feed, is the report of an answer that a check of these texts has with these settings and under relations that
-- say what these options request; the lines of the last records are those of that answer; and the status is that answer's
pub record IsReportOf (settings : Settings) (texts : Texts) (options : List RuleOption) (found : Reported) : Type 0 where
  pub relations : List Relation
  pub asked : SayInTurn options relations
  pub outcome : Result Verdict CheckFault
  pub items : List LastItem
  pub answer : IsAnswer settings texts in_memory (required_by [] relations) outcome items
  pub line : found.line ++ 10 ∷ [] ≡ report_of outcome
  pub last : found.last ≡ last_lines items
  pub status : found.status ≡ outcome_status_of outcome

-- the texts of a case
abbrev pub texts_of : List ℕ → List (List ℕ) → List ℕ → Texts
texts_of config recordings order = record { config = config; recordings = recordings; certificate = order }

-- a check of these texts was made with settings that the case names, and whether what it reported differs from what is expected
abbrev pub IsCompared : Named → Texts → List RuleOption → Wanted → Bool → Type 0
IsCompared named texts options wanted differs =
    (settings : Settings) × IfSome named.workers (λ workers. settings.workers ≡ workers) × IfSome named.depth (λ depth. settings.depth ≡ depth)
    × (found : Reported) × IsReportOf settings texts options found × ((differs ≡ false) ↔ IsWanted found wanted)
