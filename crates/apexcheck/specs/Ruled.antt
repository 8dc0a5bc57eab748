-- What a check under the rules of options and of a rules file answers, and how its run ends.
use Rattle.std.specs.Prelude.{◌≡◌, ◌⊎◌, ℕ, Bool, true, false, List, [], Option, Some, None, Result, Ok, Err}
use Rattle.asked_rules.specs.Asked.{AreRequired, rules_given}
use Rattle.program_ends.specs.declared.ending.Ending.{Ending}
use Rattle.program_ends.specs.Endings.{out_of_memory, refused_rules}
use Rattle.report.specs.declared.fault.CheckFault.{CheckFault}
use Rattle.report.specs.declared.fault.CheckFault.TheVariants.{Memory}
use Rattle.report.specs.declared.settings.Settings.{Settings}
use Rattle.report.specs.declared.last.LastItem.{LastItem}
use Rattle.report.specs.Answers.{AnswersWith, Given}
use Rattle.asked_rules.specs.declared.option.RuleOption.{RuleOption}
use Rattle.asked_rules.specs.declared.fault.RulesFault.{RulesFault}
use Rattle.asked_rules.specs.Reading.{SaidFile}
use Rattle.user_rules.specs.Remembered.{Requirements}
use Rattle.verdict_merge.specs.declared.verdict.Verdict.{Verdict}
use Rattle.check_result.specs.declared.ending.CheckEnd.{CheckEnd}
use Rattle.check_result.specs.Endings.{end_of_check, refusing}

-- the answer, and the last records that it leaves, are those of these inputs under the memories of the file and relations that say what the
-- options request, followed by what the rules of the file say, in their order; a lack of memory outranks them, and leaves no last records
abbrev pub AnswersRuled : Given → List RuleOption → SaidFile → Settings → Result Verdict CheckFault → List LastItem → Type 0
AnswersRuled given options file settings result last =
    ((result ≡ Err Memory) × (last ≡ []))
    ⊎ ((requirements : Requirements) × AreRequired options file requirements × AnswersWith given requirements settings result last)

-- the last records are in an end if they are requested, and in no other
abbrev pub where_asked : Bool → List LastItem → Option (List LastItem)
where_asked true last = Some last
where_asked false last = None

-- the end for a rules file: its first refusal, else the end by the answer under its rules, which refuses a Yes for fewer records than are
-- required, with the last records if they are requested
abbrev pub IsEndingBy : Result SaidFile RulesFault → Given → List RuleOption → Settings → Option ℕ → Bool → Ending CheckEnd → Type 0
IsEndingBy (Err fault) given options settings least asked ending = ending ≡ refused_rules refusing fault
IsEndingBy (Ok file) given options settings least asked ending =
    (outcome : Result Verdict CheckFault) × (last : List LastItem) × (ending ≡ end_of_check least outcome (where_asked asked last))
    × AnswersRuled given options file settings outcome last

-- the end of a run over these inputs, with the rules file if there is one, with the number of records that are required, if it is given, and
-- with the last records if they are requested; a lack of memory outranks it
abbrev pub IsRuledEnding : Given → List RuleOption → Option (List ℕ) → Settings → Option ℕ → Bool → Ending CheckEnd → Type 0
IsRuledEnding given options rules settings least asked ending =
    (ending ≡ out_of_memory refusing) ⊎ IsEndingBy (rules_given rules) given options settings least asked ending
