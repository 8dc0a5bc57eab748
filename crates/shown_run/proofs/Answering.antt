-- What is said of the end of a view, by what was ahead of its placer.
use Rattle.std.proofs.Common.{◌≡◌, ◌≢◌, ◌⊎◌, ◌∙◌, ℕ, List, [], Option, Some, None, Result, Ok, Err, length, map, refl, sym, subst, inl, inr}
use Rattle.std.specs.Option.{option_map}
use Rattle.apex_machine.specs.Configuration.{Configuration, WindowsAreConfigured}
use Rattle.core_intake.specs.Answered.{answered as lane_of}
use Rattle.module_config.specs.declared.fault.ConfigFault.{ConfigFault}
use Rattle.module_config.specs.declared.fault.ConfigFault.TheVariants as config
use Rattle.module_config.specs.Reading.{configuration_of}
use Rattle.order_cert.specs.Kept.{none_taken, place_of, taken_of}
use Rattle.order_cert.specs.Row.{pairs_of}
use Rattle.placement.specs.Lanes.{Placing}
use Rattle.placement.specs.Reading.{CanFail}
use Rattle.program_ends.specs.declared.ending.Ending.{Ending}
use Rattle.program_ends.specs.declared.ending.Ending.TheVariants.{Own}
use Rattle.program_ends.specs.Endings.{out_of_memory}
use Rattle.record_read.specs.Row.{records_of}
use Rattle.report.specs.declared.fault.ArgumentFault.TheVariants.{ReaderCount}
use Rattle.report.specs.declared.fault.CheckFault.{CheckFault}
use Rattle.report.specs.declared.fault.CheckFault.TheVariants.{Arguments, Memory}
use Rattle.report.specs.declared.settings.Settings.{Settings}
use Rattle.report.specs.Answers.{Answers, Given, IsAnswer}
use Rattle.report.specs.Inputs.{Texts, items_at}
use Rattle.report.specs.Last.{last_of, settled}
use Rattle.report.specs.Outcome.{argument_fault_of, config_refusal_of}
use Rattle.report.proofs.Answering.{answered, refused_configuration, refused_count, want_of_memory}
use Rattle.report.proofs.Lawful.{scan_placed}
use Rattle.report.proofs.Whole.{known_lanes, scanned_texts}
use Rattle.shown_run.specs.Judged.{IsAnswerOf}
use Rattle.user_rules.specs.Remembered.{Requirements}
use Rattle.verdict_merge.proofs.Refusing.{run_up_to_no}
use Rattle.verdict_merge.proofs.Ruled.{run_where_yes}
use Rattle.verdict_merge.specs.declared.verdict.Verdict.{Verdict}
use Rattle.apex_machine.specs.Channels.{EndsAreApart}
use Rattle.shown_run.specs.declared.ending.ViewEnd.{ViewEnd}
use Rattle.shown_run.specs.declared.ending.ViewEnd.TheVariants.{Checked}
use Rattle.shown_run.specs.Endings.{refusing}
use Rattle.shown_run.specs.Shown.{EndsAs, IsShown}

-- what is given by readers of these recordings, and by one of the certificate
abbrev pub given_as : {A : Type 0} → List ℕ → (A → Option (List ℕ)) → List A → Option (List ℕ) → CanFail → Given
given_as text known readers bytes can_fail = record { config = text; recordings = map known readers; certificate = bytes; can_fail = can_fail }

-- the answer of a check of what a placer has ahead is that of the texts of its readers
pub answer_of_texts : {A : Type 0} (known : A → Option (List ℕ)) (readers : List A) (bytes : Option (List ℕ)) (can_fail : CanFail) (text : List ℕ) (requirements : Requirements) (settings : Settings)
    (configuration : Configuration) (placing : Placing) (outcome : Result Verdict CheckFault) → argument_fault_of settings ≡ None → configuration_of text ≡ Ok configuration
    → length readers ≡ configuration.cores → placing.lanes ≡ map (λ reader. lane_of (option_map records_of (known reader)) []) readers → placing.pairs ≡ option_map pairs_of bytes
    → taken_of placing.kept ≡ none_taken → place_of placing.kept ≡ 0 → WindowsAreConfigured configuration → EndsAreApart configuration
    → IsAnswerOf can_fail configuration requirements placing outcome → Answers (given_as text known readers bytes can_fail) requirements settings outcome
answer_of_texts known readers bytes can_fail text requirements settings configuration placing outcome none read cores opened pairs taken place windows ends (inl memory) =
    ([], λ recordings certificate e is. subst (λ one. IsAnswer settings (record { config = text; recordings = recordings; certificate = certificate }) can_fail requirements one []) (sym memory) (want_of_memory refl))
answer_of_texts known readers bytes can_fail text requirements settings configuration placing outcome none read cores opened pairs taken place windows ends (inr (scanned, ahead, judged)) = (
  settled outcome (last_of outcome scanned.placed),
  λ recordings certificate e is.
      let texts : Texts = record { config = text; recordings = recordings; certificate = certificate } in
      let count : length recordings ≡ configuration.cores = let lanes = known_lanes known readers recordings e in sym lanes.0 ∙ cores in
      answered settings texts can_fail requirements configuration outcome (last_of outcome scanned.placed) none read count
      (λ one verdict scan found. (
        run_where_yes configuration requirements one.placed verdict windows ends (scan_placed can_fail (length recordings) (items_at recordings) (pairs_of certificate) one scan) found,
        run_up_to_no configuration requirements one.placed verdict windows ends (scan_placed can_fail (length recordings) (items_at recordings) (pairs_of certificate) one scan) found,
      ))
      (inr (record {
        scanned = scanned;
        scan = scanned_texts can_fail known readers recordings certificate bytes placing scanned e is opened pairs taken place ahead;
        judged = judged;
        reported = refl;
      })),
)

-- so is the end of a view
pub end_of_texts : {A : Type 0} (known : A → Option (List ℕ)) (readers : List A) (bytes : Option (List ℕ)) (can_fail : CanFail) (text : List ℕ) (requirements : Requirements) (settings : Settings)
    (configuration : Configuration) (placing : Placing) (ending : Ending ViewEnd) → argument_fault_of settings ≡ None → configuration_of text ≡ Ok configuration
    → length readers ≡ configuration.cores → placing.lanes ≡ map (λ reader. lane_of (option_map records_of (known reader)) []) readers → placing.pairs ≡ option_map pairs_of bytes
    → taken_of placing.kept ≡ none_taken → place_of placing.kept ≡ 0 → WindowsAreConfigured configuration → EndsAreApart configuration
    → IsShown can_fail configuration requirements placing ending → EndsAs (given_as text known readers bytes can_fail) requirements settings ending
end_of_texts known readers bytes can_fail text requirements settings configuration placing ending none read cores opened pairs taken place windows ends (inl unwritten) = inl unwritten
end_of_texts known readers bytes can_fail text requirements settings configuration placing ending none read cores opened pairs taken place windows ends (inr (outcome, is, answer)) =
    inr (outcome, is, answer_of_texts known readers bytes can_fail text requirements settings configuration placing outcome none read cores opened pairs taken place windows ends answer)

-- a lack of memory is an answer of any texts
pub memory_ends : (given : Given) (requirements : Requirements) (settings : Settings) (ending : Ending ViewEnd) → ending ≡ out_of_memory refusing → EndsAs given requirements settings ending
memory_ends given requirements settings ending is = inr (Err Memory, is, ([], λ recordings certificate e known. want_of_memory refl))

-- the refusal of the configuration
pub configuration_of_texts : {A : Type 0} (known : A → Option (List ℕ)) (readers : List A) (bytes : Option (List ℕ)) (can_fail : CanFail) (text : List ℕ) (requirements : Requirements)
    (settings : Settings) (fault : ConfigFault) → argument_fault_of settings ≡ None → (fault ≢ config.Memory → configuration_of text ≡ Err fault)
    → EndsAs (given_as text known readers bytes can_fail) requirements settings (Own (Checked (Err (config_refusal_of fault))))
configuration_of_texts known readers bytes can_fail text requirements settings fault none read =
    inr (Err (config_refusal_of fault), refl, ([], λ recordings certificate e is. refused_configuration fault refl none read))

-- the refusal of another number of recordings than the configured one
pub count_of_texts : {A : Type 0} (known : A → Option (List ℕ)) (readers : List A) (bytes : Option (List ℕ)) (can_fail : CanFail) (text : List ℕ) (requirements : Requirements) (settings : Settings)
    (configuration : Configuration) → argument_fault_of settings ≡ None → configuration_of text ≡ Ok configuration → length readers ≢ configuration.cores
    → EndsAs (given_as text known readers bytes can_fail) requirements settings (Own (Checked (Err (Arguments ReaderCount))))
count_of_texts known readers bytes can_fail text requirements settings configuration none read apart =
    inr (
      Err (Arguments ReaderCount),
      refl,
      (
        [],
        λ recordings certificate e is.
            refused_count configuration refl none read (λ same. apart (let lanes = known_lanes known readers recordings e in lanes.0 ∙ same)),
      ),
    )
