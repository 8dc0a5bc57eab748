-- How a run of `apexcheck` ends: the ends that only it has, with their exit statuses and their texts.
use Rattle.std.specs.Prelude.{ℕ, nat_lt, List, [], ◌++◌, Option, Some, None, Result, Ok, Err, codes, decimal, if◌then◌else◌}
use Rattle.program_ends.specs.declared.ending.Ending.{Ending}
use Rattle.program_ends.specs.declared.ending.Ending.TheVariants.{Own}
use Rattle.report.specs.declared.fault.CheckFault.{CheckFault}
use Rattle.report.specs.declared.last.LastItem.{LastItem}
use Rattle.report.specs.Last.{last_lines}
use Rattle.report.specs.Text.{outcome_status_of, report_of}
use Rattle.verdict_merge.specs.declared.verdict.Verdict.{Verdict}
use Rattle.verdict_merge.specs.declared.verdict.Verdict.TheVariants.{Yes}
use Rattle.check_result.specs.declared.ending.CheckEnd.{CheckEnd}
use Rattle.check_result.specs.declared.ending.TheConstants.{VERSION}
use Rattle.check_result.specs.declared.ending.CheckEnd.TheVariants.{Checked, Few, Rows, Version}
use Rattle.check_result.specs.RowsText.{rows_status, rows_text}

-- the end by a refusal of an input, or by a lack of memory: it is the check's own, and nothing is reported after it
abbrev pub refusing : CheckFault → CheckEnd
refusing fault = Checked (Err fault) None

-- the status of an outcome, 2 for too few records, that of what is found in rows alone, and 0 for the version
abbrev pub own_status_of : CheckEnd → ℕ
own_status_of (Checked outcome last) = outcome_status_of outcome
own_status_of (Few records) = 2
own_status_of (Rows found) = rows_status found.items
own_status_of Version = 0

-- the lines of the last records, if they are requested
abbrev pub lines_after : Option (List LastItem) → List ℕ
lines_after None = []
lines_after (Some items) = last_lines items

-- the report of an outcome, followed by the last records if they are requested; the refusal of too few records; what is found in rows alone;
-- or the version
abbrev pub own_text_of : CheckEnd → List ℕ
own_text_of (Checked outcome last) = report_of outcome ++ lines_after last
own_text_of (Few records) = codes "REFUSED few records=" ++ (decimal records ++ codes "\n")
own_text_of (Rows found) = rows_text found.items
own_text_of Version = codes "apexcheck " ++ (VERSION.now ++ codes "\n")

-- the end of a check by its outcome: a Yes for fewer records than are required is refused; every other outcome is reported, followed by the
-- last records if they are requested
abbrev pub end_of_check : Option ℕ → Result Verdict CheckFault → Option (List LastItem) → Ending CheckEnd
end_of_check (Some least) (Ok (Yes records)) last = if nat_lt records least then Own (Few records) else Own (Checked (Ok (Yes records)) last)
end_of_check _ outcome last = Own (Checked outcome last)
