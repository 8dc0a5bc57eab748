-- How a run that is shown ends: the ends that only it has, with their exit statuses and their lines.
use Rattle.std.specs.Prelude.{ℕ, List, [], Err, codes}
use Rattle.report.specs.declared.fault.CheckFault.{CheckFault}
use Rattle.report.specs.Text.{outcome_status_of, report_of}
use Rattle.shown_run.specs.declared.ending.ViewEnd.{ViewEnd}
use Rattle.shown_run.specs.declared.ending.ViewEnd.TheVariants.{Checked, Unwritten, Version, Help}

-- the end by a refusal of an input, or by a lack of memory, is the check's own
abbrev pub refusing : CheckFault → ViewEnd
refusing fault = Checked (Err fault)

-- the status of an outcome, 0 for the version and the help, and 4 if standard output could not be written
abbrev pub own_status_of : ViewEnd → ℕ
own_status_of (Checked outcome) = outcome_status_of outcome
own_status_of Unwritten = 4
own_status_of Version = 0
own_status_of Help = 0

-- the report of an outcome, or that standard output could not be written; after the version and the help there is no line
abbrev pub own_text_of : ViewEnd → List ℕ
own_text_of (Checked outcome) = report_of outcome
own_text_of Unwritten = codes "apexview: standard output could not be written\n"
own_text_of Version = []
own_text_of Help = []
