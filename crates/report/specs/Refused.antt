-- What a refusal of the input means.
use Rattle.std.specs.Prelude.{List, Result, Err, length}
use Rattle.apex_types.specs.declared.record.Pair.{Pair}
use Rattle.placement.specs.declared.fault.InputFault.{InputFault}
use Rattle.placement.specs.Refusal.{AreTaken, IsFirstFault}
use Rattle.verdict_merge.specs.declared.verdict.Verdict.{Verdict}
use Rattle.report.specs.declared.fault.CheckFault.{CheckFault}
use Rattle.report.specs.declared.fault.CheckFault.TheVariants.{Input}
use Rattle.report.specs.Inputs.{Readings, Texts, given_of_certificate, given_of_core}

-- this is the first fault of the recordings and the certificate, as far as they are read: everything before its place is good
abbrev pub IsFirstOf : Texts → Readings → InputFault → Type 0
IsFirstOf texts readings fault =
    (pairs : List Pair) × AreTaken (length texts.recordings) (given_of_core texts readings) (given_of_certificate texts readings) pairs
    × IsFirstFault (length texts.recordings) (given_of_core texts readings) (given_of_certificate texts readings) pairs fault

-- a refusal of the recordings, the certificate or the order is for their first fault
abbrev pub RefusalMeansFault : Texts → Readings → Result Verdict CheckFault → Type 0
RefusalMeansFault texts readings (Err (Input fault)) = IsFirstOf texts readings fault
RefusalMeansFault texts readings _ = Unit {0}
