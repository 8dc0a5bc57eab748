-- How a run of the program ends.
use Rattle.std.specs.Prelude.{◌≡◌, ◌⊎◌, ℕ, List, Option, IsOk, Result, Ok, Err}
use Rattle.recording_maker.specs.declared.fault.MakeFault.{MakeFault}
use Rattle.recording_maker.specs.declared.fault.MakeFault.TheVariants as fault
use Rattle.recording_maker.specs.declared.made.MadeRun.{MadeRun}
use Rattle.recording_maker.specs.Made.{IsMade}
use Rattle.module_config.specs.Reading.{configuration_of}
use Rattle.recording_walk.specs.declared.walking.WalkPlan.{WalkPlan}
use Rattle.sink.specs.Written.{IsWritten}
use Rattle.verdict_merge.specs.declared.verdict.Verdict.{Verdict}
use Rattle.apexmake.specs.declared.ending.Ending.{Ending}
use Rattle.apexmake.specs.declared.ending.Ending.TheVariants as ending
use Rattle.apexmake.specs.declared.ending.Ending.TheVariants.{Made, Module, BadConfig, NotSpoilt, Stuck, Judged, OtherFormat, NoModule, BadUsage, Unopened, NotFree, Unwritten, Version, Help}
use Rattle.apexmake.specs.declared.usage.Asked.{Asked}
use Rattle.apexmake.specs.declared.usage.Asked.TheVariants as asks
use Rattle.apexmake.specs.declared.usage.UsageFault.{UsageFault}
use Rattle.apexmake.specs.declared.usage.UsageFault.TheVariants as words
use Rattle.apexmake.specs.Received.{NamedText, files_of, with_files}

-- 0 if something was made, for the version and the help; 2 for each refusal, 3 if memory is refused, 4 if an output failed
abbrev pub status_of : Ending → ℕ
status_of (Made verdict) = 0
status_of Module = 0
status_of Version = 0
status_of Help = 0
status_of (BadConfig which) = 2
status_of NotSpoilt = 2
status_of Stuck = 2
status_of (Judged outcome) = 2
status_of OtherFormat = 2
status_of (NoModule which) = 2
status_of BadUsage = 2
status_of Unopened = 2
status_of NotFree = 2
status_of ending.Memory = 3
status_of Unwritten = 4

-- the end if no recordings were made
abbrev pub ending_of_fault : MakeFault → Ending
ending_of_fault (fault.Config which) = BadConfig which
ending_of_fault fault.NotSpoilt = NotSpoilt
ending_of_fault fault.Stuck = Stuck
ending_of_fault (fault.Judged outcome) = Judged outcome
ending_of_fault fault.OtherFormat = OtherFormat
ending_of_fault fault.Memory = ending.Memory

-- the end where the command line is refused
abbrev pub ending_of_words : UsageFault → Ending
ending_of_words words.Usage = BadUsage
ending_of_words words.Memory = ending.Memory

-- what a folder and an output have received
pub record Received : Type 0 where
  pub files : Option (List NamedText)
  pub bytes : Option (List ℕ)

abbrev pub received : Option (List NamedText) → Option (List ℕ) → Received
received files bytes = record { files = files; bytes = bytes }

-- a run over this configuration is written: the folder received exactly its files, and the output its line; or one of them failed
abbrev pub HasWritten : List ℕ → MadeRun → Received → Received → Ending → Type 0
HasWritten config made before after (Made verdict) =
    (made.verdict ≡ verdict) × (after.files ≡ with_files before.files (files_of config made)) × IsWritten before.bytes made.line.items after.bytes
HasWritten config made before after Unwritten = Unit {0}
HasWritten config made before after _ = ⊥

-- a run was made by this plan over some configuration, whose check has this verdict; the folder received exactly its files, and the output
-- its line
pub record HasMade (plan : WalkPlan) (before after : Received) (verdict : Verdict) : Type 0 where
  pub config : List ℕ
  pub made : MadeRun
  pub run : IsMade config plan made
  pub same : made.verdict ≡ verdict
  pub files : after.files ≡ with_files before.files (files_of config made)
  pub line : IsWritten before.bytes made.line.items after.bytes

-- a run that is to make recordings by this plan ends so: they are made; or an output failed; or nothing is written
abbrev pub EndsAsAsked : WalkPlan → Option (List NamedText) → Option (List NamedText) → Option (List ℕ) → Option (List ℕ) → Ending → Type 0
EndsAsAsked plan files_before files_after bytes_before bytes_after (Made verdict) = HasMade plan (received files_before bytes_before) (received files_after bytes_after) verdict
EndsAsAsked plan files_before files_after bytes_before bytes_after Unwritten = Unit {0}
EndsAsAsked plan files_before files_after bytes_before bytes_after Module = ⊥
EndsAsAsked plan files_before files_after bytes_before bytes_after Version = ⊥
EndsAsAsked plan files_before files_after bytes_before bytes_after Help = ⊥
EndsAsAsked plan files_before files_after bytes_before bytes_after _ = (files_after ≡ files_before) × (bytes_after ≡ bytes_before)

-- a run that is to make a module ends so: the output received the text of a configuration; or it failed, or received nothing
abbrev pub EndsWithModule : Option (List ℕ) → Option (List ℕ) → Ending → Type 0
EndsWithModule before after Module = (text : List ℕ) × IsOk (configuration_of text) × IsWritten before text after
EndsWithModule before after Unwritten = Unit {0}
EndsWithModule before after (NoModule which) = after ≡ before
EndsWithModule before after ending.Memory = after ≡ before
EndsWithModule before after _ = ⊥

-- a run for what the command line requests
abbrev pub EndsBy : Result Asked UsageFault → Option (List NamedText) → Option (List NamedText) → Option (List ℕ) → Option (List ℕ) → Ending → Type 0
EndsBy (Ok (asks.Run asked)) files_before files_after bytes_before bytes_after end = EndsAsAsked asked.plan files_before files_after bytes_before bytes_after end
EndsBy (Ok (asks.Module seed)) files_before files_after bytes_before bytes_after end = EndsWithModule bytes_before bytes_after end × (files_after ≡ files_before)
EndsBy (Ok asks.Version) files_before files_after bytes_before bytes_after end = ((end ≡ Version) ⊎ (end ≡ Unwritten)) × (files_after ≡ files_before)
EndsBy (Ok asks.Help) files_before files_after bytes_before bytes_after end = ((end ≡ Help) ⊎ (end ≡ Unwritten) ⊎ (end ≡ ending.Memory)) × (files_after ≡ files_before)
EndsBy (Err which) files_before files_after bytes_before bytes_after end = (end ≡ ending_of_words which) × (files_after ≡ files_before) × (bytes_after ≡ bytes_before)
