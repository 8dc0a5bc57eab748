-- How a run ends, by what is requested.
use Rattle.std.proofs.Common.{◌≡◌, ℕ, List, Option}
use Rattle.std.specs.Prelude.{IsOk}
use Rattle.module_config.specs.Reading.{configuration_of}
use Rattle.recording_maker.specs.declared.fault.MakeFault.{MakeFault}
use Rattle.recording_maker.specs.declared.fault.MakeFault.TheVariants as fault
use Rattle.recording_maker.specs.declared.made.MadeRun.{MadeRun}
use Rattle.recording_maker.specs.Made.{IsMade}
use Rattle.recording_walk.specs.declared.walking.WalkPlan.{WalkPlan}
use Rattle.sink.specs.Written.{IsWritten}
use Rattle.apexmake.specs.declared.ending.Ending.{Ending}
use Rattle.apexmake.specs.declared.ending.Ending.TheVariants as ending
use Rattle.apexmake.specs.declared.ending.Ending.TheVariants.{Made, Module, BadConfig, NotSpoilt, Stuck, Judged, OtherFormat, NoModule, BadUsage, Unopened, NotFree, Unwritten, Version, Help}
use Rattle.apexmake.specs.Endings.{EndsAsAsked, EndsWithModule, HasWritten, ending_of_fault, received}
use Rattle.apexmake.specs.Received.{NamedText}

-- a run that was made, and is written
pub run_written : (plan : WalkPlan) (config : List ℕ) (made : MadeRun) (files_before files_after : Option (List NamedText)) (bytes_before bytes_after : Option (List ℕ)) (end : Ending)
    → IsMade config plan made → HasWritten config made (received files_before bytes_before) (received files_after bytes_after) end
    → EndsAsAsked plan files_before files_after bytes_before bytes_after end
run_written plan config made files_before files_after bytes_before bytes_after (Made verdict) run written =
    record { config = config; made = made; run = run; same = written.0; files = written.1; line = written.2 }
run_written plan config made files_before files_after bytes_before bytes_after Unwritten run written = written
run_written plan config made files_before files_after bytes_before bytes_after Module run written = absurd written
run_written plan config made files_before files_after bytes_before bytes_after Version run written = absurd written
run_written plan config made files_before files_after bytes_before bytes_after Help run written = absurd written
run_written plan config made files_before files_after bytes_before bytes_after (BadConfig which) run written = absurd written
run_written plan config made files_before files_after bytes_before bytes_after NotSpoilt run written = absurd written
run_written plan config made files_before files_after bytes_before bytes_after Stuck run written = absurd written
run_written plan config made files_before files_after bytes_before bytes_after (Judged outcome) run written = absurd written
run_written plan config made files_before files_after bytes_before bytes_after OtherFormat run written = absurd written
run_written plan config made files_before files_after bytes_before bytes_after (NoModule which) run written = absurd written
run_written plan config made files_before files_after bytes_before bytes_after BadUsage run written = absurd written
run_written plan config made files_before files_after bytes_before bytes_after Unopened run written = absurd written
run_written plan config made files_before files_after bytes_before bytes_after NotFree run written = absurd written
run_written plan config made files_before files_after bytes_before bytes_after ending.Memory run written = absurd written

-- a run that was not made writes nothing
pub not_made : (plan : WalkPlan) (files_before files_after : Option (List NamedText)) (bytes_before bytes_after : Option (List ℕ)) (which : MakeFault)
    → files_after ≡ files_before → bytes_after ≡ bytes_before → EndsAsAsked plan files_before files_after bytes_before bytes_after (ending_of_fault which)
not_made plan files_before files_after bytes_before bytes_after (fault.Config which) files bytes = (files, bytes)
not_made plan files_before files_after bytes_before bytes_after fault.NotSpoilt files bytes = (files, bytes)
not_made plan files_before files_after bytes_before bytes_after fault.Stuck files bytes = (files, bytes)
not_made plan files_before files_after bytes_before bytes_after (fault.Judged outcome) files bytes = (files, bytes)
not_made plan files_before files_after bytes_before bytes_after fault.OtherFormat files bytes = (files, bytes)
not_made plan files_before files_after bytes_before bytes_after fault.Memory files bytes = (files, bytes)

-- a module that was made, and is written
pub module_written : (text : List ℕ) (before after : Option (List ℕ)) → IsOk (configuration_of text) → IsWritten before text after → EndsWithModule before after Module
module_written text before after configured written = (text, configured, written)
