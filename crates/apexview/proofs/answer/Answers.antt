use Rattle.std.proofs.Common.{◌≡◌, inr}
use Rattle.apexview.specs.declared.usage.Asked.TheVariants as asks
use Rattle.apexview.proofs.answer.Goals as goal

pub returns-in-Ok-Files : goal.returns-in-Ok-Files
returns-in-Ok-Files g c =
    let requested : c.in-Ok-Files.field-0 ≡ asks.Files c.in-Ok-Files.files c.in-Ok-Files.view = rw c.in-Ok-Files.is at c.in-Ok-Files.field-0-is in
    rw c.in-Ok-Files.is (rw requested (inr (inr c.show_files.ensures)))
