-- What is reported of the cores.
use Rattle.std.specs.Prelude.{◌≡◌, List, Contains}
use Rattle.run_view.specs.declared.change.Change.{Change}
use Rattle.run_view.specs.declared.change.Change.TheVariants as variant
use Rattle.run_view.specs.declared.cores.CoreView.{CoreView}

-- the change of a core that was not seen as it is now
abbrev pub IsItsChange : List CoreView → CoreView → Change → Type 0
IsItsChange before view change = (¬ Contains before view) × (change ≡ variant.Core view)
