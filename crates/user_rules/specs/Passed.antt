-- How far a search for a broken view goes.
use Rattle.std.specs.Prelude.{List, Option, Some, None, take}
use Rattle.apex_types.specs.declared.view.View.{View}
use Rattle.user_rules.specs.declared.broken.Broken.{Broken}

-- the views before the broken one, or all of them
abbrev pub passed : Option Broken → List View → List View
passed None views = views
passed (Some broken) views = take broken.view views
