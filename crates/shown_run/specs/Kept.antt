-- Records that are kept, with the pieces that take them again.
use Rattle.std.specs.Prelude.{◌≡◌, ℕ, List, [], ◌++◌, length}
use Rattle.apex_types.specs.declared.record.Ordered.{Ordered}
use Rattle.apex_machine.specs.Configuration.{Configuration}
use Rattle.apex_machine.specs.Runs.{AreOfCores, ArePlaced}
use Rattle.piece_check.specs.Parts.{Holding}
use Rattle.verdict_merge.specs.Rounds.{AllRun, AreGoing, cold_parts, parts_in}
use Rattle.shown_run.specs.declared.recent.Recent.{Recent}
use Rattle.shown_run.specs.declared.span.Span.{Span}
use Rattle.shown_run.specs.Walks.{EachRuns}

-- records that are kept are the last of those that were taken. These pieces are those that the run has reached before the first of them:
-- from the cold state each has run over the records before them. Each has a run over the kept records too
pub record IsKept (configuration : Configuration) (taken : List Ordered) (before : List Holding) (kept : List Ordered) : Type 0 where
  pub earlier : List Ordered
  pub split : taken ≡ earlier ++ kept
  pub going : AreGoing configuration (length earlier) before
  pub reached : AllRun configuration (cold_parts configuration) earlier (parts_in before)
  pub placed : ArePlaced (length earlier) kept
  pub cores : AreOfCores configuration.cores kept
  pub runs : EachRuns configuration (parts_in before) kept

-- the records of a span are the last of some that were taken
abbrev pub IsWhole : Configuration → Span → Type 0
IsWhole configuration span = (taken : List Ordered) × IsKept configuration taken span.before span.records.items

-- the records of the later span are the last of those that were taken, and those of the earlier span the last before them
pub record AreRecent (configuration : Configuration) (taken : List Ordered) (recent : Recent) : Type 0 where
  pub later : IsKept configuration taken recent.later.before recent.later.records.items
  pub earlier : IsKept configuration later.earlier recent.earlier.before recent.earlier.records.items

-- the most records that a span may have
abbrev pub most_of : Recent → ℕ
most_of recent = recent.most

-- the later span has no record yet
abbrev pub IsBegun : Recent → Type 0
IsBegun recent = recent.later.records.items ≡ []
