-- When the events of a track are.
use Rattle.std.specs.Prelude.{ℕ, Bool, ◌&&◌, ◌==◌, Option, Some, None, max}
use Rattle.std.specs.Map.{lookup}
use Rattle.view_trace.specs.declared.axis.Axis.{Axis}
use Rattle.view_trace.specs.declared.axis.Axis.TheVariants.{Place, Time}
use Rattle.view_trace.specs.declared.event.Track.{Track}
use Rattle.view_trace.specs.declared.stamps.Stamps.{Stamps}

abbrev pub is_same_track : Track → Track → Bool
is_same_track a b = (a.process == b.process) && (a.thread == b.thread)

abbrev pub or_nothing : Option ℕ → ℕ
or_nothing None = 0
or_nothing (Some time) = time

-- the time of the last event of a track, or 0 before the first
abbrev pub last_on : Stamps → Track → ℕ
last_on stamps track = or_nothing (lookup (is_same_track track) stamps.last.entries)

-- the time of an event on a track: on the axis of times it is not before the last one there, and on the axis of places nothing shows it
abbrev pub time_by : Axis → ℕ → ℕ → ℕ
time_by Place time last = time
time_by Time time last = max time last

abbrev pub time_on : Stamps → Track → ℕ
time_on stamps track = time_by stamps.axis stamps.time (last_on stamps track)
