-- What a tracer has written so far.
use Rattle.std.specs.Prelude.{ℕ, List, Option}
use Rattle.view_trace.specs.Trace.{Trace, trace_of}
use Rattle.view_trace.specs.declared.timeline.Timeline.{Timeline}
use Rattle.view_trace.specs.declared.tracer.Tracer.{Tracer}

abbrev pub timed : {W : Type 0} → (W → Option (List ℕ)) → Timeline W → Trace
timed bytes timeline = trace_of bytes timeline.events

abbrev pub traced : {W : Type 0} → (W → Option (List ℕ)) → Tracer W → Trace
traced bytes tracer = timed bytes tracer.timeline
