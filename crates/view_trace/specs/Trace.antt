-- A trace while it is written.
use Rattle.std.specs.Prelude.{◌≡◌, ℕ, Bool, true, false, List, [], ◌∷◌, ◌++◌, Option, Some, codes, if◌then◌else◌}
use Rattle.std.specs.Borrow.{Bor}
use Rattle.sink.specs.Written.{IsWritten, IsCut}
use Rattle.view_trace.specs.Event.{event_text, place_of, shows_record}
use Rattle.view_trace.specs.ObjectText.{text_of}
use Rattle.view_trace.specs.declared.axis.Axis.{Axis}
use Rattle.view_trace.specs.declared.event.Arguments.TheVariants.{Explanation}
use Rattle.view_trace.specs.declared.event.Event.{Event}
use Rattle.view_trace.specs.declared.event.Phase.TheVariants.{Fault}
use Rattle.view_trace.specs.declared.events.Events.{Events}

-- what the time of its events is, what the sink took, if it knows that, what is held and not yet written, and whether the next event is the
-- first
pub record Trace : Type 0 where
  pub axis : Axis
  pub taken : Option (List ℕ)
  pub held : List ℕ
  pub is_first : Bool

abbrev pub trace_of : {W : Type 0} → (W → Option (List ℕ)) → Events W → Trace
trace_of bytes events = record { axis = events.axis; taken = bytes events.output.now; held = text_of events.text; is_first = events.is_first }

-- a trace begins as an object whose last member is the list of its events
abbrev pub begun : Trace → Trace
begun trace = record trace { held = trace.held ++ codes "{\"displayTimeUnit\":\"ns\",\"traceEvents\":[\n" }

-- each event but the first comes after a comma, on a line of its own
abbrev pub comma_before : Bool → List ℕ
comma_before is_first = if is_first then [] else codes ",\n"

-- the text of events, each once and in order
abbrev pub event_texts : Axis → Bool → List Event → List ℕ
event_texts axis is_first [] = []
event_texts axis is_first (event ∷ events) = comma_before is_first ++ (event_text axis event ++ event_texts axis false events)

abbrev pub is_first_after : List Event → Bool → Bool
is_first_after [] is_first = is_first
is_first_after (event ∷ events) is_first = false

-- these events were added: what went to the sink since, with what is held now, is what was held and their text
pub record Adds (events : List Event) (before after : Trace) : Type 0 where
  pub sent : List ℕ
  pub is_sent : IsWritten before.taken sent after.taken
  pub is_whole : before.held ++ event_texts before.axis before.is_first events ≡ sent ++ after.held
  pub is_next : after.is_first ≡ is_first_after events before.is_first
  pub is_same : after.axis ≡ before.axis

-- these events were not all written: what went to the sink since is the first bytes of what was held and their text
abbrev pub IsCutIn : List Event → Trace → Trace → Type 0
IsCutIn events before after = IsCut before.taken (before.held ++ event_texts before.axis before.is_first events) after.taken

-- none of the events shows a record
abbrev pub AreOthers : List Event → Type 0
AreOthers [] = Unit {0}
AreOthers (event ∷ events) = (shows_record event.phase ≡ false) × AreOthers events

-- events were added, and none of them shows a record
pub record AddsOthers (before after : Trace) : Type 0 where
  pub events : List Event
  pub are_others : AreOthers events
  pub are_added : Adds events before after

-- one event was added: it shows the record at this place
pub record AddsInstant (place : ℕ) (before after : Trace) : Type 0 where
  pub event : Event
  pub is_record : shows_record event.phase ≡ true
  pub is_placed : place_of event ≡ Some place
  pub is_added : Adds (event ∷ []) before after

-- one event was added: it shows the fault at this place, by the line of the answer, with an explanation
pub record AddsFault (place : ℕ) (answer explanation : Bor (List ℕ)) (before after : Trace) : Type 0 where
  pub event : Event
  pub is_fault : event.phase ≡ Fault
  pub is_placed : place_of event ≡ Some place
  pub is_named : event.name ≡ Some answer
  pub is_explained : event.arguments ≡ Some (Explanation explanation)
  pub is_added : Adds (event ∷ []) before after

-- events were added, and exactly one of them shows a record: the one at this place
pub record AddsRecord (place : ℕ) (before after : Trace) : Type 0 where
  pub event : Event
  pub earlier : List Event
  pub later : List Event
  pub is_record : shows_record event.phase ≡ true
  pub is_placed : place_of event ≡ Some place
  pub are_others : AreOthers earlier × AreOthers later
  pub are_added : Adds (earlier ++ event ∷ later) before after

-- the trace was ended: after what was held the sink took events, none of which shows a record, and the end of the list and of the object
pub record Ends (before : Trace) (taken : Option (List ℕ)) : Type 0 where
  pub events : List Event
  pub are_others : AreOthers events
  pub is_written : IsWritten before.taken ((before.held ++ event_texts before.axis before.is_first events) ++ codes "\n]}\n") taken
