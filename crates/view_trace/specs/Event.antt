-- What an event is as JSON: an object of the Chrome trace format.
use Rattle.std.specs.Prelude.{ℕ, Bool, true, false, List, Option, Some, None, codes, option_map}
use Rattle.std.specs.Borrow.{Bor}
use Rattle.serde_json.specs.Data.{Data, string, number, unsigned, object, Members, no_members, member}
use Rattle.serde_json.specs.Written.{compact_text}
use Rattle.view_trace.specs.declared.axis.Axis.{Axis}
use Rattle.view_trace.specs.declared.axis.Axis.TheVariants.{Place, Time}
use Rattle.view_trace.specs.declared.event.Arguments.{Arguments}
use Rattle.view_trace.specs.declared.event.Arguments.TheVariants.{Name, Slice, Record, Explanation, Priority, Held}
use Rattle.view_trace.specs.declared.event.Event.{Event}
use Rattle.view_trace.specs.declared.event.Moment.{Moment}
use Rattle.view_trace.specs.declared.event.Phase.{Phase}
use Rattle.view_trace.specs.declared.event.Phase.TheVariants.{Metadata, BeginSlice, EndSlice, Instant, Fault, BeginFlow, EndFlow, BeginWait, EndWait, Counter}

-- a member that is a text, before others, if there is such a text
abbrev pub text_if : List ℕ → Option (Bor (List ℕ)) → Members → Members
text_if key None more = more
text_if key (Some text) more = member key (string text.now) more

-- a member that is a number, before others, if there is such a number
abbrev pub number_if : List ℕ → Option ℕ → Members → Members
number_if key None more = more
number_if key (Some value) more = member key (number (unsigned value)) more

-- the place of an event
abbrev pub place_of : Event → Option ℕ
place_of event = option_map (λ (moment : Moment). moment.place) event.moment

-- the time of an event on an axis, in microseconds: its place, or the time of its core in ticks
abbrev pub stamp_of : Axis → Option Moment → Option ℕ
stamp_of axis None = None
stamp_of Place (Some moment) = Some moment.place
stamp_of Time (Some moment) = Some moment.time

-- the place that the arguments of an event have: on the axis of places its time is its place already
abbrev pub place_shown : Axis → Option Moment → Option ℕ
place_shown Place moment = None
place_shown Time None = None
place_shown Time (Some moment) = Some moment.place

-- whether an event shows a record
abbrev pub shows_record : Phase → Bool
shows_record Metadata = false
shows_record BeginSlice = false
shows_record EndSlice = false
shows_record Instant = true
shows_record Fault = false
shows_record (BeginFlow id) = false
shows_record (EndFlow id) = false
shows_record (BeginWait id) = false
shows_record (EndWait id) = false
shows_record Counter = false

-- the letter of a phase
abbrev pub letter_of : Phase → List ℕ
letter_of Metadata = codes "M"
letter_of BeginSlice = codes "B"
letter_of EndSlice = codes "E"
letter_of Instant = codes "i"
letter_of Fault = codes "i"
letter_of (BeginFlow id) = codes "s"
letter_of (EndFlow id) = codes "f"
letter_of (BeginWait id) = codes "b"
letter_of (EndWait id) = codes "e"
letter_of Counter = codes "C"

-- what an event of a phase has beside its letter: a record is an instant of its thread, and a fault one of the whole trace; a flow has its
-- number, and ends at the slice that is open; a wait has its number
abbrev pub details : Phase → Members → Members
details Metadata more = more
details BeginSlice more = more
details EndSlice more = more
details Instant more = member (codes "s") (string (codes "t")) more
details Fault more = member (codes "s") (string (codes "g")) more
details (BeginFlow id) more = member (codes "id") (number (unsigned id)) more
details (EndFlow id) more = member (codes "bp") (string (codes "e")) (member (codes "id") (number (unsigned id)) more)
details (BeginWait id) more = member (codes "id") (number (unsigned id)) more
details (EndWait id) more = member (codes "id") (number (unsigned id)) more
details Counter more = more

abbrev pub phase_members : Phase → Members → Members
phase_members phase more = member (codes "ph") (string (letter_of phase)) (details phase more)

-- the place, if it is shown, a time of a core, and a text
abbrev pub timed_members : Option ℕ → ℕ → List ℕ → List ℕ → Members → Members
timed_members place time key text more = number_if (codes "place") place (member (codes "time") (number (unsigned time)) (member key (string text) more))

-- what an event says besides, after the place that it shows; a counter shows no place, since a viewer draws each of its arguments
abbrev pub argument_members : Option ℕ → Arguments → Members → Members
argument_members place (Name name) more = member (codes "name") (string name.now) more
argument_members place (Slice time detail) more = timed_members place time (codes "detail") detail.now more
argument_members place (Record time words) more = timed_members place time (codes "record") words.now more
argument_members place (Explanation words) more = number_if (codes "place") place (member (codes "explanation") (string words.now) more)
argument_members place (Priority priority) more = member (codes "priority") (number (unsigned priority)) more
argument_members place (Held held waiting) more = member (codes "held") (number (unsigned held)) (member (codes "waiting") (number (unsigned waiting)) more)

abbrev pub arguments_if : Option ℕ → Option Arguments → Members → Members
arguments_if place None more = more
arguments_if place (Some arguments) more = member (codes "args") (object (argument_members place arguments no_members)) more

-- an event as an object: its name, its category, its phase, its process and its thread, its time on the axis, and its arguments
abbrev pub members_of : Axis → Event → Members → Members
members_of axis event more =
    text_if (codes "name") event.name
    (text_if (codes "cat") event.category
    (phase_members event.phase
    (member (codes "pid") (number (unsigned event.track.process))
    (member (codes "tid") (number (unsigned event.track.thread))
    (number_if (codes "ts") (stamp_of axis event.moment)
    (arguments_if (place_shown axis event.moment) event.arguments more))))))

abbrev pub object_of : Axis → Event → Data
object_of axis event = object (members_of axis event no_members)

-- the text of an event on an axis, as serde_json writes it
abbrev pub event_text : Axis → Event → List ℕ
event_text axis event = compact_text (object_of axis event)
