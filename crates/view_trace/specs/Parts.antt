-- The parts of an event's text, as they are written one after another.
use Rattle.std.specs.Prelude.{ℕ, List, [], ◌++◌, Option, Some, None, codes, decimal}
use Rattle.std.specs.Borrow.{Bor}
use Rattle.json.specs.Print.{escape}
use Rattle.view_trace.specs.Event.{place_shown, stamp_of}
use Rattle.view_trace.specs.declared.axis.Axis.{Axis}
use Rattle.view_trace.specs.declared.event.Arguments.{Arguments}
use Rattle.view_trace.specs.declared.event.Arguments.TheVariants.{Name, Slice, Record, Explanation, Priority, Held}
use Rattle.view_trace.specs.declared.event.Event.{Event}
use Rattle.view_trace.specs.declared.event.Phase.{Phase}
use Rattle.view_trace.specs.declared.event.Phase.TheVariants.{Metadata, BeginSlice, EndSlice, Instant, Fault, BeginFlow, EndFlow, BeginWait, EndWait, Counter}

-- a text, escaped, after what leads to it and before what ends it
abbrev pub enclosed : List ℕ → List ℕ → List ℕ → List ℕ
enclosed before text after = before ++ (escape text ++ after)

abbrev pub name_part : Option (Bor (List ℕ)) → List ℕ
name_part None = codes "{"
name_part (Some name) = enclosed (codes "{\"name\":\"") name.now (codes "\",")

abbrev pub category_part : Option (Bor (List ℕ)) → List ℕ
category_part None = []
category_part (Some category) = enclosed (codes "\"cat\":\"") category.now (codes "\",")

-- the letter of a phase with what the format has beside it, up to the number of the event, or else to that of its process
abbrev pub phase_head : Phase → List ℕ
phase_head Metadata = codes "\"ph\":\"M\",\"pid\":"
phase_head BeginSlice = codes "\"ph\":\"B\",\"pid\":"
phase_head EndSlice = codes "\"ph\":\"E\",\"pid\":"
phase_head Instant = codes "\"ph\":\"i\",\"s\":\"t\",\"pid\":"
phase_head Fault = codes "\"ph\":\"i\",\"s\":\"g\",\"pid\":"
phase_head (BeginFlow id) = codes "\"ph\":\"s\",\"id\":"
phase_head (EndFlow id) = codes "\"ph\":\"f\",\"bp\":\"e\",\"id\":"
phase_head (BeginWait id) = codes "\"ph\":\"b\",\"id\":"
phase_head (EndWait id) = codes "\"ph\":\"e\",\"id\":"
phase_head Counter = codes "\"ph\":\"C\",\"pid\":"

-- the number of a flow or a wait
abbrev pub id_of : Phase → Option ℕ
id_of Metadata = None
id_of BeginSlice = None
id_of EndSlice = None
id_of Instant = None
id_of Fault = None
id_of (BeginFlow id) = Some id
id_of (EndFlow id) = Some id
id_of (BeginWait id) = Some id
id_of (EndWait id) = Some id
id_of Counter = None

abbrev pub id_part : Option ℕ → List ℕ
id_part None = []
id_part (Some id) = decimal id ++ codes ",\"pid\":"

-- a number, after what leads to it
abbrev pub numbered : List ℕ → ℕ → List ℕ
numbered before value = before ++ decimal value

abbrev pub stamp_part : Option ℕ → List ℕ
stamp_part None = []
stamp_part (Some stamp) = numbered (codes ",\"ts\":") stamp

-- the arguments up to a time of a core, after the place if it is shown
abbrev pub time_part : Option ℕ → ℕ → List ℕ
time_part None time = numbered (codes ",\"args\":{\"time\":") time
time_part (Some place) time = numbered (codes ",\"args\":{\"place\":") place ++ numbered (codes ",\"time\":") time

-- the arguments up to a text, after the place if it is shown
abbrev pub explained_part : Option ℕ → List ℕ
explained_part None = codes ",\"args\":{\"explanation\":\""
explained_part (Some place) = numbered (codes ",\"args\":{\"place\":") place ++ codes ",\"explanation\":\""

abbrev pub arguments_part : Option ℕ → Arguments → List ℕ
arguments_part place (Name name) = enclosed (codes ",\"args\":{\"name\":\"") name.now (codes "\"}}")
arguments_part place (Slice time detail) = time_part place time ++ enclosed (codes ",\"detail\":\"") detail.now (codes "\"}}")
arguments_part place (Record time words) = time_part place time ++ enclosed (codes ",\"record\":\"") words.now (codes "\"}}")
arguments_part place (Explanation words) = explained_part place ++ (escape words.now ++ codes "\"}}")
arguments_part place (Priority priority) = numbered (codes ",\"args\":{\"priority\":") priority ++ codes "}}"
arguments_part place (Held held waiting) = numbered (codes ",\"args\":{\"held\":") held ++ (numbered (codes ",\"waiting\":") waiting ++ codes "}}")

-- the arguments, if there are any, and the end of the event
abbrev pub end_part : Option ℕ → Option Arguments → List ℕ
end_part place None = codes "}"
end_part place (Some arguments) = arguments_part place arguments

-- all of them
abbrev pub event_parts : Axis → Event → List ℕ
event_parts axis event =
    name_part event.name
    ++ (category_part event.category
    ++ ((phase_head event.phase ++ id_part (id_of event.phase))
    ++ (decimal event.track.process
    ++ (numbered (codes ",\"tid\":") event.track.thread
    ++ (stamp_part (stamp_of axis event.moment)
    ++ end_part (place_shown axis event.moment) event.arguments)))))
