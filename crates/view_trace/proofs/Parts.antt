-- The parts of an event's text are the text that serde_json writes.
use Rattle.std.proofs.Common.{◌≡◌, ℕ, true, false, List, [], ◌∷◌, ◌++◌, Option, Some, None, Result, refl, sym, ap, ◌∙◌, append_assoc}
use Rattle.std.specs.Prelude.{OnOk, codes, decimal}
use Rattle.std.specs.Borrow.{Bor}
use Rattle.std.proofs.lemmas.Result.{on_ok_weaker}
use Rattle.json.specs.Print.{escape, escape_byte}
use Rattle.serde_json.specs.Data.{Data, Members, no_members, member, string, number, unsigned}
use Rattle.serde_json.specs.Written.{members_text}
use Rattle.view_trace.specs.Event.{arguments_if, details, event_text, letter_of, number_if, phase_members, place_shown, stamp_of, text_if}
use Rattle.view_trace.specs.Parts.{category_part, end_part, event_parts, id_of, id_part, name_part, numbered, phase_head, stamp_part}
use Rattle.view_trace.specs.declared.axis.Axis.{Axis}
use Rattle.view_trace.specs.declared.event.Arguments.{Arguments}
use Rattle.view_trace.specs.declared.event.Arguments.TheVariants.{Name, Slice, Record, Explanation, Priority, Held}
use Rattle.view_trace.specs.declared.event.Event.{Event}
use Rattle.view_trace.specs.declared.event.Phase.{Phase}
use Rattle.view_trace.specs.declared.event.Phase.TheVariants.{Metadata, BeginSlice, EndSlice, Instant, Fault, BeginFlow, EndFlow, BeginWait, EndWait, Counter}

-- texts that were added one after another, the last one by a call that returned
pub then_put : {T E : Type 0} (r : Result T E) (a b c first second : List ℕ) → b ≡ a ++ first → OnOk r (c ≡ b ++ second) → OnOk r (c ≡ a ++ (first ++ second))
then_put r a b c first second e h = on_ok_weaker r (λ k. k ∙ ap (λ l. l ++ second) e ∙ append_assoc a first second) h

-- the quotation mark after a text, and the comma after it
closes_text : (text rest : List ℕ) → (text ++ 34 ∷ []) ++ 44 ∷ rest ≡ (text ++ 34 ∷ 44 ∷ []) ++ rest
closes_text text rest = append_assoc text (34 ∷ []) (44 ∷ rest) ∙ sym (append_assoc text (34 ∷ 44 ∷ []) rest)

-- the name and the category of an event whose next member is this one
opening : (name category : Option (Bor (List ℕ))) (key : List ℕ) (value : Data) (more : Members)
    → 123 ∷ members_text false (text_if (codes "name") name (text_if (codes "cat") category (member key value more)))
    ≡ name_part name ++ (category_part category ++ members_text false (member key value more))
unfolding escape_byte
opening None None key value more = refl
opening None (Some category) key value more =
    ap (λ l. codes "{\"cat\":\"" ++ l) (closes_text (escape category.now) (members_text false (member key value more)))
opening (Some name) None key value more =
    ap (λ l. codes "{\"name\":\"" ++ l) (closes_text (escape name.now) (members_text false (member key value more)))
opening (Some name) (Some category) key value more =
    ap (λ l. codes "{\"name\":\"" ++ l)
    (closes_text (escape name.now) (members_text false (member (codes "cat") (string category.now) (member key value more)))
    ∙ ap (λ l. (escape name.now ++ 34 ∷ 44 ∷ []) ++ (codes "\"cat\":\"" ++ l)) (closes_text (escape category.now) (members_text false (member key value more))))

-- a number before that of the process
numbers : (id process : ℕ) (rest : List ℕ) → decimal id ++ (codes ",\"pid\":" ++ (decimal process ++ rest)) ≡ (decimal id ++ codes ",\"pid\":") ++ (decimal process ++ rest)
numbers id process rest = sym (append_assoc (decimal id) (codes ",\"pid\":") (decimal process ++ rest))

phase_is : (phase : Phase) (process : ℕ) (more : Members)
    → members_text false (phase_members phase (member (codes "pid") (number (unsigned process)) more))
    ≡ (phase_head phase ++ id_part (id_of phase)) ++ (decimal process ++ members_text true more)
unfolding escape_byte
phase_is Metadata process more = refl
phase_is BeginSlice process more = refl
phase_is EndSlice process more = refl
phase_is Instant process more = refl
phase_is Fault process more = refl
phase_is (BeginFlow id) process more = ap (λ l. codes "\"ph\":\"s\",\"id\":" ++ l) (numbers id process (members_text true more))
phase_is (EndFlow id) process more = ap (λ l. codes "\"ph\":\"f\",\"bp\":\"e\",\"id\":" ++ l) (numbers id process (members_text true more))
phase_is (BeginWait id) process more = ap (λ l. codes "\"ph\":\"b\",\"id\":" ++ l) (numbers id process (members_text true more))
phase_is (EndWait id) process more = ap (λ l. codes "\"ph\":\"e\",\"id\":" ++ l) (numbers id process (members_text true more))
phase_is Counter process more = refl

thread_is : (thread : ℕ) (more : Members) → members_text true (member (codes "tid") (number (unsigned thread)) more) ≡ numbered (codes ",\"tid\":") thread ++ members_text true more
unfolding escape_byte
thread_is thread more = refl

stamp_is : (stamp : Option ℕ) (more : Members) → members_text true (number_if (codes "ts") stamp more) ≡ stamp_part stamp ++ members_text true more
unfolding escape_byte
stamp_is None more = refl
stamp_is (Some stamp) more = refl

-- what is open is closed: the text, or a number, and the two objects
closed : (text : List ℕ) → ((text ++ 34 ∷ []) ++ 125 ∷ []) ++ 125 ∷ [] ≡ text ++ 34 ∷ 125 ∷ 125 ∷ []
closed text = simp append_assoc

closed_number : (digits : List ℕ) → (digits ++ 125 ∷ []) ++ 125 ∷ [] ≡ digits ++ 125 ∷ 125 ∷ []
closed_number digits = simp append_assoc

closed_numbers : (digits key more : List ℕ) → (digits ++ (key ++ (more ++ 125 ∷ []))) ++ 125 ∷ [] ≡ digits ++ ((key ++ more) ++ 125 ∷ 125 ∷ [])
closed_numbers digits key more = simp append_assoc

closed_after : (time key text : List ℕ) → (time ++ (key ++ ((text ++ 34 ∷ []) ++ 125 ∷ []))) ++ 125 ∷ [] ≡ time ++ (key ++ (text ++ 34 ∷ 125 ∷ 125 ∷ []))
closed_after time key text = simp append_assoc

closed_after_both : (place first time key text : List ℕ)
    → (place ++ (first ++ (time ++ (key ++ ((text ++ 34 ∷ []) ++ 125 ∷ []))))) ++ 125 ∷ [] ≡ (place ++ (first ++ time)) ++ (key ++ (text ++ 34 ∷ 125 ∷ 125 ∷ []))
closed_after_both place first time key text = simp append_assoc

closed_explained : (place key text : List ℕ) → (place ++ (key ++ ((text ++ 34 ∷ []) ++ 125 ∷ []))) ++ 125 ∷ [] ≡ (place ++ key) ++ (text ++ 34 ∷ 125 ∷ 125 ∷ [])
closed_explained place key text = simp append_assoc

end_is : (place : Option ℕ) (arguments : Option Arguments) → members_text true (arguments_if place arguments no_members) ≡ end_part place arguments
unfolding escape_byte
end_is place None = refl
end_is place (Some (Name name)) = ap (λ l. codes ",\"args\":{\"name\":\"" ++ l) (closed (escape name.now))
end_is None (Some (Slice time detail)) = ap (λ l. codes ",\"args\":{\"time\":" ++ l) (closed_after (decimal time) (codes ",\"detail\":\"") (escape detail.now))
end_is (Some place) (Some (Slice time detail)) =
    ap (λ l. codes ",\"args\":{\"place\":" ++ l) (closed_after_both (decimal place) (codes ",\"time\":") (decimal time) (codes ",\"detail\":\"") (escape detail.now))
end_is None (Some (Record time words)) = ap (λ l. codes ",\"args\":{\"time\":" ++ l) (closed_after (decimal time) (codes ",\"record\":\"") (escape words.now))
end_is (Some place) (Some (Record time words)) =
    ap (λ l. codes ",\"args\":{\"place\":" ++ l) (closed_after_both (decimal place) (codes ",\"time\":") (decimal time) (codes ",\"record\":\"") (escape words.now))
end_is None (Some (Explanation words)) = ap (λ l. codes ",\"args\":{\"explanation\":\"" ++ l) (closed (escape words.now))
end_is (Some place) (Some (Explanation words)) =
    ap (λ l. codes ",\"args\":{\"place\":" ++ l) (closed_explained (decimal place) (codes ",\"explanation\":\"") (escape words.now))
end_is place (Some (Priority priority)) = ap (λ l. codes ",\"args\":{\"priority\":" ++ l) (closed_number (decimal priority))
end_is place (Some (Held held waiting)) = ap (λ l. codes ",\"args\":{\"held\":" ++ l) (closed_numbers (decimal held) (codes ",\"waiting\":") (decimal waiting))

pub event_is : (axis : Axis) (event : Event) → event_text axis event ≡ event_parts axis event
event_is axis event =
    let ended = arguments_if (place_shown axis event.moment) event.arguments no_members in
    let stamped = number_if (codes "ts") (stamp_of axis event.moment) ended in
    let threaded = member (codes "tid") (number (unsigned event.track.thread)) stamped in
    let processed = member (codes "pid") (number (unsigned event.track.process)) threaded in
    let until_stamp = ap (λ l. stamp_part (stamp_of axis event.moment) ++ l) (end_is (place_shown axis event.moment) event.arguments) in
    let until_thread = ap (λ l. numbered (codes ",\"tid\":") event.track.thread ++ l) (stamp_is (stamp_of axis event.moment) ended ∙ until_stamp) in
    let until_process = ap (λ l. (phase_head event.phase ++ id_part (id_of event.phase)) ++ (decimal event.track.process ++ l)) (thread_is event.track.thread stamped ∙ until_thread) in
    opening event.name event.category (codes "ph") (string (letter_of event.phase)) (details event.phase processed)
    ∙ ap (λ l. name_part event.name ++ (category_part event.category ++ l)) (phase_is event.phase event.track.process threaded ∙ until_process)
