-- Events that are added to a trace one after another.
use Rattle.std.proofs.Common.{◌≡◌, ℕ, Bool, true, false, List, [], ◌∷◌, ◌++◌, Option, Some, None, Result, subst, refl, sym, ap, ◌∙◌, append_assoc, append-nil}
use Rattle.std.specs.Prelude.{OnOk, codes}
use Rattle.std.proofs.lemmas.Result.{on_ok_weaker}
use Rattle.sink.specs.Taken.{with_more}
use Rattle.sink.specs.Written.{IsWritten}
use Rattle.view_trace.specs.Event.{event_text, shows_record}
use Rattle.view_trace.specs.Trace.{Adds, AddsInstant, AddsOthers, AddsRecord, AreOthers, Ends, Trace, comma_before, event_texts, is_first_after}
use Rattle.view_trace.specs.declared.axis.Axis.{Axis}
use Rattle.view_trace.specs.declared.event.Event.{Event}

with_nothing : (known : Option (List ℕ)) → known ≡ with_more known []
with_nothing None = refl
with_nothing (Some bytes) = ap (λ l. Some l) (sym (append-nil bytes))

with_more_twice : (known : Option (List ℕ)) (first second : List ℕ) → with_more (with_more known first) second ≡ with_more known (first ++ second)
with_more_twice None first second = refl
with_more_twice (Some bytes) first second = ap (λ l. Some l) (append_assoc bytes first second)

-- the text of events and then others
texts_append : (axis : Axis) (is_first : Bool) (first second : List Event)
    → event_texts axis is_first (first ++ second) ≡ event_texts axis is_first first ++ event_texts axis (is_first_after first is_first) second
texts_append axis is_first [] second = refl
texts_append axis is_first (event ∷ []) second =
    ap (λ l. comma_before is_first ++ (event_text axis event ++ l)) (texts_append axis false [] second) ∙ simp append_assoc
texts_append axis is_first (event ∷ next ∷ rest) second =
    ap (λ l. comma_before is_first ++ (event_text axis event ++ l)) (texts_append axis false (next ∷ rest) second) ∙ simp append_assoc

first_after_append : (is_first : Bool) (first second : List Event) → is_first_after (first ++ second) is_first ≡ is_first_after second (is_first_after first is_first)
first_after_append is_first [] second = refl
first_after_append is_first (event ∷ rest) [] = refl
first_after_append is_first (event ∷ rest) (next ∷ more) = refl

-- no event was added
pub Adds-none : (trace : Trace) → Adds [] trace trace
Adds-none trace = record { sent = []; is_sent = with_nothing trace.taken; is_whole = append-nil trace.held; is_next = refl; is_same = refl }

-- events were added, and then others
pub Adds-then : {first second : List Event} {a b c : Trace} → Adds first a b → Adds second b c → Adds (first ++ second) a c
Adds-then {first} {second} {a} {b} {c} h k = record {
  sent = h.sent ++ k.sent;
  is_sent = k.is_sent ∙ ap (λ known. with_more known k.sent) h.is_sent ∙ with_more_twice a.taken h.sent k.sent;
  is_whole =
      ap (λ l. a.held ++ l) (texts_append a.axis a.is_first first second)
      ∙ sym (append_assoc a.held (event_texts a.axis a.is_first first) (event_texts a.axis (is_first_after first a.is_first) second))
      ∙ ap (λ l. l ++ event_texts a.axis (is_first_after first a.is_first) second) h.is_whole
      ∙ append_assoc h.sent b.held (event_texts a.axis (is_first_after first a.is_first) second)
      ∙ ap (λ next. h.sent ++ (b.held ++ event_texts a.axis next second)) (sym h.is_next)
      ∙ ap (λ axis. h.sent ++ (b.held ++ event_texts axis b.is_first second)) (sym h.is_same)
      ∙ ap (λ l. h.sent ++ l) k.is_whole
      ∙ sym (append_assoc h.sent k.sent c.held);
  is_next = k.is_next ∙ ap (is_first_after second) h.is_next ∙ sym (first_after_append a.is_first first second);
  is_same = k.is_same ∙ h.is_same;
}

AreOthers-append : (first second : List Event) → AreOthers first → AreOthers second → AreOthers (first ++ second)
AreOthers-append [] second h k = k
AreOthers-append (event ∷ rest) second h k = (h.0, AreOthers-append rest second h.1 k)

pub others_none : (trace : Trace) → AddsOthers trace trace
others_none trace = record { events = []; are_others = tt; are_added = Adds-none trace }

pub others_one : {event : Event} {a b : Trace} → shows_record event.phase ≡ false → Adds (event ∷ []) a b → AddsOthers a b
others_one {event} other added = record { events = event ∷ []; are_others = (other, tt); are_added = added }

pub others_then : {a b c : Trace} → AddsOthers a b → AddsOthers b c → AddsOthers a c
others_then h k = record {
  events = h.events ++ k.events;
  are_others = AreOthers-append h.events k.events h.are_others k.are_others;
  are_added = Adds-then h.are_added k.are_added;
}

-- the instant of a record was added between other events
pub record_between : {place : ℕ} {a b c d : Trace} → AddsOthers a b → AddsInstant place b c → AddsOthers c d → AddsRecord place a d
record_between before h after = record {
  event = h.event;
  earlier = before.events;
  later = after.events;
  is_record = h.is_record;
  is_placed = h.is_placed;
  are_others = (before.are_others, after.are_others);
  are_added = Adds-then before.are_added (Adds-then h.is_added after.are_added);
}

-- events were added, and then others by a last call that returned
pub others_last : {T E : Type 0} {a b : Trace} (c : Trace) (r : Result T E) → AddsOthers a b → OnOk r (AddsOthers b c) → OnOk r (AddsOthers a c)
others_last {T} {E} {a} {b} c r before last = on_ok_weaker r (λ (added : AddsOthers b c). others_then before added) last

-- events were added to a trace that is another one
pub others_from : {a b c : Trace} → a ≡ b → AddsOthers a c → AddsOthers b c
others_from {a} {b} {c} e added = let P : Trace → Type 0 = λ t. AddsOthers t c in subst P e added

-- a trace ends after other events
pub ends_after : {a b : Trace} {taken : Option (List ℕ)} → AddsOthers a b → IsWritten b.taken (b.held ++ codes "\n]}\n") taken → Ends a taken
ends_after {a} {b} {taken} before written = record {
  events = before.events;
  are_others = before.are_others;
  is_written =
      written
      ∙ ap (λ known. with_more known (b.held ++ codes "\n]}\n")) before.are_added.is_sent
      ∙ with_more_twice a.taken before.are_added.sent (b.held ++ codes "\n]}\n")
      ∙ ap (with_more a.taken) (sym (append_assoc before.are_added.sent b.held (codes "\n]}\n")) ∙ ap (λ l. l ++ codes "\n]}\n") (sym before.are_added.is_whole));
}
