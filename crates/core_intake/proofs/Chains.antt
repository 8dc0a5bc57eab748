-- Answers one after another.
use Rattle.std.proofs.Common.{◌≡◌, ℕ, ◌+◌, ◌-◌, ◌||◌, Bool, List, [], ◌∷◌, ◌++◌, Option, Some, None, is_some, Result, Ok, Err, IfSome, true, false, true≢false, length, take, refl, sym, ap, inl, inr, ◌∙◌, append_assoc, subst, arith}
use Rattle.std.specs.Prelude.{◌≢◌, IsSome}
use Rattle.std.proofs.Math.Bool.{or_assoc}
use Rattle.std.proofs.Math.Seq.{take-append_seam}
use Rattle.std.proofs.lemmas.Grind.{flat_map-append}
use Rattle.std.proofs.lemmas.List.{append-nil, length-append, map-append}
use Rattle.apex_types.specs.declared.record.Ordered.{Ordered}
use Rattle.apex_types.specs.declared.record.Record.{Record}
use Rattle.csv_rows.specs.Source.{Gives, Source}
use Rattle.record_read.specs.declared.fault.RowFault.{RowFault}
use Rattle.record_read.specs.declared.fault.RowFault.TheVariants.{Memory, Read}
use Rattle.record_read.specs.Row.{Item}
use Rattle.record_read.specs.Steps.{IsOutside}
use Rattle.core_intake.specs.Answered.{Answer, AreAnswers, PutsIn, ends_after, has_ended, is_last}
use Rattle.core_intake.specs.declared.batch.Batch.{Batch}
use Rattle.core_intake.specs.Batches.{GoesOn, IsRead, all_answers, answers_in, answers_of, before, end_of, records_answered}

some_is_none : {A : Type 0} {x : A} → ◌≡◌ {A = Option A} (Some x) None → ⊥
some_is_none e = cc e

nothing_before : (first later : List Answer) → (first ++ later) ≡ [] → first ≡ []
nothing_before [] later e = refl
nothing_before (answer ∷ first) later e = absurd (cc e)

-- the first of some answers are answers too
pub first_answers : (can_fail : Bool) (left : Option (List Item)) (first later : List Answer) → AreAnswers can_fail left (first ++ later) → AreAnswers can_fail left first
first_answers can_fail left [] later are = tt
first_answers can_fail left (answer ∷ first) later are = (are.0, are.1, (λ last. nothing_before first later (are.2 last)), first_answers can_fail are.0 first later are.3)

-- what comes before the last of two parts is the first
pub before_is : (given last all : List Answer) → given ++ last ≡ all → before last all ≡ given
before_is given last all e =
    let lengths : length all ≡ length given + length last = ap length (sym e) ∙ length-append given last in
    let short : length all - length last ≡ length given = omega arith in
    ap (λ n. take n all) short ∙ ap (λ w. take (length given) w) (sym e) ∙ take-append_seam given last

or_false : (b : Bool) → (b || false) ≡ b
or_false true = refl
or_false false = refl

-- one more answer ends the recording if it is the last
pub ended_after : (given : List Answer) (answer : Answer) → has_ended (given ++ answer ∷ []) ≡ (has_ended given || is_last answer)
ended_after [] answer = or_false (is_last answer)
ended_after (first ∷ given) answer = ap (λ ended. is_last first || ended) (ended_after given answer) ∙ sym (or_assoc (is_last first) (has_ended given) (is_last answer))

-- what was given of what was received, of what was sent
pub given_answers : (can_fail : Bool) (left : Option (List Item)) (sent received held : List Batch) (hand : List Answer) → sent ≡ received ++ held
    → before hand (all_answers received) ++ hand ≡ all_answers received → AreAnswers can_fail left (all_answers sent) → AreAnswers can_fail left (before hand (all_answers received))
given_answers can_fail left sent received held hand all split are =
    let given : List Answer = before hand (all_answers received) in
    let whole : all_answers sent ≡ given ++ (hand ++ all_answers held) =
    ap all_answers all ∙ flat_map-append answers_in received held ∙ ap (λ w. w ++ all_answers held) (sym split) ∙ append_assoc given hand (all_answers held) in
    first_answers can_fail left given (hand ++ all_answers held) (subst (AreAnswers can_fail left) whole are)

-- a source came by these answers from what it had left to what it has left
abbrev pub Leads : Bool → Option (List Item) → List Answer → Option (List Item) → Type 0
Leads can_fail old answers new = (later : List Answer) → AreAnswers can_fail new later → AreAnswers can_fail old (answers ++ later)

-- a last answer
pub one_answer : (can_fail : Bool) (left next : Option (List Item)) (answer : Answer) → IfSome left (λ items. Gives (IsOutside can_fail) items answer next) → AreAnswers can_fail left (answer ∷ [])
one_answer can_fail left next answer gives = (next, gives, (λ last. refl), tt)

-- a lack of memory is an answer of any source
pub any_memory : (can_fail : Bool) (left : Option (List Item)) → AreAnswers can_fail left (Err Memory ∷ [])
any_memory can_fail None = one_answer can_fail None None (Err Memory) tt
any_memory can_fail (Some items) = one_answer can_fail (Some items) None (Err Memory) (inl (inr refl))

-- an answer of a source, if it is this one
abbrev pub Answered : Bool → Option (List Item) → Answer → Option (List Item) → Type 0
Answered can_fail left answer next = IfSome left (λ items. Gives (IsOutside can_fail) items answer next)

-- what a source gave is what one gives that can fail only if this one reported no failure in vain
pub reported_of : (can_fail : Bool) (left next : Option (List Item)) (answer : Answer) → (answer ≡ Err Read → can_fail ≡ true) → Answered true left answer next → Answered can_fail left answer next
reported_of can_fail None next answer fails gives = tt
reported_of can_fail (Some items) next (Ok None) fails gives = gives
reported_of can_fail (Some items) next (Ok (Some rec)) fails gives = gives
reported_of can_fail (Some items) next (Err fault) fails (inl (inl is)) = inl (inl (is.0, fails (ap Err is.0)))
reported_of can_fail (Some items) next (Err fault) fails (inl (inr memory)) = inl (inr memory)
reported_of can_fail (Some items) next (Err fault) fails (inr row) = inr row

-- one record more was read
pub reads_more : (can_fail : Bool) (old now new : Option (List Item)) (records after : List Record) (rec : Record) (answer : Answer) → Leads can_fail old (records_answered records) now
    → Answered can_fail now answer new → answer ≡ Ok (Some rec) → after ≡ records ++ rec ∷ [] → Leads can_fail old (records_answered after) new
reads_more can_fail old now new records after rec answer leads gives is more later are =
    let whole : (records_answered after ++ later) ≡ records_answered records ++ (Ok (Some rec) ∷ later) =
    ap (λ all. records_answered all ++ later) more ∙ ap (λ all. all ++ later) (map-append _ records (rec ∷ [])) ∙ append_assoc (records_answered records) (Ok (Some rec) ∷ []) later in
    subst (AreAnswers can_fail old) (sym whole) (leads (Ok (Some rec) ∷ later) (new, subst (λ answered. Answered can_fail now answered new) is gives, (λ last. absurd (true≢false (sym last))), are))

-- the recording ends after these records
pub reads_last : (can_fail : Bool) (old now next : Option (List Item)) (records : List Record) (end : Result (Unit {0}) RowFault) (answer : Answer) → Leads can_fail old (records_answered records) now
    → Answered can_fail now answer next → end_of (Some end) ≡ answer ∷ [] → (later : List Answer) → later ≡ [] → AreAnswers can_fail old (answers_of records (Some end) ++ later)
reads_last can_fail old now next records end answer leads gives is later none =
    subst (λ those_after. AreAnswers can_fail old (answers_of records (Some end) ++ those_after)) (sym none)
    (subst (AreAnswers can_fail old) (sym (append-nil (answers_of records (Some end))))
    (subst (λ last. AreAnswers can_fail old (records_answered records ++ last)) (sym is) (leads (answer ∷ []) (one_answer can_fail now next answer gives))))

-- the recording ended at this answer
pub ends_read : (can_fail : Bool) (old new : Source Item) (now next : Option (List Item)) (records : List Record) (batch : Batch) (end : Result (Unit {0}) RowFault) (answer : Answer)
    → batch.records.items ≡ records → batch.end ≡ Some end → Leads can_fail old.left (records_answered records) now → Answered can_fail now answer next → end_of (Some end) ≡ answer ∷ [] → IsRead can_fail old batch new
ends_read can_fail old new now next records batch end answer held ended leads gives is = record {
  answers = λ later goes.
      let none : later ≡ [] = subst (λ (e : Option (Result (Unit {0}) RowFault)). GoesOn can_fail e new.left later) ended goes in
      let all = reads_last can_fail old.left now next records end answer leads gives is later none in
      subst (λ (rows : List Record). AreAnswers can_fail old.left (answers_of rows batch.end ++ later)) (sym held)
      (subst (λ (e : Option (Result (Unit {0}) RowFault)). AreAnswers can_fail old.left (answers_of records e ++ later)) (sym ended) all);
  going = λ none. absurd (some_is_none (sym ended ∙ none));
}

-- a batch that was not sent leaves what was sent
pub sent_so_far : (can_fail : Bool) (old now : Option (List Item)) (sent : List Batch) → Leads can_fail old (all_answers sent) now → AreAnswers can_fail old (all_answers sent)
sent_so_far can_fail old now sent leads = subst (AreAnswers can_fail old) (append-nil (all_answers sent)) (leads [] tt)

one_more : (sent : List Batch) (batch : Batch) (later : List Answer) → (all_answers (sent ++ batch ∷ []) ++ later) ≡ all_answers sent ++ (answers_in batch ++ later)
one_more sent batch later =
    ap (λ all. all ++ later) (flat_map-append answers_in sent (batch ∷ [])) ∙ append_assoc (all_answers sent) (answers_in batch ++ []) later
    ∙ ap (λ all. all_answers sent ++ (all ++ later)) (append-nil (answers_in batch))

-- a batch without an end was sent
pub sends_more : (can_fail : Bool) (old : Option (List Item)) (now new : Source Item) (sent after : List Batch) (batch : Batch) → Leads can_fail old (all_answers sent) now.left → IsRead can_fail now batch new
    → after ≡ sent ++ batch ∷ [] → batch.end ≡ None → Leads can_fail old (all_answers after) new.left
sends_more can_fail old now new sent after batch leads read is goes later are =
    subst (AreAnswers can_fail old) (sym (ap (λ all. all_answers all ++ later) is ∙ one_more sent batch later))
    (leads (answers_in batch ++ later) (read.answers later (subst (λ end. GoesOn can_fail end new.left later) (sym goes) are)))

after_an_end : (can_fail : Bool) (end : Option (Result (Unit {0}) RowFault)) (left : Option (List Item)) → is_some end ≡ true → GoesOn can_fail end left []
after_an_end can_fail None left some = absurd (true≢false (sym some))
after_an_end can_fail (Some end) left some = refl

-- the last batch was sent
pub sends_last : (can_fail : Bool) (old : Option (List Item)) (now new : Source Item) (sent after : List Batch) (batch : Batch) → Leads can_fail old (all_answers sent) now.left → IsRead can_fail now batch new
    → after ≡ sent ++ batch ∷ [] → is_some batch.end ≡ true → AreAnswers can_fail old (all_answers after)
sends_last can_fail old now new sent after batch leads read is some =
    subst (AreAnswers can_fail old) (sym (ap all_answers is ∙ sym (append-nil (all_answers (sent ++ batch ∷ []))) ∙ one_more sent batch []))
    (leads (answers_in batch ++ []) (read.answers [] (after_an_end can_fail batch.end new.left some)))

pub no_end : (end : Option (Result (Unit {0}) RowFault)) → is_some end ≡ false → ◌≡◌ {A = Option (Result (Unit {0}) RowFault)} end None
no_end None some = refl
no_end (Some end) some = absurd (true≢false some)

-- answers without a record are how the recording ends
pub end_left : (records : List Record) (end : Option (Result (Unit {0}) RowFault)) → records ≡ [] → answers_of records end ≢ [] → IsSome end
end_left records None none some = absurd (some (ap (λ rows. answers_of rows None) none))
end_left records (Some end) none some = refl

-- the first answer at hand is taken
pub takes_first : (given hand hand' : List Answer) (answer : Answer) (received : List Answer) → given ++ hand ≡ received → hand ≡ answer ∷ hand' → given ++ answer ∷ hand' ≡ received
takes_first given hand hand' answer received split is = ap (λ all. given ++ all) (sym is) ∙ split

-- whether an answer that was put into a list was the last, by the result
pub put_last : (core place : ℕ) (answer : Answer) (old new : List Ordered) (put : Result Bool RowFault) → PutsIn core place answer old put new → ends_after put ≡ is_last answer
put_last core place (Ok (Some rec)) old new put puts = ap ends_after puts.0
put_last core place (Ok None) old new put puts = ap ends_after puts.0
put_last core place (Err fault) old new put puts = ap ends_after puts.0

-- what was given and what is at hand, once an answer was taken
pub takes_one : (given hand' : List Answer) (answer : Answer) (received : List Answer) → given ++ answer ∷ hand' ≡ received → before hand' received ≡ given ++ answer ∷ []
takes_one given hand' answer received e = before_is (given ++ answer ∷ []) hand' received (append_assoc given (answer ∷ []) hand' ∙ e)

-- what is at hand then is what comes after what was given
pub splits_on : (given hand' : List Answer) (answer : Answer) (received : List Answer) → given ++ answer ∷ hand' ≡ received → before hand' received ++ hand' ≡ received
splits_on given hand' answer received e = ap (λ all. all ++ hand') (takes_one given hand' answer received e) ∙ append_assoc given (answer ∷ []) hand' ∙ e

-- and the recording has ended if that answer was the last
pub ends_on : (given hand' : List Answer) (answer : Answer) (received : List Answer) (was ended : Bool) → given ++ answer ∷ hand' ≡ received
    → was ≡ has_ended given → was ≡ false → ended ≡ is_last answer → ended ≡ has_ended (before hand' received)
ends_on given hand' answer received was ended e before_too going is =
    is ∙ ap (λ b. b || is_last answer) (sym going ∙ before_too) ∙ sym (ended_after given answer) ∙ ap has_ended (sym (takes_one given hand' answer received e))
