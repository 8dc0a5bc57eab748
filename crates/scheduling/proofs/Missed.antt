-- Whether a deadline is missed, by the first deadline of a core.
use Rattle.std.proofs.Common.{◌≡◌, ℕ, suc, Bool, true, false, ◌||◌, ◌&&◌, nat_eq, List, [], ◌∷◌, slice_get, Option, Some, None, if◌then◌else◌, refl, ap, ◌∙◌, arith}
use Rattle.std.proofs.lemmas.Bool.Decides.{nat_tests}
use Rattle.apex_machine.specs.Deadlines as deadlines
use Rattle.apex_machine.specs.State.{Table}
use Rattle.scheduling.specs.Firsts.{is_reached, some_reached}
use Rattle.scheduling.specs.Orders.{IsInOrder, NoneBefore, inserted, keys_in, place_where, with_key}
use Rattle.scheduling.specs.Ranks.{deadline_time_of, due_at, due_before}
use Rattle.scheduling.specs.declared.order.DueTime.{DueTime}
use Rattle.scheduling.proofs.Firsts.{is_by, is_earlier}

-- none is reached after one that is not
none_after : (core time : ℕ) (due : DueTime) (others : List DueTime) → is_by core time due ≡ false → NoneBefore due_before due others
    → some_reached core time others ≡ false
none_after core time due [] later none = refl
none_after core time due (other ∷ others) later none =
    let those_after : due_before other due ≡ false = none.0 in
    let apart : is_reached core time other ≡ false = grind (arith, nat_tests) in
    rw apart (none_after core time due others later none.1)

-- whether a due time is reached, if there is one
abbrev pub reached_on : ℕ → ℕ → Option DueTime → Bool
reached_on core time None = false
reached_on core time (Some due) = is_reached core time due

-- the first of a core is reached if one is
some_reached-first : (core time : ℕ) (dues : List DueTime) → IsInOrder due_before dues
    → some_reached core time dues ≡ reached_on core time (slice_get dues (place_where (is_earlier core) dues))
some_reached-first core time [] ordered = refl
some_reached-first core time (due ∷ others) ordered = by (is_earlier core due) (is_reached core time due) refl refl (some_reached-first core time others ordered.1)
  where
    by : (b d : Bool) → is_earlier core due ≡ b → is_reached core time due ≡ d
        → some_reached core time others ≡ reached_on core time (slice_get others (place_where (is_earlier core) others))
        → d || some_reached core time others
        ≡ reached_on core time (slice_get (due ∷ others) (if b then suc (place_where (is_earlier core) others) else 0))
    by true true e h rest = absurd (grind (arith, nat_tests))
    by true false e h rest = rest
    by false true e h rest = rw h refl
    by false false e h rest =
        let later : is_by core time due ≡ false = grind (arith, nat_tests) in
        rw h (none_after core time due others later ordered.0)

pub some_reached-at : (core time place : ℕ) (dues : List DueTime) (found : Option DueTime) → IsInOrder due_before dues
    → place ≡ place_where (is_earlier core) dues → slice_get dues place ≡ found → some_reached core time dues ≡ reached_on core time found
some_reached-at core time place dues found ordered at is = rw (← is, at) (some_reached-first core time dues ordered)

-- the order does not matter
some_reached-inserted : (core time : ℕ) (due : DueTime) (dues : List DueTime)
    → some_reached core time (inserted due_before due dues) ≡ is_reached core time due || some_reached core time dues
some_reached-inserted core time due [] = refl
some_reached-inserted core time due (other ∷ others) = by (due_before other due) (some_reached-inserted core time due others)
  where
    swapped : (a b c : Bool) → a || (b || c) ≡ b || (a || c)
    swapped true true c = refl
    swapped true false c = refl
    swapped false true c = refl
    swapped false false c = refl

    by : (b : Bool) → some_reached core time (inserted due_before due others) ≡ is_reached core time due || some_reached core time others
        → some_reached core time (if b then other ∷ inserted due_before due others else due ∷ other ∷ others)
        ≡ is_reached core time due || (is_reached core time other || some_reached core time others)
    by true rest =
        ap (λ test. is_reached core time other || test) rest ∙ swapped (is_reached core time other) (is_reached core time due) (some_reached core time others)
    by false rest = refl

-- a deadline is reached if a process has missed its own
pub some_reached-missed : (core now : ℕ) (entries : Table) → some_reached core now (keys_in due_before deadline_time_of entries) ≡ deadlines.some_missed core now entries
some_reached-missed core now [] = refl
some_reached-missed core now (entry ∷ entries) = by entry.1.deadline (some_reached-missed core now entries)
  where
    never : (b : Bool) → b && false ≡ false
    never true = refl
    never false = refl

    by : (deadline : Option ℕ) → some_reached core now (keys_in due_before deadline_time_of entries) ≡ deadlines.some_missed core now entries
        → some_reached core now (with_key due_before (due_at entry.1.affinity entry.0 deadline) (keys_in due_before deadline_time_of entries))
        ≡ (nat_eq entry.1.affinity core && deadlines.is_reached now deadline) || deadlines.some_missed core now entries
    by None rest = rw (never (nat_eq entry.1.affinity core)) rest
    by (Some deadline) rest =
        some_reached-inserted core now (record { core = entry.1.affinity; time = deadline; number = entry.0 }) (keys_in due_before deadline_time_of entries)
        ∙ ap (λ test. (nat_eq entry.1.affinity core && deadlines.is_reached now (Some deadline)) || test) rest
