-- As many are named as fall due, and each that is named falls due: so each that falls due is named.
use Rattle.std.proofs.Common.{◌≡◌, ℕ, suc, ◌+◌, ◌≤◌, Bool, true, false, ◌||◌, ◌&&◌, nat_eq, List, [], ◌∷◌, length, Option, Some, None, if◌then◌else◌, refl, sym, ◌∙◌, arith}
use Rattle.std.proofs.lemmas.Bool.{and_right, or_right}
use Rattle.std.proofs.lemmas.Bool.Decides.{nat_tests}
use Rattle.std.specs.List.{AllByRecursion, IsDistinct}
use Rattle.std.specs.Map.{keys_of}
use Rattle.apex_types.specs.declared.record.Who.{Who}
use Rattle.apex_types.specs.Rising.{IsRising, RisesFrom, is_listed_before}
use Rattle.apex_machine.specs.declared.state.Wait.{Wait}
use Rattle.apex_machine.specs.declared.state.Wait.TheVariants as wait
use Rattle.apex_machine.specs.DueTimes.{due_by, falls_due}
use Rattle.apex_machine.specs.State.{Table, is_named, is_same, item_at}
use Rattle.scheduling.specs.Due.{DueAreNamed, NamedFallDue, count_of}
use Rattle.scheduling.specs.Firsts.{due_count, is_reached}
use Rattle.scheduling.specs.Orders.{inserted, keys_in, with_key}
use Rattle.scheduling.specs.Ranks.{due_at, due_before, due_time_of, time_due}
use Rattle.scheduling.specs.declared.order.DueTime.{DueTime}
use Rattle.scheduling.proofs.Due.{process_of}
use Rattle.scheduling.proofs.Rising.{those_after-trans, rising_rest}

-- numbers in lists that have none twice

-- whether a list has a number
abbrev has : ℕ → List ℕ → Bool
has number [] = false
has number (other ∷ others) = nat_eq number other || has number others

-- none of a list's numbers occurs in it twice
abbrev HasOnce : List ℕ → Type 0
HasOnce [] = Unit {0}
HasOnce (number ∷ numbers) = (has number numbers ≡ false) × HasOnce numbers

-- a list without a number
abbrev left_out : ℕ → List ℕ → List ℕ
left_out number [] = []
left_out number (other ∷ others) = if nat_eq number other then others else other ∷ left_out number others

length-left_out : (number : ℕ) (numbers : List ℕ) → has number numbers ≡ true → length (left_out number numbers) + 1 ≡ length numbers
length-left_out number [] there = cc
length-left_out number (other ∷ others) there =
    let rest : has number others ≡ true → length (left_out number others) + 1 ≡ length others = length-left_out number others in
    grind (arith, nat_tests)

has-left_out : (number other : ℕ) (numbers : List ℕ) → nat_eq other number ≡ false → has other numbers ≡ true → has other (left_out number numbers) ≡ true
has-left_out number other [] apart there = cc
has-left_out number other (first ∷ numbers) apart there = by (nat_eq number first) (nat_eq other first) refl refl (has-left_out number other numbers apart)
  where
    by : (b d : Bool) → nat_eq number first ≡ b → nat_eq other first ≡ d → (has other numbers ≡ true → has other (left_out number numbers) ≡ true)
        → has other (if b then numbers else first ∷ left_out number numbers) ≡ true
    by true true h k rest = let contrary : nat_eq other number ≡ true = grind (arith, nat_tests) in cc
    by true false h k rest = rw k at there
    by false true h k rest = rw k refl
    by false false h k rest = let there_too : has other numbers ≡ true = rw k at there in rw k (rest there_too)

-- a list that has each number once has no more than one that has them all
fewer : (some all : List ℕ) → HasOnce some → ((number : ℕ) → has number some ≡ true → has number all ≡ true) → length some ≤ length all
fewer [] all once among = omega arith
fewer (number ∷ numbers) all once among =
    let self : nat_eq number number ≡ true = grind (arith, nat_tests) in
    let there : has number all ≡ true = among number (rw self refl) in
    omega (arith, length-left_out number all there, fewer numbers (left_out number all) once.1 others)
  where
    apart : (other : ℕ) → has other numbers ≡ true → (b : Bool) → nat_eq other number ≡ b → b ≡ false
    apart other h true e = let same : other ≡ number = grind (arith, nat_tests) in let contrary = rw same at h in let once_here = once.0 in cc
    apart other h false e = refl

    others : (other : ℕ) → has other numbers ≡ true → has other (left_out number all) ≡ true
    others other h =
        has-left_out number other all (apart other h (nat_eq other number) refl) (among other (or_right (nat_eq other number) _ h))

-- so if it has as many, it has them all
all_there : (some all : List ℕ) → HasOnce some → HasOnce all → ((number : ℕ) → has number some ≡ true → has number all ≡ true) → length some ≡ length all
    → (number : ℕ) → has number all ≡ true → has number some ≡ true
all_there some all once _ among same number there = by (has number some) refl
  where
    by : (b : Bool) → has number some ≡ b → b ≡ true
    by true e = refl
    by false e =
        let longer : suc (length some) ≤ length all = fewer (number ∷ some) all (e, once) (λ other h. with_it other (nat_eq other number) refl h) in
        absurd (omega (arith, longer, same))
      where
        with_it : (other : ℕ) (b : Bool) → nat_eq other number ≡ b → b || has other some ≡ true → has other all ≡ true
        with_it other true e h = let same_number : other ≡ number = grind (arith, nat_tests) in rw same_number there
        with_it other false e h = among other h

-- those who are named

-- the numbers of those of a partition that a list names
abbrev numbers_named : ℕ → List Who → List ℕ
numbers_named partition [] = []
numbers_named partition (who ∷ others) = if nat_eq who.part partition then who.proc ∷ numbers_named partition others else numbers_named partition others

length-named : (partition : ℕ) (named : List Who) → length (numbers_named partition named) ≡ count_of partition named
length-named partition [] = refl
length-named partition (who ∷ others) =
    let rest : length (numbers_named partition others) ≡ count_of partition others = length-named partition others in
    grind (arith, nat_tests)

has-named : (partition number : ℕ) (named : List Who) → has number (numbers_named partition named) ≡ is_named (process_of partition number) named
has-named partition number [] = refl
has-named partition number (who ∷ others) = by (nat_eq who.part partition) refl (has-named partition number others)
  where
    by : (b : Bool) → nat_eq who.part partition ≡ b → has number (numbers_named partition others) ≡ is_named (process_of partition number) others
        → has number (if b then who.proc ∷ numbers_named partition others else numbers_named partition others)
        ≡ (nat_eq partition who.part && nat_eq number who.proc) || is_named (process_of partition number) others
    by true e rest = let here : nat_eq partition who.part ≡ true = grind (arith, nat_tests) in rw (here, rest) refl
    by false e rest = let elsewhere : nat_eq partition who.part ≡ false = grind (arith, nat_tests) in rw (elsewhere, rest) refl

-- a process that comes before a rising list is not named in it
unnamed-those_after : (last : Who) (named : List Who) → RisesFrom last named → is_named last named ≡ false
unnamed-those_after last [] rises = refl
unnamed-those_after last (who ∷ others) rises =
    let apart : is_same last who ≡ false = ahead last who rises.0 in
    rw apart (unnamed-those_after last others (rises_further last who others rises.0 rises.1))
  where
    ahead : (a b : Who) → is_listed_before a b ≡ true → is_same a b ≡ false
    ahead a b h = grind (arith, nat_tests)

    rises_further : (a b : Who) (others : List Who) → is_listed_before a b ≡ true → RisesFrom b others → RisesFrom a others
    rises_further a b [] h rises = tt
    rises_further a b (c ∷ others) h rises = (those_after-trans a b c h rises.0, rises.1)

once-named : (partition : ℕ) (named : List Who) → IsRising named → HasOnce (numbers_named partition named)
once-named partition [] rises = tt
once-named partition (who ∷ others) rises = by (nat_eq who.part partition) refl (once-named partition others (rising_rest who others rises))
  where
    by : (b : Bool) → nat_eq who.part partition ≡ b → HasOnce (numbers_named partition others)
        → HasOnce (if b then who.proc ∷ numbers_named partition others else numbers_named partition others)
    by true e rest =
        let here : who.part ≡ partition = grind (arith, nat_tests) in
        let itself : process_of partition who.proc ≡ who = λ i. record { part = sym here i; proc = who.proc } in
        (has-named partition who.proc others ∙ (rw itself (unnamed-those_after who others rises)), rest)
    by false e rest = rest

-- those who fall due

-- the numbers of those of a table that fall due
abbrev numbers_due : ℕ → ℕ → Table → List ℕ
numbers_due core time [] = []
numbers_due core time (entry ∷ entries) =
    if falls_due core time (Some entry.1) then entry.0 ∷ numbers_due core time entries else numbers_due core time entries

has-absent : (core time number : ℕ) (table : Table) → AllByRecursion (λ key. nat_eq number key ≡ false) (keys_of table) → has number (numbers_due core time table) ≡ false
has-absent core time number [] apart = refl
has-absent core time number (entry ∷ entries) apart = by (falls_due core time (Some entry.1)) (has-absent core time number entries apart.1)
  where
    by : (b : Bool) → has number (numbers_due core time entries) ≡ false
        → has number (if b then entry.0 ∷ numbers_due core time entries else numbers_due core time entries) ≡ false
    by true rest = rw (apart.0) rest
    by false rest = rest

has-due : (core time number : ℕ) (table : Table) → IsDistinct nat_eq (keys_of table) → has number (numbers_due core time table) ≡ falls_due core time (item_at table number)
unfolding IsDistinct
has-due core time number [] distinct = refl
has-due core time number (entry ∷ entries) distinct =
    by (falls_due core time (Some entry.1)) (nat_eq number entry.0) refl refl (has-due core time number entries distinct.1)
  where
    by : (b d : Bool) → falls_due core time (Some entry.1) ≡ b → nat_eq number entry.0 ≡ d
        → has number (numbers_due core time entries) ≡ falls_due core time (item_at entries number)
        → has number (if b then entry.0 ∷ numbers_due core time entries else numbers_due core time entries)
        ≡ falls_due core time (if d then Some entry.1 else item_at entries number)
    by true true h k rest = rw (k) (sym h)
    by true false h k rest = rw (k) rest
    by false true h k rest =
        let same : number ≡ entry.0 = grind (arith, nat_tests) in
        (rw same (has-absent core time entry.0 entries distinct.0)) ∙ sym h
    by false false h k rest = rest

once-due : (core time : ℕ) (table : Table) → IsDistinct nat_eq (keys_of table) → HasOnce (numbers_due core time table)
unfolding IsDistinct
once-due core time [] distinct = tt
once-due core time (entry ∷ entries) distinct = by (falls_due core time (Some entry.1)) (once-due core time entries distinct.1)
  where
    by : (b : Bool) → HasOnce (numbers_due core time entries) → HasOnce (if b then entry.0 ∷ numbers_due core time entries else numbers_due core time entries)
    by true rest = (has-absent core time entry.0 entries distinct.0, rest)
    by false rest = rest

-- whether a due time that may be there is reached
abbrev key_reached : ℕ → ℕ → Option DueTime → Bool
key_reached core time None = false
key_reached core time (Some due) = is_reached core time due

reached-falls : (core time affinity number : ℕ) (wait : Wait) → key_reached core time (due_at affinity number (time_due wait)) ≡ (nat_eq affinity core && due_by time wait)
reached-falls core time affinity number wait.Nothing = sym (and_right (nat_eq affinity core) false refl)
reached-falls core time affinity number (wait.NormalMode delay) = sym (and_right (nat_eq affinity core) false refl)
reached-falls core time affinity number wait.ForLock = sym (and_right (nat_eq affinity core) false refl)
reached-falls core time affinity number (wait.FirstRelease due) = refl
reached-falls core time affinity number (wait.Delay due) = refl
reached-falls core time affinity number (wait.Until due) = refl
reached-falls core time affinity number (wait.PeriodicRelease due) = refl
reached-falls core time affinity number (wait.Suspended None) = sym (and_right (nat_eq affinity core) false refl)
reached-falls core time affinity number (wait.Suspended (Some due)) = refl
reached-falls core time affinity number (wait.At set None) = sym (and_right (nat_eq affinity core) false refl)
reached-falls core time affinity number (wait.At set (Some due)) = refl

due_count-inserted : (core time : ℕ) (due : DueTime) (keys : List DueTime)
    → due_count core time (inserted due_before due keys) ≡ (if is_reached core time due then suc (due_count core time keys) else due_count core time keys)
due_count-inserted core time due [] = refl
due_count-inserted core time due (other ∷ others) =
    by (due_before other due) (is_reached core time due) (is_reached core time other) refl refl (due_count-inserted core time due others)
  where
    by : (b d e : Bool) → is_reached core time due ≡ d → is_reached core time other ≡ e
        → due_count core time (inserted due_before due others) ≡ (if is_reached core time due then suc (due_count core time others) else due_count core time others)
        → due_count core time (if b then other ∷ inserted due_before due others else due ∷ other ∷ others)
        ≡ (if d then suc (if e then suc (due_count core time others) else due_count core time others) else (if e then suc (due_count core time others) else due_count core time others))
    by true true true h k rest = let rest_now = rw h at rest in rw (k, rest_now) refl
    by true true false h k rest = let rest_now = rw h at rest in rw (k, rest_now) refl
    by true false true h k rest = let rest_now = rw h at rest in rw (k, rest_now) refl
    by true false false h k rest = let rest_now = rw h at rest in rw (k, rest_now) refl
    by false true e h k rest = rw (h, k) refl
    by false false e h k rest = rw (h, k) refl

due_count-with : (core time : ℕ) (key : Option DueTime) (keys : List DueTime)
    → due_count core time (with_key due_before key keys) ≡ (if key_reached core time key then suc (due_count core time keys) else due_count core time keys)
due_count-with core time None keys = refl
due_count-with core time (Some due) keys = due_count-inserted core time due keys

due_count-table : (core time : ℕ) (table : Table) → due_count core time (keys_in due_before due_time_of table) ≡ length (numbers_due core time table)
due_count-table core time [] = refl
due_count-table core time (entry ∷ entries) =
    due_count-with core time (due_time_of entry.0 entry.1) (keys_in due_before due_time_of entries)
    ∙ (rw (reached-falls core time entry.1.affinity entry.0 entry.1.wait, due_count-table core time entries) (by (falls_due core time (Some entry.1))))
  where
    by : (b : Bool) → (if b then suc (length (numbers_due core time entries)) else length (numbers_due core time entries))
        ≡ length (if b then entry.0 ∷ numbers_due core time entries else numbers_due core time entries)
    by true = refl
    by false = refl

-- the list names those who fall due

pub due_are_named : (partition core time : ℕ) (table : Table) (woken : List Who) → IsDistinct nat_eq (keys_of table) → IsRising woken
    → NamedFallDue partition core time table woken → count_of partition woken ≡ due_count core time (keys_in due_before due_time_of table)
    → DueAreNamed partition core time table woken
due_are_named partition core time table woken distinct rises each same = λ number due.
    sym (has-named partition number woken)
    ∙ all_there (numbers_named partition woken) (numbers_due core time table) (once-named partition woken rises) (once-due core time table distinct)
    (λ other h. has-due core time other table distinct ∙ each other (sym (has-named partition other woken) ∙ h))
    (length-named partition woken ∙ same ∙ due_count-table core time table)
    number (has-due core time number table distinct ∙ due)

pub as_many : (partition core time : ℕ) (table : Table) (woken : List Who) → IsDistinct nat_eq (keys_of table) → IsRising woken
    → NamedFallDue partition core time table woken → DueAreNamed partition core time table woken
    → count_of partition woken ≡ due_count core time (keys_in due_before due_time_of table)
as_many partition core time table woken distinct rises each back =
    let up : length (numbers_named partition woken) ≤ length (numbers_due core time table)
    = fewer (numbers_named partition woken) (numbers_due core time table) (once-named partition woken rises)
    (λ other h. has-due core time other table distinct ∙ each other (sym (has-named partition other woken) ∙ h)) in
    let down : length (numbers_due core time table) ≤ length (numbers_named partition woken)
    = fewer (numbers_due core time table) (numbers_named partition woken) (once-due core time table distinct)
    (λ other h. has-named partition other woken ∙ back other (sym (has-due core time other table distinct) ∙ h)) in
    omega (arith, up, down, length-named partition woken, due_count-table core time table)
