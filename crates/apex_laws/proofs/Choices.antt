-- The choice of a core is the ready process before which no other goes, and is in the table of its partition.
use Rattle.std.proofs.Common.{◌≡◌, ℕ, Option, Some, None, sym, ap, subst, refl, option_map, ◌⊎◌, ◌<◌, ◌≤◌, true, false, ◌∙◌, inl, inr, arith, Bool, nat_eq, not, ◌&&◌, [], ◌∷◌, cond, is_some, true≢false, filter}
use Rattle.std.proofs.lemmas.Bool.{and_parts, and_from, eqb-true, eq-eqb}
use Rattle.std.proofs.lemmas.List.Elements.{All-cons, All-contains, All-contains_itself, All-filter, All-nil, All-weaker, filter_passes}
use Rattle.std.specs.Prelude.{All, Contains}
use Rattle.apex_laws.proofs.Common.{ChoiceIsTheSentence, GoesBefore, InNoWindow, InWindowOf, IsChosen, IsChosenUnder, IsReady, IsReadyOwner, Partition, Process, Table, Wait, WaitingSet, Who, are_distinct, choice_in, choice_of, choice_under, foremost, goes_before, is_in, is_one_ready, is_ready, partition_choice}
use Rattle.apex_laws.proofs.Common.{is_for_lock, item_at, ready_entries, sooner, waits_at, waits_for_lock, waits_for_nothing}
use Rattle.apex_laws.proofs.Booleans.{by_test, cannot_hold, either_way, impossible, is_itself, member_first, member_later, never_found, one_item}
use Rattle.apex_laws.proofs.ConditionTests.{normal_tells}
use Rattle.apex_laws.proofs.SetNames.{in_no_set}
use Rattle.apex_laws.proofs.Common.{ErrorHandler, HandlerIsReady, IsChosenIn, IsTheHandler, OthersPause, is_handling_on, is_normal, is_one_alive, is_paused, pauses_others}

-- The choice of a core, as the module and as each partition see it.

-- if the module finds the idle core idle, and the partition of the window finds its choice, the core has its choice
pub joined_choice : (window : Option ℕ) (partitions : ℕ → Partition) (core : ℕ) (who : Option Who) → InNoWindow window (who ≡ None)
    → ((number : ℕ) → window ≡ Some number → InWindowOf number window (partition_choice number core (partitions number) ≡ who))
    → choice_of window partitions core ≡ who
joined_choice None partitions core who idle own = sym idle
joined_choice (Some number) partitions core who idle own = own number refl refl

-- in no window the choice is none
pub idle_choice : (window : Option ℕ) (partitions : ℕ → Partition) (core : ℕ) (who : Option Who)
    → choice_of window partitions core ≡ who → InNoWindow window (who ≡ None)
idle_choice None partitions core who chosen = sym chosen
idle_choice (Some number) partitions core who chosen = tt

-- in the windows of a partition the choice is the partition's
pub own_choice : (window : Option ℕ) (partitions : ℕ → Partition) (core : ℕ) (who : Option Who) (number : ℕ)
    → choice_of window partitions core ≡ who → InWindowOf number window (partition_choice number core (partitions number) ≡ who)
own_choice None partitions core who number chosen = tt
own_choice (Some partition) partitions core who number chosen =
    λ same. subst (λ of. partition_choice of core (partitions of) ≡ who) same chosen

-- some process is the choice: the window is of its partition, whose choice it is
pub record IsChoice (window : Option ℕ) (partitions : ℕ → Partition) (core : ℕ) (who : Who) : Type 0 where
  pub of : window ≡ Some who.part
  pub choice : partition_choice who.part core (partitions who.part) ≡ Some who

-- a choice among the processes of a partition is of that partition
part_of_first : (number : ℕ) (found : Option (ℕ × Process)) (who : Who)
    → option_map (λ entry. record { part = number; proc = entry.0 }) found ≡ Some who → number ≡ who.part
part_of_first number None who chosen = cc
part_of_first number (Some entry) who chosen =
    let same : ◌≡◌ {A = Who} (record { part = number; proc = entry.0 }) who = cc in
    ap (λ one. one.part) same

part_of_choice_under : (number core : ℕ) (owner : Option ℕ) (table : Table) (who : Who) → choice_under number core owner table ≡ Some who → number ≡ who.part
part_of_choice_under number core None table who chosen = part_of_first number (foremost (ready_entries core table)) who chosen
part_of_choice_under number core (Some owner) table who chosen =
    by_test (λ (choice : Option Who). choice ≡ Some who → number ≡ who.part) (is_one_ready core (item_at table owner))
    (Some (record { part = number; proc = owner })) (choice_in number core table)
    (λ ready is. (let same : ◌≡◌ {A = Who} (record { part = number; proc = owner }) who = one_item is in ap (λ one. one.part) same))
    (λ not_ready is. part_of_first number (foremost (ready_entries core table)) who is) chosen

part_of_choice : (number core : ℕ) (partition : Partition) (who : Who) → partition_choice number core partition ≡ Some who → number ≡ who.part
part_of_choice number core partition who chosen =
    let under = choice_under number core partition.lock.owner partition.table in
    by_test (λ (choice : Option Who). choice ≡ Some who → number ≡ who.part) (is_handling_on core partition)
    (Some (record { part = number; proc = 0 })) (cond (is_paused partition) None under)
    (λ handles is. (let same : ◌≡◌ {A = Who} (record { part = number; proc = 0 }) who = one_item is in ap (λ one. one.part) same))
    (λ handles_not. by_test (λ (choice : Option Who). choice ≡ Some who → number ≡ who.part) (is_paused partition) None under
    (λ pauses is. never_found is) (λ goes_on is. part_of_choice_under number core partition.lock.owner partition.table who is)) chosen

-- a process that is the core's choice is the choice of the window's partition
pub choice_is : (window : Option ℕ) (partitions : ℕ → Partition) (core : ℕ) (who : Who)
    → choice_of window partitions core ≡ Some who → IsChoice window partitions core who
choice_is None partitions core who chosen = cc
choice_is (Some number) partitions core who chosen =
    let same = part_of_choice number core (partitions number) who chosen in
    record { of = ap Some same; choice = subst (λ of. partition_choice of core (partitions of) ≡ Some who) same chosen }

-- and the other way round
pub choice_from : (window : Option ℕ) (partitions : ℕ → Partition) (core : ℕ) (who : Who) → window ≡ Some who.part
    → partition_choice who.part core (partitions who.part) ≡ Some who → choice_of window partitions core ≡ Some who
choice_from window partitions core who of chosen = rw of chosen

-- if some process is the choice, there is a window
pub not_idle : (window : Option ℕ) (partitions : ℕ → Partition) (core : ℕ) (who : Who) → IsChoice window partitions core who → InNoWindow window ⊥
not_idle None partitions core who is = never_found is.of
not_idle (Some number) partitions core who is = tt

-- Going before is an order, total on entries of distinct numbers.

-- one entry doesn't go before another, in numbers
abbrev IsNotBefore : ℕ × Process → ℕ × Process → Type 0
IsNotBefore one other =
    (one.1.current_priority < other.1.current_priority)
    ⊎ ((one.1.current_priority ≡ other.1.current_priority)
    × ((other.1.ready_position < one.1.ready_position) ⊎ ((one.1.ready_position ≡ other.1.ready_position) × (other.0 ≤ one.0))))

-- the test says what the sentence says
pub is_before : (one other : ℕ × Process) → goes_before one other ≡ true → GoesBefore one other
is_before one other before = grind arith

-- and the other way round
pub goes_before_by : (one other : ℕ × Process) → GoesBefore one other → goes_before one other ≡ true
goes_before_by one other (inl more) = grind arith
goes_before_by one other (inr (same, inl sooner)) = grind arith
goes_before_by one other (inr (same, inr (also, below))) = grind arith

-- its failure says so too
is_not_before : (one other : ℕ × Process) → goes_before one other ≡ false → IsNotBefore one other
is_not_before one other before = grind arith

-- and the other way round
goes_not_before : (one other : ℕ × Process) → IsNotBefore one other → goes_before one other ≡ false
goes_not_before one other (inl less) = grind arith
goes_not_before one other (inr (same, inl later)) = grind arith
goes_not_before one other (inr (same, inr (also, above))) = grind arith

-- no entry goes before itself
pub not_before_itself : (one : ℕ × Process) → goes_before one one ≡ false
not_before_itself one = grind arith

-- if one goes before the other, the other does not go before it
reversed : (one other : ℕ × Process) → GoesBefore one other → IsNotBefore other one
reversed one other (inl more) = inl more
reversed one other (inr (same, inl sooner)) = inr (omega arith, inl sooner)
reversed one other (inr (same, inr (also, below))) = inr (omega arith, inr (omega arith, omega arith))

-- of two entries that differ one alone goes before the other
pub not_both_before : (one other : ℕ × Process) → goes_before one other ≡ true → goes_before other one ≡ false
not_both_before one other before = goes_not_before other one (reversed one other (is_before one other before))

-- the chain of two that don't go before, in numbers
chained : (one middle other : ℕ × Process) → IsNotBefore one middle → IsNotBefore middle other → IsNotBefore one other
chained one middle other (inl less) (inl fewer) = inl (omega arith)
chained one middle other (inl less) (inr (same, rest)) = inl (omega (arith, less, same))
chained one middle other (inr (same, rest)) (inl less) = inl (omega (arith, less, same))
chained one middle other (inr (same, inl later)) (inr (also, inl still)) = inr (same ∙ also, inl (omega arith))
chained one middle other (inr (same, inl later)) (inr (also, inr (at, above))) = inr (same ∙ also, inl (omega arith))
chained one middle other (inr (same, inr (at, above))) (inr (also, inl later)) = inr (same ∙ also, inl (omega arith))
chained one middle other (inr (same, inr (at, above))) (inr (also, inr (there, higher))) = inr (same ∙ also, inr (at ∙ there, omega arith))

-- what doesn't go before an entry doesn't go before one that the entry doesn't go before
pub not_before-chain : (one middle other : ℕ × Process) → goes_before one middle ≡ false → goes_before middle other ≡ false → goes_before one other ≡ false
not_before-chain one middle other first second =
    goes_not_before one other (chained one middle other (is_not_before one middle first) (is_not_before middle other second))

-- two entries of which neither goes before the other have one number
pub one_number : (one other : ℕ × Process) → goes_before one other ≡ false → goes_before other one ≡ false → one.0 ≡ other.0
one_number one other first second = grind arith

-- The test of readiness says what the sentence says.

-- what passes the test of waiting for nothing waits for nothing
waits_nothing : (one : Wait) → waits_for_nothing one ≡ true → one ≡ Wait.Nothing
waits_nothing Wait.Nothing passes = refl
waits_nothing _ passes = cc

-- what is not so is false
is_not : (test : Bool) → not test ≡ true → test ≡ false
is_not true passes = cc
is_not false passes = refl

-- a process that passes the test is ready
pub ready_is : (core : ℕ) (process : Process) → is_ready core process ≡ true → IsReady core process
ready_is core process passes =
    let rest = not process.suspended && (waits_for_nothing process.wait && nat_eq process.affinity core) in
    let first = and_parts process.alive (not process.faulted && rest) passes in
    let sound = and_parts (not process.faulted) rest first.1 in
    let second = and_parts (not process.suspended) (waits_for_nothing process.wait && nat_eq process.affinity core) sound.1 in
    let third = and_parts (waits_for_nothing process.wait) (nat_eq process.affinity core) second.1 in
    record {
      alive = first.0;
      sound = is_not process.faulted sound.0;
      goes_on = is_not process.suspended second.0;
      waits = waits_nothing process.wait third.0;
      affinity = eqb-true process.affinity core third.1;
    }

-- a ready process passes the test
pub is_ready_by : (core : ℕ) (process : Process) → IsReady core process → is_ready core process ≡ true
is_ready_by core process ready =
    and_from _ _ ready.alive (and_from _ _ (ap not ready.sound) (and_from _ _ (ap not ready.goes_on)
    (and_from _ _ (ap waits_for_nothing ready.waits) (eq-eqb process.affinity core ready.affinity))))

-- The entries of a table: those that a filter keeps, and the one of a number.

-- what a filter keeps

-- what is kept is in the list
pub kept_is_there : (test : ℕ × Process → Bool) (entries : Table) (entry : ℕ × Process) → Contains (filter test entries) entry → Contains entries entry
kept_is_there test entries entry kept =
    All-contains (Contains entries) (filter test entries) entry (All-filter test (Contains entries) entries (All-contains_itself entries)) kept

-- what is kept passes the test
pub kept_passes : (test : ℕ × Process → Bool) (entries : Table) (entry : ℕ × Process) → Contains (filter test entries) entry → test entry ≡ true
kept_passes test entries entry kept = All-contains (λ one. test one ≡ true) (filter test entries) entry (filter_passes test entries) kept

-- each entry of the list that passes is kept, by recursion on the list
all_kept : (test : ℕ × Process → Bool) (entries : Table) → All (λ entry. test entry ≡ true → Contains (filter test entries) entry) entries
all_kept test [] = All-nil _
all_kept test (entry ∷ entries) =
    All-cons (λ one. test one ≡ true → Contains (filter test (entry ∷ entries)) one) entry entries
    (λ passes. rw passes (member_first entry (filter test entries)))
    (All-weaker (λ one. test one ≡ true → Contains (filter test entries) one) (λ one. test one ≡ true → Contains (filter test (entry ∷ entries)) one)
    (λ one keeps passes. by_test (λ (kept : Table). Contains kept one) (test entry) (entry ∷ filter test entries) (filter test entries)
    (λ holds. member_later entry one (filter test entries) (keeps passes)) (λ fails. keeps passes))
    entries (all_kept test entries))

-- an entry of the list that passes is kept
pub kept : (test : ℕ × Process → Bool) (entries : Table) (entry : ℕ × Process) → Contains entries entry → test entry ≡ true → Contains (filter test entries) entry
kept test entries entry is_member passes =
    All-contains (λ one. test one ≡ true → Contains (filter test entries) one) entries entry (all_kept test entries) is_member passes

-- the entry of a number

-- in a table of distinct numbers each entry is found under its number
pub at_its_number : (table : Table) → are_distinct table ≡ true → All (λ entry. item_at table entry.0 ≡ Some entry.1) table
at_its_number [] distinct = All-nil _
at_its_number (entry ∷ entries) distinct =
    let parts = and_parts (not (is_some (item_at entries entry.0))) (are_distinct entries) distinct in
    All-cons (λ one. item_at (entry ∷ entries) one.0 ≡ Some one.1) entry entries (rw is_itself refl)
    (All-weaker (λ one. item_at entries one.0 ≡ Some one.1) (λ one. item_at (entry ∷ entries) one.0 ≡ Some one.1)
    (λ one at. either_way (nat_eq one.0 entry.0)
    (λ same. (let number : one.0 ≡ entry.0 = eqb-true one.0 entry.0 same in
    let here : item_at entries entry.0 ≡ Some one.1 = subst (λ number. item_at entries number ≡ Some one.1) number at in
    absurd (true≢false (sym parts.0 ∙ ap (λ found. not (is_some found)) here))))
    (λ other. rw other at))
    entries (at_its_number entries parts.1))

-- two entries of one number in a table of distinct numbers are one
pub one_entry : (table : Table) → are_distinct table ≡ true → (one other : ℕ × Process) → Contains table one → Contains table other → one.0 ≡ other.0 → one ≡ other
one_entry table distinct one other is_member also number =
    let all = at_its_number table distinct in
    let first : item_at table one.0 ≡ Some one.1 = All-contains (λ entry. item_at table entry.0 ≡ Some entry.1) table one all is_member in
    let second : item_at table other.0 ≡ Some other.1 = All-contains (λ entry. item_at table entry.0 ≡ Some entry.1) table other all also in
    let process = one_item (sym first ∙ ap (item_at table) number ∙ second) in
    λ i. (number i, process i)

-- The choice is the ready process before which no other goes.

-- the foremost of a list

-- none of these goes before the entry
abbrev NoneBefore : Table → ℕ × Process → Type 0
NoneBefore entries found = All (λ other. goes_before other found ≡ false) entries

-- the entry is among these, and none of them goes before it
record IsForemost (entries : Table) (found : ℕ × Process) : Type 0 where
  is_member : Contains entries found
  first : NoneBefore entries found

-- a list without a foremost entry has none
empty : (Fact : ℕ × Process → Type 0) (entries : Table) → foremost entries ≡ None → All Fact entries
empty Fact [] none = All-nil _
empty Fact (entry ∷ entries) none = absurd (some entry (foremost entries) none)
  where
    some : (entry : ℕ × Process) (first : Option (ℕ × Process)) → sooner entry first ≡ None → ⊥
    some entry None none = cc
    some entry (Some other) none =
        elim (goes_before other entry) as (λ before. cond before (Some other) (Some entry) ≡ None → ⊥) [ true ↦ λ none. cc | false ↦ λ none. cc ] none

-- the new entry is the foremost
new_foremost : (entry : ℕ × Process) (entries : Table) (found : ℕ × Process) → Some entry ≡ Some found → NoneBefore entries entry → IsForemost (entry ∷ entries) found
new_foremost entry entries found is none =
    let same : entry ≡ found = cc in
    subst (IsForemost (entry ∷ entries)) same
    (record { is_member = member_first entry entries; first = All-cons (λ other. goes_before other entry ≡ false) entry entries (not_before_itself entry) none })

-- the foremost of the others stays
old_foremost : (entry other : ℕ × Process) (entries : Table) (found : ℕ × Process) → Some other ≡ Some found → IsForemost entries other
    → goes_before other entry ≡ true → IsForemost (entry ∷ entries) found
old_foremost entry other entries found is old before =
    let same : other ≡ found = cc in
    subst (IsForemost (entry ∷ entries)) same (record {
      is_member = member_later entry other entries old.is_member;
      first = All-cons (λ one. goes_before one other ≡ false) entry entries (not_both_before other entry before) old.first;
    })

-- the sooner of an entry and the foremost of the others is the foremost of all
sooner_of : (entry : ℕ × Process) (entries : Table) (found : ℕ × Process) (first : Option (ℕ × Process))
    → foremost entries ≡ first → ((other : ℕ × Process) → first ≡ Some other → IsForemost entries other)
    → sooner entry first ≡ Some found → IsForemost (entry ∷ entries) found
sooner_of entry entries found None none rest is = new_foremost entry entries found is (empty (λ one. goes_before one entry ≡ false) entries none)
sooner_of entry entries found (Some other) some rest is =
    let old = rest other refl in
    by_test (λ first. first ≡ Some found → IsForemost (entry ∷ entries) found) (goes_before other entry) (Some other) (Some entry)
    (λ before is. old_foremost entry other entries found is old before)
    (λ not_before is. new_foremost entry entries found is
    (All-weaker (λ one. goes_before one other ≡ false) (λ one. goes_before one entry ≡ false)
    (λ one those_after. not_before-chain one other entry those_after not_before) entries old.first)) is

-- what the fold finds is the foremost
foremost_is : (entries : Table) (found : ℕ × Process) → foremost entries ≡ Some found → IsForemost entries found
foremost_is [] found is = cc
foremost_is (entry ∷ entries) found is =
    sooner_of entry entries found (foremost entries) refl (λ other some. foremost_is entries other some) is

-- the choice

-- what the fold finds among the ready processes is the choice
pub foremost_is_chosen : (core : ℕ) (table : Table) (entry : ℕ × Process) → foremost (ready_entries core table) ≡ Some entry → IsChosen core table entry
foremost_is_chosen core table entry is =
    let test : ℕ × Process → Bool = λ one. is_ready core one.1 in
    let found = foremost_is (ready_entries core table) entry is in
    record {
      is_member = kept_is_there test table entry found.is_member;
      ready = ready_is core entry.1 (kept_passes test table entry found.is_member);
      first = λ other is_member ready before.
          true≢false (sym (goes_before_by other entry before)
          ∙ All-contains (λ one. goes_before one entry ≡ false) (ready_entries core table) other found.first
          (kept test table other is_member (is_ready_by core other.1 ready)));
    }

-- if it finds none, no process is ready
nobody_is_ready : (core : ℕ) (table : Table) → foremost (ready_entries core table) ≡ None → (entry : ℕ × Process) → Contains table entry → ¬ IsReady core entry.1
nobody_is_ready core table none entry is_member ready =
    All-contains (λ one. ⊥) (ready_entries core table) entry (empty (λ one. ⊥) (ready_entries core table) none) (kept (λ one. is_ready core one.1) table entry is_member (is_ready_by core entry.1 ready))

-- the test fails if the sentence does
goes_not : (one other : ℕ × Process) → ¬ GoesBefore one other → goes_before one other ≡ false
goes_not one other not_before = cannot_hold (goes_before one other) (λ passes. not_before (is_before one other passes))

-- the choice is what the fold finds
chosen_is_foremost : (core : ℕ) (table : Table) → are_distinct table ≡ true → (entry : ℕ × Process) → IsChosen core table entry → foremost (ready_entries core table) ≡ Some entry
chosen_is_foremost core table distinct entry chosen = by (foremost (ready_entries core table)) refl
  where
    by : (first : Option (ℕ × Process)) → foremost (ready_entries core table) ≡ first → first ≡ Some entry
    by None none = absurd (nobody_is_ready core table none entry chosen.is_member chosen.ready)
    by (Some other) some =
        let also = foremost_is_chosen core table other some in
        let number : other.0 ≡ entry.0 = one_number other entry (goes_not other entry (chosen.first other also.is_member also.ready)) (goes_not entry other (also.first entry chosen.is_member chosen.ready)) in
        ap Some (one_entry table distinct other entry also.is_member chosen.is_member number)

-- if no process is ready, it finds none
none_is_foremost : (core : ℕ) (table : Table) → ((entry : ℕ × Process) → Contains table entry → ¬ IsReady core entry.1) → foremost (ready_entries core table) ≡ None
none_is_foremost core table nobody = by (foremost (ready_entries core table)) refl
  where
    by : (first : Option (ℕ × Process)) → foremost (ready_entries core table) ≡ first → first ≡ None
    by None none = refl
    by (Some other) some =
        let chosen = foremost_is_chosen core table other some in
        absurd (nobody other chosen.is_member chosen.ready)

-- The choice under an owner of the lock: the owner if it is ready, else the choice among all.

-- a process exists and is ready
pub record FoundReady (core : ℕ) (found : Option Process) : Type 0 where
  pub process : Process
  pub is_member : found ≡ Some process
  pub ready : IsReady core process

-- the test of an owner says what the sentence says
pub owner_is_ready : (core : ℕ) (found : Option Process) → is_one_ready core found ≡ true → FoundReady core found
owner_is_ready core None passes = impossible passes
owner_is_ready core (Some process) passes = record { process = process; is_member = refl; ready = ready_is core process passes }

-- a process that is found under a number is in the table, with that number
pub entry_found : (table : Table) (number : ℕ) (process : Process) → item_at table number ≡ Some process → Contains table (number, process)
entry_found [] number process at = never_found at
entry_found (entry ∷ entries) number process at =
    either_way (nat_eq number entry.0)
    (λ same. (let here : entry.1 ≡ process = one_item (rw same at at) in
    let number_is : entry.0 ≡ number = sym (eqb-true number entry.0 same) in
    let is : ◌≡◌ {A = ℕ × Process} entry (number, process) = λ i. (number_is i, here i) in
    subst (Contains (entry ∷ entries)) is (member_first entry entries)))
    (λ other. member_later entry (number, process) entries (entry_found entries number process (rw other at at)))

-- in a table of distinct numbers an entry is found under its number
pub found_entry : (table : Table) → are_distinct table ≡ true → (entry : ℕ × Process) → Contains table entry → item_at table entry.0 ≡ Some entry.1
found_entry table distinct entry is_member = All-contains (λ one. item_at table one.0 ≡ Some one.1) table entry (at_its_number table distinct) is_member

-- an owner that is in the table and ready passes the test
ready_owner : (core : ℕ) (table : Table) → are_distinct table ≡ true → (owner : ℕ) → IsReadyOwner core owner table → is_one_ready core (item_at table owner) ≡ true
ready_owner core table distinct owner (process, is_member, ready) =
    ap (is_one_ready core) (found_entry table distinct (owner, process) is_member) ∙ is_ready_by core process ready

-- an owner that passes the test is in the table and ready
owner_ready : (core : ℕ) (table : Table) (owner : ℕ) → is_one_ready core (item_at table owner) ≡ true → IsReadyOwner core owner table
owner_ready core table owner passes =
    let is = owner_is_ready core (item_at table owner) passes in
    (is.process, entry_found table owner is.process is.is_member, is.ready)

-- the choice among all, by its number

-- a choice of this number is of the entry that the fold finds
first_number : (number : ℕ) (found : Option (ℕ × Process)) (proc : ℕ)
    → option_map {U = Who} (λ entry. record { part = number; proc = entry.0 }) found ≡ Some (record { part = number; proc = proc })
    → (entry : ℕ × Process) × (found ≡ Some entry) × (entry.0 ≡ proc)
first_number number None proc is = never_found is
first_number number (Some entry) proc is =
    let same : ◌≡◌ {A = Who} (record { part = number; proc = entry.0 }) (record { part = number; proc = proc }) = one_item is in
    (entry, refl, ap (λ one. one.proc) same)

first_is_chosen : (number core : ℕ) (table : Table) → are_distinct table ≡ true → (entry : ℕ × Process) → Contains table entry
    → choice_in number core table ≡ Some (record { part = number; proc = entry.0 }) → IsChosen core table entry
first_is_chosen number core table distinct entry is_member is =
    let found = first_number number (foremost (ready_entries core table)) entry.0 is in
    let chosen = foremost_is_chosen core table found.0 found.1 in
    subst (IsChosen core table) (one_entry table distinct found.0 entry chosen.is_member is_member found.2) chosen

chosen_is_first : (number core : ℕ) (table : Table) → are_distinct table ≡ true → (entry : ℕ × Process) → IsChosen core table entry
    → choice_in number core table ≡ Some (record { part = number; proc = entry.0 })
chosen_is_first number core table distinct entry chosen =
    ap (option_map {U = Who} (λ one. record { part = number; proc = one.0 })) (chosen_is_foremost core table distinct entry chosen)

-- there is no choice among all exactly if the fold finds none
not_mapped : (number : ℕ) (found : Option (ℕ × Process)) → ◌≡◌ {A = Option Who} (option_map {U = Who} (λ entry. record { part = number; proc = entry.0 }) found) None → found ≡ None
not_mapped number None is = refl
not_mapped number (Some entry) is = never_found (sym is)

-- the choice under an owner

choice_is_under : (number core : ℕ) (owner : Option ℕ) (table : Table) → are_distinct table ≡ true → (entry : ℕ × Process) → Contains table entry
    → choice_under number core owner table ≡ Some (record { part = number; proc = entry.0 }) → IsChosenUnder core owner table entry
choice_is_under number core None table distinct entry is_member is =
    IsChosenUnder.first_runs (λ other owns. never_found owns) (first_is_chosen number core table distinct entry is_member is)
choice_is_under number core (Some owner) table distinct entry is_member is =
    by_test (λ (choice : Option Who). choice ≡ Some (record { part = number; proc = entry.0 }) → IsChosenUnder core (Some owner) table entry)
    (is_one_ready core (item_at table owner)) (Some (record { part = number; proc = owner })) (choice_in number core table)
    (λ passes is. (let same : ◌≡◌ {A = Who} (record { part = number; proc = owner }) (record { part = number; proc = entry.0 }) = one_item is in
    let owns : owner ≡ entry.0 = ap (λ one. one.proc) same in
    let there = owner_is_ready core (item_at table owner) passes in
    let process : there.process ≡ entry.1 = one_item (sym there.is_member ∙ ap (item_at table) owns ∙ found_entry table distinct entry is_member) in
    IsChosenUnder.owner_runs (ap Some owns) is_member (subst (IsReady core) process there.ready)))
    (λ fails is. IsChosenUnder.first_runs
    (λ other owns ready. true≢false (sym (ready_owner core table distinct owner (subst (λ one. IsReadyOwner core one table) (sym (one_item owns)) ready)) ∙ fails))
    (first_is_chosen number core table distinct entry is_member is)) is

under_is_choice : (number core : ℕ) (owner : Option ℕ) (table : Table) → are_distinct table ≡ true → (entry : ℕ × Process)
    → IsChosenUnder core owner table entry → choice_under number core owner table ≡ Some (record { part = number; proc = entry.0 })
under_is_choice number core owner table distinct entry (IsChosenUnder.owner_runs owns is_member ready) =
    ap (λ one. choice_under number core one table) owns ∙ rw (ready_owner core table distinct entry.0 (entry.1, is_member, ready)) refl
under_is_choice number core None table distinct entry (IsChosenUnder.first_runs nobody chosen) = chosen_is_first number core table distinct entry chosen
under_is_choice number core (Some owner) table distinct entry (IsChosenUnder.first_runs nobody chosen) =
    rw (cannot_hold (is_one_ready core (item_at table owner)) (λ passes. nobody owner refl (owner_ready core table owner passes)))
    (chosen_is_first number core table distinct entry chosen)

no_choice_under : (number core : ℕ) (owner : Option ℕ) (table : Table) → choice_under number core owner table ≡ None
    → (entry : ℕ × Process) → Contains table entry → ¬ IsReady core entry.1
no_choice_under number core None table none = nobody_is_ready core table (not_mapped number (foremost (ready_entries core table)) none)
no_choice_under number core (Some owner) table none =
    by_test (λ (choice : Option Who). choice ≡ None → (entry : ℕ × Process) → Contains table entry → ¬ IsReady core entry.1)
    (is_one_ready core (item_at table owner)) (Some (record { part = number; proc = owner })) (choice_in number core table)
    (λ passes none. never_found (sym none)) (λ fails none. nobody_is_ready core table (not_mapped number (foremost (ready_entries core table)) none)) none

under_no_choice : (number core : ℕ) (owner : Option ℕ) (table : Table) → ((entry : ℕ × Process) → Contains table entry → ¬ IsReady core entry.1)
    → choice_under number core owner table ≡ None
under_no_choice number core None table nobody = ap (option_map {U = Who} (λ one. record { part = number; proc = one.0 })) (none_is_foremost core table nobody)
under_no_choice number core (Some owner) table nobody =
    rw (cannot_hold (is_one_ready core (item_at table owner)) (λ passes. (let is = owner_ready core table owner passes in nobody (owner, is.0) is.1 is.2)))
    (ap (option_map {U = Who} (λ one. record { part = number; proc = one.0 })) (none_is_foremost core table nobody))

-- The choice of a partition: its handler, no process, or the choice under the lock.

-- the handler is ready exactly if the test says so
handling_is : (core : ℕ) (partition : Partition) → is_handling_on core partition ≡ true → HandlerIsReady core partition
handling_is core partition passes =
    let parts = and_parts (is_normal partition.mode) (is_one_ready core (item_at partition.table 0)) passes in
    let is = owner_ready core partition.table 0 parts.1 in
    (is.0, record { normal = (normal_tells partition.mode).0 parts.0; is_member = is.1 }, is.2)

handling_by : (core : ℕ) (partition : Partition) → are_distinct partition.table ≡ true → HandlerIsReady core partition → is_handling_on core partition ≡ true
handling_by core partition distinct (process, handler, ready) =
    and_from _ _ (ap is_normal handler.normal) (ready_owner core partition.table distinct 0 (process, handler.is_member, ready))

-- and so it is with cores that stand still
alive_is : (found : Option Process) → is_one_alive found ≡ true → (process : Process) × (found ≡ Some process) × (process.alive ≡ true)
alive_is None passes = impossible passes
alive_is (Some process) passes = (process, refl, passes)

pauses_is : (found : Option ErrorHandler) → pauses_others found ≡ true → (handler : ErrorHandler) × (found ≡ Some handler) × (handler.pauses ≡ true)
pauses_is None passes = impossible passes
pauses_is (Some handler) passes = (handler, refl, passes)

paused_is : (partition : Partition) → is_paused partition ≡ true → OthersPause partition
paused_is partition passes =
    let first = and_parts (is_normal partition.mode) (is_one_alive (item_at partition.table 0) && pauses_others partition.handler) passes in
    let second = and_parts (is_one_alive (item_at partition.table 0)) (pauses_others partition.handler) first.1 in
    let alive = alive_is (item_at partition.table 0) second.0 in
    let normal = (normal_tells partition.mode).0 first.0 in
    ((alive.0, record { normal = normal; is_member = entry_found partition.table 0 alive.0 alive.1 }, alive.2), pauses_is partition.handler second.1)

paused_by : (partition : Partition) → are_distinct partition.table ≡ true → OthersPause partition → is_paused partition ≡ true
paused_by partition distinct ((process, handler, alive), (created, has, pauses)) =
    and_from _ _ (ap is_normal handler.normal)
    (and_from _ _ (ap is_one_alive (found_entry partition.table distinct (0, process) handler.is_member) ∙ alive) (ap pauses_others has ∙ pauses))

choice_is_in : (number core : ℕ) (partition : Partition) (entry : ℕ × Process) → are_distinct partition.table ≡ true → Contains partition.table entry
    → partition_choice number core partition ≡ Some (record { part = number; proc = entry.0 }) → IsChosenIn core partition entry
choice_is_in number core partition entry distinct is_member is =
    let chosen : Option Who = Some (record { part = number; proc = entry.0 }) in
    let under = choice_under number core partition.lock.owner partition.table in
    by_test (λ (choice : Option Who). choice ≡ chosen → IsChosenIn core partition entry) (is_handling_on core partition)
    (Some (record { part = number; proc = 0 })) (cond (is_paused partition) None under)
    (λ handles is. (let same : ◌≡◌ {A = Who} (record { part = number; proc = 0 }) (record { part = number; proc = entry.0 }) = one_item is in
    let zero : 0 ≡ entry.0 = ap (λ one. one.proc) same in
    let there = handling_is core partition handles in
    let at : item_at partition.table 0 ≡ Some there.0 = found_entry partition.table distinct (0, there.0) there.1.is_member in
    let process : there.0 ≡ entry.1 = one_item (sym at ∙ ap (item_at partition.table) zero ∙ found_entry partition.table distinct entry is_member) in
    IsChosenIn.handler_runs (sym zero) (subst (IsTheHandler partition) process there.1) (subst (IsReady core) process there.2)))
    (λ handles_not. by_test (λ (choice : Option Who). choice ≡ chosen → IsChosenIn core partition entry) (is_paused partition) None under
    (λ pauses is. never_found is)
    (λ goes_on is. IsChosenIn.other_runs (λ ready. true≢false (sym (handling_by core partition distinct ready) ∙ handles_not))
    (λ pauses. true≢false (sym (paused_by partition distinct pauses) ∙ goes_on))
    (choice_is_under number core partition.lock.owner partition.table distinct entry is_member is))) is

in_is_choice : (number core : ℕ) (partition : Partition) (entry : ℕ × Process) → are_distinct partition.table ≡ true
    → IsChosenIn core partition entry → partition_choice number core partition ≡ Some (record { part = number; proc = entry.0 })
in_is_choice number core partition entry distinct (IsChosenIn.handler_runs zero handler ready) =
    let handles : is_handling_on core partition ≡ true = handling_by core partition distinct (entry.1, handler, ready) in
    rw handles (ap (λ (one : ℕ). let who : Who = record { part = number; proc = one } in Some who) (sym zero))
in_is_choice number core partition entry distinct (IsChosenIn.other_runs not_ready not_paused under) =
    let handles : is_handling_on core partition ≡ false = cannot_hold (is_handling_on core partition) (λ passes. not_ready (handling_is core partition passes)) in
    let pauses : is_paused partition ≡ false = cannot_hold (is_paused partition) (λ passes. not_paused (paused_is partition passes)) in
    rw (handles, pauses) (under_is_choice number core partition.lock.owner partition.table distinct entry under)

pub choice_is_the_sentence : ChoiceIsTheSentence
choice_is_the_sentence core table distinct = (
  λ entry. (foremost_is_chosen core table entry, chosen_is_foremost core table distinct entry),
  (nobody_is_ready core table, none_is_foremost core table),
  λ number owner entry is_member. (choice_is_under number core owner table distinct entry is_member, under_is_choice number core owner table distinct entry),
  λ number owner. (no_choice_under number core owner table, under_no_choice number core owner table),
  λ number partition entry of_partition is_member. (choice_is_in number core partition entry of_partition is_member, in_is_choice number core partition entry of_partition),
)

-- The caller of a call: it is in its partition's table and is ready.

-- the first of a partition is in its table and is ready
first_exists : (number core : ℕ) (table : Table) (who : Who) → are_distinct table ≡ true → choice_in number core table ≡ Some who
    → FoundReady core (item_at table who.proc)
first_exists number core table who distinct chosen = by (foremost (ready_entries core table)) refl chosen
  where
    by : (first : Option (ℕ × Process)) → foremost (ready_entries core table) ≡ first
        → option_map (λ entry. record { part = number; proc = entry.0 }) first ≡ Some who → FoundReady core (item_at table who.proc)
    by None none chosen = cc
    by (Some entry) some chosen =
        let same : ◌≡◌ {A = Who} (record { part = number; proc = entry.0 }) who = cc in
        let is = foremost_is_chosen core table entry some in
        let at : item_at table entry.0 ≡ Some entry.1 = found_entry table distinct entry is.is_member in
        record { process = entry.1; is_member = subst (λ number. item_at table number ≡ Some entry.1) (ap (λ one. one.proc) same) at; ready = is.ready }

-- the choice under an owner is in the table and is ready
under_exists : (number core : ℕ) (owner : Option ℕ) (table : Table) (who : Who) → are_distinct table ≡ true → choice_under number core owner table ≡ Some who
    → FoundReady core (item_at table who.proc)
under_exists number core None table who distinct chosen = first_exists number core table who distinct chosen
under_exists number core (Some owner) table who distinct chosen =
    by_test (λ (choice : Option Who). choice ≡ Some who → FoundReady core (item_at table who.proc)) (is_one_ready core (item_at table owner))
    (Some (record { part = number; proc = owner })) (choice_in number core table)
    (λ passes is. (let same : ◌≡◌ {A = Who} (record { part = number; proc = owner }) who = one_item is in
    subst (λ one. FoundReady core (item_at table one)) (ap (λ one. one.proc) same) (owner_is_ready core (item_at table owner) passes)))
    (λ fails is. first_exists number core table who distinct is) chosen

-- the choice of a partition is in its table and is ready
pub choice_exists : (number core : ℕ) (partition : Partition) (who : Who) → are_distinct partition.table ≡ true → partition_choice number core partition ≡ Some who
    → FoundReady core (item_at partition.table who.proc)
choice_exists number core partition who distinct chosen =
    let under = choice_under number core partition.lock.owner partition.table in
    by_test (λ (choice : Option Who). choice ≡ Some who → FoundReady core (item_at partition.table who.proc)) (is_handling_on core partition)
    (Some (record { part = number; proc = 0 })) (cond (is_paused partition) None under)
    (λ handles is. (let same : ◌≡◌ {A = Who} (record { part = number; proc = 0 }) who = one_item is in
    subst (λ one. FoundReady core (item_at partition.table one)) (ap (λ one. one.proc) same)
    (owner_is_ready core (item_at partition.table 0) (and_parts (is_normal partition.mode) (is_one_ready core (item_at partition.table 0)) handles).1)))
    (λ handles_not. by_test (λ (choice : Option Who). choice ≡ Some who → FoundReady core (item_at partition.table who.proc)) (is_paused partition) None under
    (λ pauses is. never_found is) (λ goes_on is. under_exists number core partition.lock.owner partition.table who distinct is)) chosen

-- the choice of a core is in its partition's table and is ready
pub chosen_exists : (window : Option ℕ) (partitions : ℕ → Partition) (core : ℕ) (who : Who) → are_distinct (partitions who.part).table ≡ true
    → choice_of window partitions core ≡ Some who → FoundReady core (item_at (partitions who.part).table who.proc)
chosen_exists window partitions core who distinct chosen =
    choice_exists who.part core (partitions who.part) who distinct (choice_is window partitions core who chosen).choice

-- so it waits in no set
pub ready_waits_not : (core : ℕ) (found : Option Process) (wanted : WaitingSet) → FoundReady core found → waits_at wanted found ≡ true → ⊥
ready_waits_not core found wanted ready waits =
    let here : waits_at wanted (Some ready.process) ≡ true = subst (λ one. waits_at wanted one ≡ true) ready.is_member waits in
    let wait : is_in wanted ready.process.wait ≡ true = (and_parts ready.process.alive _ here).1 in
    true≢false (sym wait ∙ in_no_set wanted ready.process.wait (ap waits_for_nothing ready.ready.waits))

-- nor for the lock
pub ready_waits_not_for_lock : (core : ℕ) (found : Option Process) → FoundReady core found → waits_for_lock found ≡ true → ⊥
ready_waits_not_for_lock core found ready waits =
    let here : waits_for_lock (Some ready.process) ≡ true = subst (λ one. waits_for_lock one ≡ true) ready.is_member waits in
    let wait : is_for_lock ready.process.wait ≡ true = (and_parts ready.process.alive _ here).1 in
    true≢false (sym wait ∙ not_for_lock ready.process.wait (ap waits_for_nothing ready.ready.waits))
  where
    not_for_lock : (one : Wait) → waits_for_nothing one ≡ true → is_for_lock one ≡ false
    not_for_lock Wait.Nothing nothing = refl
    not_for_lock _ nothing = impossible nothing
