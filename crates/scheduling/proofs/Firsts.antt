-- The first rank of a core, and the due times that are reached, in lists that are in order.
use Rattle.std.proofs.Common.{◌≡◌, ℕ, suc, ◌+◌, ◌<◌, Bool, true, false, ◌||◌, ◌&&◌, not, nat_eq, nat_lt, nat_le, List, [], ◌∷◌, slice_get, Option, Some, None, option_map, if◌then◌else◌, cond, refl, sym, ◌∙◌, arith}
use Rattle.std.proofs.lemmas.Bool.Decides.{nat_tests}
use Rattle.apex_types.specs.declared.record.Who.{Who}
use Rattle.apex_machine.specs.declared.state.Process.{Process}
use Rattle.apex_machine.specs.State.{Table}
use Rattle.apex_machine.specs.Choice.{choice_in, foremost, goes_before, is_ready, ready_entries, sooner}
use Rattle.scheduling.specs.Orders.{IsInOrder, NoneBefore, inserted, keys_in, place_where}
use Rattle.scheduling.specs.Firsts.{due_count, first_on, is_reached}
use Rattle.scheduling.specs.Ranks.{before_there, due_before, is_ready_there, rank_before, rank_laws, rank_of}
use Rattle.scheduling.specs.declared.order.DueTime.{DueTime}
use Rattle.scheduling.specs.declared.order.Rank.{Rank}
use Rattle.scheduling.proofs.Kept.{IsInOrder-keys_in}
use Rattle.scheduling.proofs.Orders.{none_before-trans}

-- reading the first rank of a core

abbrev pub is_below : ℕ → Rank → Bool
is_below core rank = nat_lt rank.core core

-- those that go before one of a lower core are of a lower core
pub below_carries : (core : ℕ) (one other : Rank) → rank_before other one ≡ false → is_below core other ≡ true → is_below core one ≡ true
below_carries core one other those_after below = grind (arith, nat_tests)

none_on : (core : ℕ) (rank : Rank) (ranks : List Rank) → core < rank.core → NoneBefore rank_before rank ranks → first_on core ranks ≡ None
none_on core rank [] above none = refl
none_on core rank (other ∷ others) above none =
    let those_after : rank_before other rank ≡ false = none.0 in
    let apart : nat_eq other.core core ≡ false = grind (arith, nat_tests) in
    rw apart (none_on core rank others above none.1)

-- the process of a rank, if there is one that is of this core
abbrev pub on_core : ℕ → Option Rank → Option ℕ
on_core core None = None
on_core core (Some rank) = if nat_eq rank.core core then Some rank.number else None

-- it is read after the ranks of lower cores
first_on-first : (core : ℕ) (ranks : List Rank) → IsInOrder rank_before ranks → first_on core ranks ≡ on_core core (slice_get ranks (place_where (is_below core) ranks))
first_on-first core [] ordered = refl
first_on-first core (rank ∷ ranks) ordered = by (is_below core rank) (nat_eq rank.core core) refl refl (first_on-first core ranks ordered.1)
  where
    by : (b d : Bool) → is_below core rank ≡ b → nat_eq rank.core core ≡ d → first_on core ranks ≡ on_core core (slice_get ranks (place_where (is_below core) ranks))
        → (if d then Some rank.number else first_on core ranks) ≡ on_core core (slice_get (rank ∷ ranks) (if b then suc (place_where (is_below core) ranks) else 0))
    by true true e h rest = absurd (grind (arith, nat_tests))
    by true false e h rest = rest
    by false true e h rest = rw h refl
    by false false e h rest = rw h (none_on core rank ranks (grind (arith, nat_tests)) ordered.0)

pub first_on-at : (core place : ℕ) (ranks : List Rank) (found : Option Rank) → IsInOrder rank_before ranks → place ≡ place_where (is_below core) ranks
    → slice_get ranks place ≡ found → first_on core ranks ≡ on_core core found
first_on-at core place ranks found ordered at is = rw (← is, at) (first_on-first core ranks ordered)

-- the first rank of a core is that of the choice

-- the rank that a process has if it is ready
abbrev pub own_rank : ℕ × Process → Rank
own_rank entry = record { core = entry.1.affinity; priority = entry.1.current_priority; position = entry.1.ready_position; number = entry.0 }

-- the one of two ranks that goes first
abbrev lead : Rank → Option Rank → Option Rank
lead rank None = Some rank
lead rank (Some other) = if before_there other rank then Some other else Some rank

-- the rank of the foremost of the ready processes
abbrev led : ℕ → Table → Option Rank
led core [] = None
led core (entry ∷ entries) = if is_ready core entry.1 then lead (own_rank entry) (led core entries) else led core entries

-- the first rank of a core
abbrev first_rank : ℕ → List Rank → Option Rank
first_rank core [] = None
first_rank core (rank ∷ ranks) = if nat_eq rank.core core then Some rank else first_rank core ranks

first_on-rank : (core : ℕ) (ranks : List Rank) → first_on core ranks ≡ option_map (λ (rank : Rank). rank.number) (first_rank core ranks)
first_on-rank core [] = refl
first_on-rank core (rank ∷ ranks) = by (nat_eq rank.core core) (first_on-rank core ranks)
  where
    by : (b : Bool) → first_on core ranks ≡ option_map (λ (rank : Rank). rank.number) (first_rank core ranks)
        → (if b then Some rank.number else first_on core ranks) ≡ option_map (λ (rank : Rank). rank.number) (if b then Some rank else first_rank core ranks)
    by true rest = refl
    by false rest = rest

lead-first : (core : ℕ) (rank : Rank) (ranks : List Rank) → nat_eq rank.core core ≡ true → NoneBefore rank_before rank ranks
    → lead rank (first_rank core ranks) ≡ Some rank
lead-first core rank [] own none = refl
lead-first core rank (other ∷ others) own none = by (nat_eq other.core core) refl (lead-first core rank others own none.1)
  where
    by : (b : Bool) → nat_eq other.core core ≡ b → lead rank (first_rank core others) ≡ Some rank
        → lead rank (if b then Some other else first_rank core others) ≡ Some rank
    by true e rest =
        let those_after : rank_before other rank ≡ false = none.0 in
        let not_before : before_there other rank ≡ false = grind (arith, nat_tests) in
        rw not_before refl
    by false e rest = rest

-- one more rank leads, or doesn't
first_rank-inserted : (core : ℕ) (rank : Rank) (ranks : List Rank) → IsInOrder rank_before ranks
    → first_rank core (inserted rank_before rank ranks) ≡ (if nat_eq rank.core core then lead rank (first_rank core ranks) else first_rank core ranks)
first_rank-inserted core rank [] ordered = refl
first_rank-inserted core rank (other ∷ others) ordered =
    by (rank_before other rank) (nat_eq rank.core core) (nat_eq other.core core) refl refl refl (first_rank-inserted core rank others ordered.1)
  where
    none : rank_before other rank ≡ false → NoneBefore rank_before rank (other ∷ others)
    none those_after = (those_after, none_before-trans rank_before rank_laws rank other others those_after ordered.0)

    by : (b d e : Bool) → rank_before other rank ≡ b → nat_eq rank.core core ≡ d → nat_eq other.core core ≡ e
        → first_rank core (inserted rank_before rank others) ≡ (if nat_eq rank.core core then lead rank (first_rank core others) else first_rank core others)
        → first_rank core (if b then other ∷ inserted rank_before rank others else rank ∷ other ∷ others)
        ≡ (if d then lead rank (if e then Some other else first_rank core others) else (if e then Some other else first_rank core others))
    by true true true h k l rest =
        let first : before_there other rank ≡ true = grind (arith, nat_tests) in
        rw (l, first) refl
    by true true false h k l rest = let rest_now = rw k at rest in rw l rest_now
    by true false true h k l rest = rw l refl
    by true false false h k l rest = let rest_now = rw k at rest in rw l rest_now
    by false true e h k l rest = rw (k, ← l) (sym (lead-first core rank (other ∷ others) k (none h)))
    by false false e h k l rest = rw (k, l) refl

lead-sooner : (core : ℕ) (entry : ℕ × Process) (found : Option (ℕ × Process)) → lead (own_rank entry) (option_map own_rank found) ≡ option_map own_rank (sooner entry found)
lead-sooner core entry None = refl
lead-sooner core entry (Some other) = by (goes_before other entry)
  where
    by : (b : Bool) → (if b then Some (own_rank other) else Some (own_rank entry)) ≡ option_map own_rank (if b then Some other else Some entry)
    by true = refl
    by false = refl

led-is : (core : ℕ) (table : Table) → led core table ≡ option_map own_rank (foremost (ready_entries core table))
led-is core [] = refl
led-is core (entry ∷ entries) = by (is_ready core entry.1) (led-is core entries)
  where
    by : (b : Bool) → led core entries ≡ option_map own_rank (foremost (ready_entries core entries))
        → (if b then lead (own_rank entry) (led core entries) else led core entries)
        ≡ option_map own_rank (foremost (cond b (entry ∷ ready_entries core entries) (ready_entries core entries)))
    by true rest = rw rest (lead-sooner core entry (foremost (ready_entries core entries)))
    by false rest = rest

is_ready-there : (core : ℕ) (process : Process) → is_ready core process ≡ (is_ready_there process && nat_eq process.affinity core)
is_ready-there core process = by process.alive (not process.faulted) (not process.suspended) _ _
  where
    by : (a f b c d : Bool) → a && (f && (b && (c && d))) ≡ ((a && (f && (b && c))) && d)
    by true true true true d = refl
    by true true true false d = refl
    by true true false c d = refl
    by true false b c d = refl
    by false f b c d = refl

first_rank-led : (core : ℕ) (table : Table) → first_rank core (keys_in rank_before rank_of table) ≡ led core table
first_rank-led core [] = refl
first_rank-led core (entry ∷ entries) = by (is_ready_there entry.1) refl (first_rank-led core entries)
  where
    joined : (b : Bool) → (if b then lead (own_rank entry) (first_rank core (keys_in rank_before rank_of entries)) else first_rank core (keys_in rank_before rank_of entries))
        ≡ (if true && b then lead (own_rank entry) (first_rank core (keys_in rank_before rank_of entries)) else first_rank core (keys_in rank_before rank_of entries))
    joined true = refl
    joined false = refl

    by : (b : Bool) → is_ready_there entry.1 ≡ b → first_rank core (keys_in rank_before rank_of entries) ≡ led core entries
        → first_rank core (keys_in rank_before rank_of (entry ∷ entries)) ≡ led core (entry ∷ entries)
    by true e rest =
        rw (e, is_ready-there core entry.1, e, ← rest)
        (first_rank-inserted core (own_rank entry) (keys_in rank_before rank_of entries) (IsInOrder-keys_in rank_before rank_laws rank_of entries)
        ∙ joined (nat_eq entry.1.affinity core))
    by false e rest = rw (e, is_ready-there core entry.1, e, ← rest) refl

-- the choice is the process of the first rank
pub choice-first : (partition core : ℕ) (table : Table)
    → choice_in partition core table ≡ option_map (λ number. record { part = partition; proc = number }) (first_on core (keys_in rank_before rank_of table))
choice-first partition core table = rw (first_on-rank core (keys_in rank_before rank_of table), first_rank-led core table, led-is core table) (through (foremost (ready_entries core table)))
  where
    through : (found : Option (ℕ × Process))
        → option_map {U = Who} (λ entry. record { part = partition; proc = entry.0 }) found
        ≡ option_map {U = Who} (λ number. record { part = partition; proc = number }) (option_map (λ (rank : Rank). rank.number) (option_map own_rank found))
    through None = refl
    through (Some entry) = refl

-- counting the due times that are reached

abbrev pub is_earlier : ℕ → DueTime → Bool
is_earlier core due = nat_lt due.core core

abbrev pub is_by : ℕ → ℕ → DueTime → Bool
is_by core time due = nat_lt due.core core || (nat_eq due.core core && nat_le due.time time)

pub earlier_carries : (core : ℕ) (one other : DueTime) → due_before other one ≡ false → is_earlier core other ≡ true → is_earlier core one ≡ true
earlier_carries core one other those_after earlier = grind (arith, nat_tests)

pub by_carries : (core time : ℕ) (one other : DueTime) → due_before other one ≡ false → is_by core time other ≡ true → is_by core time one ≡ true
by_carries core time one other those_after earlier = grind (arith, nat_tests)

none_reached : (core time : ℕ) (due : DueTime) (others : List DueTime) → is_by core time due ≡ false → NoneBefore due_before due others → due_count core time others ≡ 0
none_reached core time due [] later none = refl
none_reached core time due (other ∷ others) later none =
    let those_after : due_before other due ≡ false = none.0 in
    let apart : is_reached core time other ≡ false = grind (arith, nat_tests) in
    rw apart (none_reached core time due others later none.1)

none_earlier : (core : ℕ) (due : DueTime) (others : List DueTime) → is_earlier core due ≡ false → NoneBefore due_before due others → place_where (is_earlier core) others ≡ 0
none_earlier core due [] here none = refl
none_earlier core due (other ∷ others) here none =
    let those_after : due_before other due ≡ false = none.0 in
    let apart : is_earlier core other ≡ false = grind (arith, nat_tests) in
    rw apart refl

-- those of lower cores, and then those of the core that are reached
pub due_count-between : (core time : ℕ) (dues : List DueTime) → IsInOrder due_before dues
    → place_where (is_by core time) dues ≡ place_where (is_earlier core) dues + due_count core time dues
due_count-between core time [] ordered = refl
due_count-between core time (due ∷ others) ordered = by (is_earlier core due) (is_by core time due) refl refl (due_count-between core time others ordered.1)
  where
    by : (b d : Bool) → is_earlier core due ≡ b → is_by core time due ≡ d
        → place_where (is_by core time) others ≡ place_where (is_earlier core) others + due_count core time others
        → (if d then suc (place_where (is_by core time) others) else 0)
        ≡ (if b then suc (place_where (is_earlier core) others) else 0) + due_count core time (due ∷ others)
    by true true h k rest = let apart : is_reached core time due ≡ false = grind (arith, nat_tests) in rw apart (omega (arith, rest))
    by true false h k rest = let contrary : is_by core time due ≡ true = grind (arith, nat_tests) in cc
    by false true h k rest =
        let here : is_reached core time due ≡ true = grind (arith, nat_tests) in
        rw here (omega (arith, rest, none_earlier core due others h ordered.0))
    by false false h k rest =
        let apart : is_reached core time due ≡ false = grind (arith, nat_tests) in
        rw apart (omega (arith, none_reached core time due others k ordered.0))
