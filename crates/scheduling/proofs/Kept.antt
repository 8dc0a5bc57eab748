-- What a table keeps beside its processes, as one of them changes or is added.
use Rattle.std.proofs.Common.{◌≡◌, ℕ, ◌+◌, ◌<◌, ◌≤◌, Bool, true, false, nat_eq, List, [], ◌∷◌, ◌++◌, length, Option, Some, None, if◌then◌else◌, cond, refl, sym, ap, ◌∙◌, arith, length-append}
use Rattle.std.proofs.lemmas.Bool.Decides.{nat_tests}
use Rattle.std.specs.Map.{lookup, set_value}
use Rattle.std.proofs.lemmas.Map.{keys-set_value, length-set_value}
use Rattle.apex_machine.specs.declared.state.Process.{Process}
use Rattle.apex_machine.specs.State.{Table, item_at}
use Rattle.scheduling.specs.declared.order.DueTime.{DueTime}
use Rattle.scheduling.specs.declared.order.Rank.{Rank}
use Rattle.scheduling.specs.Kept.{IsKept}
use Rattle.scheduling.specs.Orders.{IsInOrder, IsStrictOrder, Sequence, inserted, keys_in, with_key, without_key}
use Rattle.scheduling.specs.Ranks.{deadline_time_of, due_before, due_laws, due_time_of, rank_before, rank_laws, rank_of}
use Rattle.scheduling.proofs.Orders.{IsInOrder-inserted, inserted-twice, without-with}
use Rattle.scheduling.proofs.Tables.{NumbersFit-push, lookup-item_at}

-- a table without the process of a number
abbrev pub table_without : ℕ → Table → Table
table_without number [] = []
table_without number (entry ∷ entries) = if nat_eq number entry.0 then entries else entry ∷ table_without number entries

length-table_without : (number : ℕ) (old : Process) (entries : Table) → item_at entries number ≡ Some old
    → length (table_without number entries) + 1 ≡ length entries
length-table_without number old [] found = cc
length-table_without number old (entry ∷ entries) found =
    let rest : item_at entries number ≡ Some old → length (table_without number entries) + 1 ≡ length entries = length-table_without number old entries in
    grind (arith, nat_tests)

item_at-written : (number : ℕ) (old written : Process) (entries : Table) → item_at entries number ≡ Some old
    → item_at (set_value (nat_eq number) entries written) number ≡ Some written
item_at-written number old written [] found = cc
item_at-written number old written (entry ∷ entries) found = by (nat_eq number entry.0) refl (item_at-written number old written entries)
  where
    by : (b : Bool) → nat_eq number entry.0 ≡ b
        → (item_at entries number ≡ Some old → item_at (set_value (nat_eq number) entries written) number ≡ Some written)
        → item_at (cond b ((entry.0, written) ∷ entries) (entry ∷ set_value (nat_eq number) entries written)) number ≡ Some written
    by true e rest = rw e refl
    by false e rest = rw e (rest (rw e at found))

without-written : (number : ℕ) (written : Process) (entries : Table)
    → table_without number (set_value (nat_eq number) entries written) ≡ table_without number entries
without-written number written [] = refl
without-written number written (entry ∷ entries) = by (nat_eq number entry.0) refl (without-written number written entries)
  where
    by : (b : Bool) → nat_eq number entry.0 ≡ b
        → table_without number (set_value (nat_eq number) entries written) ≡ table_without number entries
        → table_without number (cond b ((entry.0, written) ∷ entries) (entry ∷ set_value (nat_eq number) entries written))
        ≡ (if b then entries else entry ∷ table_without number entries)
    by true e rest = rw e refl
    by false e rest = rw (e, rest) refl

module _ {Key : Type 0} (before : Key → Key → Bool) (order : IsStrictOrder before) (key_of : ℕ → Process → Option Key) where
  with_key-twice : (a b : Option Key) (keys : List Key) → with_key before a (with_key before b keys) ≡ with_key before b (with_key before a keys)
  with_key-twice None b keys = refl
  with_key-twice (Some a) None keys = refl
  with_key-twice (Some a) (Some b) keys = inserted-twice before order a b keys

  -- the key of one process, and those of the others
  pub keys_in-found : (number : ℕ) (old : Process) (entries : Table) → item_at entries number ≡ Some old
      → keys_in before key_of entries ≡ with_key before (key_of number old) (keys_in before key_of (table_without number entries))
  keys_in-found number old [] found = cc
  keys_in-found number old (entry ∷ entries) found = by (nat_eq number entry.0) refl (keys_in-found number old entries)
    where
      by : (b : Bool) → nat_eq number entry.0 ≡ b
          → (item_at entries number ≡ Some old
          → keys_in before key_of entries ≡ with_key before (key_of number old) (keys_in before key_of (table_without number entries)))
          → with_key before (key_of entry.0 entry.1) (keys_in before key_of entries)
          ≡ with_key before (key_of number old) (keys_in before key_of (if b then entries else entry ∷ table_without number entries))
      by true e rest =
          let same : number ≡ entry.0 = grind (arith, nat_tests) in
          let found_here = rw e at found in
          let old_is : old ≡ entry.1 = cc in
          rw (same, old_is) refl
      by false e rest =
          rw (rest (rw e at found)) (with_key-twice (key_of entry.0 entry.1) (key_of number old) (keys_in before key_of (table_without number entries)))

  -- the keys once a process is written at its number
  keys_in-written : (number : ℕ) (old written : Process) (entries : Table) → item_at entries number ≡ Some old
      → keys_in before key_of (set_value (nat_eq number) entries written)
      ≡ with_key before (key_of number written) (keys_in before key_of (table_without number entries))
  keys_in-written number old written entries found =
      keys_in-found number written (set_value (nat_eq number) entries written) (item_at-written number old written entries found)
      ∙ ap (λ rest. with_key before (key_of number written) (keys_in before key_of rest)) (without-written number written entries)

  length-with_key : (key : Option Key) (keys : List Key) → length (with_key before key keys) ≤ length keys + 1
  length-with_key None keys = omega arith
  length-with_key (Some key) [] = omega arith
  length-with_key (Some key) (other ∷ others) =
      let rest : length (inserted before key others) ≤ length others + 1 = length-with_key (Some key) others in
      grind (arith, nat_tests)

  length-keys_in : (entries : Table) → length (keys_in before key_of entries) ≤ length entries
  length-keys_in [] = omega arith
  length-keys_in (entry ∷ entries) = omega (arith, length-with_key (key_of entry.0 entry.1) (keys_in before key_of entries), length-keys_in entries)

  -- with the key of a process taken out, those of the others are left
  taken_out : (number : ℕ) (old : Process) (entries : Table) (keys taken : List Key) → item_at entries number ≡ Some old
      → keys ≡ keys_in before key_of entries → taken ≡ without_key before (key_of number old) keys
      → taken ≡ keys_in before key_of (table_without number entries)
  taken_out number old entries keys taken found kept is =
      is ∙ ap (without_key before (key_of number old)) (kept ∙ keys_in-found number old entries found)
      ∙ without-with before order (key_of number old) (keys_in before key_of (table_without number entries))

  -- so that there is room for one more
  pub room_left : (number : ℕ) (old : Process) (entries : Table) (keys : List Key) (room : ℕ) → item_at entries number ≡ Some old
      → keys ≡ keys_in before key_of entries → length entries ≤ room → length (without_key before (key_of number old) keys) < room
  room_left number old entries keys room found kept fits =
      let left : length (without_key before (key_of number old) keys) ≡ length (keys_in before key_of (table_without number entries))
      = ap length (taken_out number old entries keys _ found kept refl) in
      omega (arith, left, length-keys_in (table_without number entries), length-table_without number old entries found, fits)

  -- its key is among those of the table
  pub is_member : (number : ℕ) (old : Process) (entries : Table) (keys : List Key) → item_at entries number ≡ Some old → keys ≡ keys_in before key_of entries
      → with_key before (key_of number old) (without_key before (key_of number old) keys) ≡ keys
  is_member number old entries keys found kept =
      ap (with_key before (key_of number old)) (taken_out number old entries keys _ found kept refl) ∙ sym (kept ∙ keys_in-found number old entries found)

  -- and with the key of the changed process put in, they are those of the changed table
  put_back : (number : ℕ) (old written : Process) (entries : Table) (keys new : List Key) → item_at entries number ≡ Some old
      → keys ≡ keys_in before key_of entries → new ≡ with_key before (key_of number written) (without_key before (key_of number old) keys)
      → new ≡ keys_in before key_of (set_value (nat_eq number) entries written)
  put_back number old written entries keys new found kept is_new =
      is_new ∙ ap (with_key before (key_of number written)) (taken_out number old entries keys _ found kept refl)
      ∙ sym (keys_in-written number old written entries found)

  keys_in-push : (entries : Table) (number : ℕ) (process : Process) → key_of number process ≡ None
      → keys_in before key_of (entries ++ (number, process) ∷ []) ≡ keys_in before key_of entries
  keys_in-push [] number process none = rw none refl
  keys_in-push (entry ∷ entries) number process none = rw (keys_in-push entries number process none) refl

  -- the keys of a table are in order
  pub IsInOrder-keys_in : (entries : Table) → IsInOrder before (keys_in before key_of entries)
  IsInOrder-keys_in [] = tt
  IsInOrder-keys_in (entry ∷ entries) = by (key_of entry.0 entry.1) (IsInOrder-keys_in entries)
    where
      by : (key : Option Key) → IsInOrder before (keys_in before key_of entries) → IsInOrder before (with_key before key (keys_in before key_of entries))
      by None rest = rest
      by (Some key) rest = IsInOrder-inserted before order key (keys_in before key_of entries) rest

pub found_there : (number : ℕ) (old : Process) (entries : Table) → Some old ≡ lookup (nat_eq number) entries → item_at entries number ≡ Some old
found_there number old entries found = sym (found ∙ lookup-item_at number entries)

-- what is kept once a process has changed
pub IsKept-written : (number : ℕ) (old written : Process) (entries next : Table) (spare spare_new : ℕ) (ready ready_new : Sequence Rank) (due due_new deadlines deadlines_new : Sequence DueTime)
    → IsKept entries spare ready due deadlines → Some old ≡ lookup (nat_eq number) entries → next ≡ set_value (nat_eq number) entries written
    → ready_new.keys ≡ with_key rank_before (rank_of number written) (without_key rank_before (rank_of number old) ready.keys) → ready.room ≤ ready_new.room
    → due_new.keys ≡ with_key due_before (due_time_of number written) (without_key due_before (due_time_of number old) due.keys) → due.room ≤ due_new.room
    → deadlines_new.keys ≡ with_key due_before (deadline_time_of number written) (without_key due_before (deadline_time_of number old) deadlines.keys) → deadlines.room ≤ deadlines_new.room
    → IsKept next spare_new ready_new due_new deadlines_new
IsKept-written number old written entries next spare spare_new ready ready_new due due_new deadlines deadlines_new kept found is r_put r_grows d_put d_grows m_put m_grows =
    let there = found_there number old entries found in
    let long : length next ≡ length entries = ap length is ∙ length-set_value (nat_eq number) entries written in
    record {
      numbers = rw (is, keys-set_value (nat_eq number) entries written) kept.numbers;
      ranks = rw is (put_back rank_before rank_laws rank_of number old written entries ready.keys ready_new.keys there kept.ranks r_put);
      due_times = rw is (put_back due_before due_laws due_time_of number old written entries due.keys due_new.keys there kept.due_times d_put);
      deadline_times = rw is (put_back due_before due_laws deadline_time_of number old written entries deadlines.keys deadlines_new.keys there kept.deadline_times m_put);
      ready_room = omega (arith, long, kept.ready_room, r_grows);
      due_room = omega (arith, long, kept.due_room, d_grows);
      deadline_room = omega (arith, long, kept.deadline_room, m_grows);
      first_process = omega (arith, long, length-table_without number old entries there);
      first_rank = omega (arith, kept.first_rank, r_grows);
      first_due = omega (arith, kept.first_due, d_grows);
      first_deadline = omega (arith, kept.first_deadline, m_grows);
    }

-- what is kept once a process without a rank, a due time and a deadline is added, with room made for it
pub IsKept-push : (number : ℕ) (process : Process) (entries next : Table) (spare spare_new : ℕ) (ready ready_new : Sequence Rank) (due due_new deadlines deadlines_new : Sequence DueTime)
    → IsKept entries spare ready due deadlines → number < 4294967296 → next ≡ entries ++ (number, process) ∷ []
    → rank_of number process ≡ None → due_time_of number process ≡ None → deadline_time_of number process ≡ None
    → ready_new.keys ≡ ready.keys → length entries + 1 ≤ ready_new.room → due_new.keys ≡ due.keys → length entries + 1 ≤ due_new.room
    → deadlines_new.keys ≡ deadlines.keys → length entries + 1 ≤ deadlines_new.room
    → IsKept next spare_new ready_new due_new deadlines_new
IsKept-push number process entries next spare spare_new ready ready_new due due_new deadlines deadlines_new kept fits is no_rank no_due no_deadline r_same r_room d_same d_room m_same m_room =
    let long : length next ≡ length entries + 1 = ap length is ∙ length-append entries ((number, process) ∷ []) in
    record {
      numbers = rw is (NumbersFit-push entries number process kept.numbers fits);
      ranks = rw is (r_same ∙ kept.ranks ∙ sym (keys_in-push rank_before rank_laws rank_of entries number process no_rank));
      due_times = rw is (d_same ∙ kept.due_times ∙ sym (keys_in-push due_before due_laws due_time_of entries number process no_due));
      deadline_times = rw is (m_same ∙ kept.deadline_times ∙ sym (keys_in-push due_before due_laws deadline_time_of entries number process no_deadline));
      ready_room = omega (arith, long, r_room);
      due_room = omega (arith, long, d_room);
      deadline_room = omega (arith, long, m_room);
      first_process = omega (arith, long);
      first_rank = omega (arith, r_room);
      first_due = omega (arith, d_room);
      first_deadline = omega (arith, m_room);
    }
