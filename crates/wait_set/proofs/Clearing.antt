-- The queue while it is cleared: the messages of the first senders that wait move up, one after the other.
use Rattle.std.proofs.Common.{◌≡◌, ◌<◌, ◌≤◌, ◌-◌, ℕ, zero, suc, List, [], ◌∷◌, ◌++◌, Option, Some, None, Bool, true, false, ◌||◌, length, nat_lt, refl, sym, ap, subst, ◌∙◌, arith, inl, inr, true≢false}
use Rattle.std.proofs.lemmas.Bool.{cases_Bool}
use Rattle.std.proofs.lemmas.Bool.Decides.{nat_tests}
use Rattle.std.specs.Option.{is_some}
use Rattle.apex_types.specs.declared.discipline.Discipline.{Discipline}
use Rattle.apex_types.specs.declared.record.Claim.{Claim}
use Rattle.apex_types.specs.declared.record.Who.{Who}
use Rattle.apex_machine.specs.declared.state.Entry.{Entry}
use Rattle.apex_machine.specs.Answer.{NamesExactly, waiters_of}
use Rattle.apex_machine.specs.Demands.{has_entry_in}
use Rattle.apex_machine.specs.Queue.{Messages, messages_sent}
use Rattle.apex_machine.specs.State.{is_named, is_same}
use Rattle.apex_machine.specs.Waiting.{after_first, first_waiter, first_waiters, followed_by}
use Rattle.wait_set.specs.Sets.{without_named, without_one}
use Rattle.wait_set.proofs.FirstRanks.{first_named, unnamed_gone, without-swap}
use Rattle.wait_set.proofs.Leaving.{unnamed-without, without-named_one}
use Rattle.wait_set.proofs.WaitersOf.{is_member-named, same_is, same_itself}
use Rattle.wait_set.specs.Queues.{Queue, after_clear, first_of, moved_up}

-- the first senders for which there is still room
abbrev pub firsts_left : Queue → List Entry
firsts_left queue = first_waiters queue.senders.discipline (queue.capacity - length queue.messages) queue.senders.entries

-- a queue that is being cleared by a claim that names these processes: the first senders for which there is room still move up, and of those
-- that wait the list names exactly these
pub record Clearing (woken : List Who) (old new : Queue) : Type 0 where
  pub capacity : new.capacity ≡ old.capacity
  pub receivers : new.receivers ≡ old.receivers
  pub discipline : new.senders.discipline ≡ old.senders.discipline
  pub messages : new.messages ++ messages_sent (firsts_left new) ≡ messages_sent (first_waiters old.senders.discipline old.capacity old.senders.entries)
  pub left : without_named woken new.senders.entries ≡ without_named woken old.senders.entries
  pub named : (who : Who) → has_entry_in who new.senders.entries ≡ true → is_named who woken ≡ is_named who (waiters_of (firsts_left new))

-- lists of messages

append_one : (messages : Messages) (message : List ℕ) (others : Messages) → (messages ++ message ∷ []) ++ others ≡ messages ++ message ∷ others
append_one [] message others = refl
append_one (first ∷ rest) message others = ap (λ more. first ∷ more) (append_one rest message others)

append_none : (messages : Messages) → messages ++ [] ≡ messages
append_none [] = refl
append_none (first ∷ rest) = ap (λ more. first ∷ more) (append_none rest)

length_one : (messages : Messages) (message : List ℕ) → length (messages ++ message ∷ []) ≡ suc (length messages)
length_one [] message = refl
length_one (first ∷ rest) message = ap suc (length_one rest message)

-- the first of a set and those after it
firsts_step : (discipline : Discipline) (room : ℕ) (entries : List Entry) (first : Entry) → first_waiter discipline entries ≡ Some first
    → first_waiters discipline (suc room) entries ≡ first ∷ first_waiters discipline room (without_one first.who entries)
firsts_step discipline room entries first is =
    ap (λ one. followed_by one (first_waiters discipline room (after_first one entries))) is
    ∙ ap (λ rest. first ∷ first_waiters discipline room rest) (without-swap first.who entries)

firsts_none : (discipline : Discipline) (room : ℕ) (entries : List Entry) → first_waiter discipline entries ≡ None
    → first_waiters discipline room entries ≡ []
firsts_none discipline zero entries none = refl
firsts_none discipline (suc room) entries none = ap (λ one. followed_by one (first_waiters discipline room (after_first one entries))) none

-- who waits after another has left waited before
still_there : (gone who : Who) (entries : List Entry) → has_entry_in who (without_one gone entries) ≡ true → has_entry_in who entries ≡ true
still_there gone who entries has =
    elim (cases_Bool (has_entry_in who entries)) [
      | inl is ↦ is
      | inr absent ↦
          let unnamed = unnamed-without (λ one. is_same one gone) who entries (is_member-named who entries ∙ absent) in
          absurd (true≢false (sym has ∙ sym (is_member-named who (without_one gone entries)) ∙ unnamed))
    ]

-- and is another
another : (gone who : Who) (entries : List Entry) → has_entry_in who (without_one gone entries) ≡ true → is_same who gone ≡ false
another gone who entries has =
    elim (cases_Bool (is_same who gone)) [
      | inl same ↦
          let unnamed : is_named gone (waiters_of (without_one gone entries)) ≡ false =
          ap (λ rest. is_named gone (waiters_of rest)) (sym (without-swap gone entries)) ∙ unnamed_gone gone entries in
          absurd (true≢false (sym has ∙ sym (is_member-named who (without_one gone entries))
          ∙ ap (λ one. is_named one (waiters_of (without_one gone entries))) (same_is who gone same) ∙ unnamed))
      | inr differs ↦ differs
    ]

-- if none of those that wait is named, all stay
unnamed_stay : (woken : List Who) (entries : List Entry) → ((who : Who) → has_entry_in who entries ≡ true → is_named who woken ≡ false)
    → without_named woken entries ≡ entries
unnamed_stay woken [] unnamed = refl
unnamed_stay woken (entry ∷ entries) unnamed =
    let own : is_named entry.who woken ≡ false = unnamed entry.who (rw (same_itself entry.who) refl) in
    rw own (ap (λ rest. entry ∷ rest) (unnamed_stay woken entries (λ who has. unnamed who (either (is_same who entry.who) (has_entry_in who entries) has))))
  where
    either : (here later : Bool) → later ≡ true → (here || later) ≡ true
    either true later is = refl
    either false later is = is

-- the messages are gone
pub starts : (woken : List Who) (old : Queue) → NamesExactly (waiters_of (first_waiters old.senders.discipline old.capacity old.senders.entries)) woken
    → Clearing woken old (record old { messages = [] })
starts woken old exact =
    let room : old.capacity - 0 ≡ old.capacity = omega arith in
    let firsts = ap (λ count. first_waiters old.senders.discipline count old.senders.entries) room in
    record {
      capacity = refl;
      receivers = refl;
      discipline = refl;
      messages = ap messages_sent firsts;
      left = refl;
      named = λ who has. exact who ∙ sym (ap (λ entries. is_named who (waiters_of entries)) firsts);
    }

-- the message of the first sender moves up
pub moves : (woken : List Who) (old between : Queue) (first : Entry) → Clearing woken old between → length between.messages < between.capacity
    → first_waiter between.senders.discipline between.senders.entries ≡ Some first → Clearing woken old (moved_up (Some first) between)
moves woken old between first clearing has_room is =
    let after : Messages = between.messages ++ first.message ∷ [] in
    let longer : length after ≡ suc (length between.messages) = length_one between.messages first.message in
    let room : between.capacity - length between.messages ≡ suc (between.capacity - length after) = omega (arith, longer) in
    let firsts : firsts_left between ≡ first ∷ firsts_left (moved_up (Some first) between) =
    ap (λ count. first_waiters between.senders.discipline count between.senders.entries) room
    ∙ firsts_step between.senders.discipline (between.capacity - length after) between.senders.entries first is in
    let there : has_entry_in first.who between.senders.entries ≡ true =
    sym (is_member-named first.who between.senders.entries) ∙ first_named between.senders.discipline between.senders.entries first is in
    let own : is_named first.who woken ≡ true =
    clearing.named first.who there ∙ ap (λ entries. is_named first.who (waiters_of entries)) firsts ∙ rw (same_itself first.who) refl in
    record {
      capacity = clearing.capacity;
      receivers = clearing.receivers;
      discipline = clearing.discipline;
      messages = append_one between.messages first.message (messages_sent (firsts_left (moved_up (Some first) between)))
          ∙ ap (λ entries. between.messages ++ messages_sent entries) (sym firsts) ∙ clearing.messages;
      left = without-named_one first.who woken between.senders.entries own ∙ clearing.left;
      named = λ who has. clearing.named who (still_there first.who who between.senders.entries has)
          ∙ ap (λ entries. is_named who (waiters_of entries)) firsts
          ∙ ap (λ here. here || is_named who (waiters_of (firsts_left (moved_up (Some first) between)))) (another first.who who between.senders.entries has);
    }

-- once no first sender is left for which there is room, the queue is cleared
cleared : (claim : Claim) (old between : Queue) → Clearing claim.woken old between → firsts_left between ≡ [] → between ≡ after_clear claim old
cleared claim old between clearing none =
    let messages : between.messages ≡ messages_sent (first_waiters old.senders.discipline old.capacity old.senders.entries) =
    sym (append_none between.messages) ∙ ap (λ entries. between.messages ++ messages_sent entries) (sym none) ∙ clearing.messages in
    let entries : between.senders.entries ≡ without_named claim.woken old.senders.entries =
    sym (unnamed_stay claim.woken between.senders.entries
    (λ who has. clearing.named who has ∙ ap (λ firsts. is_named who (waiters_of firsts)) none))
    ∙ clearing.left in
    λ i. record {
      capacity = clearing.capacity i;
      messages = messages i;
      senders = record { discipline = clearing.discipline i; entries = entries i };
      receivers = clearing.receivers i;
    }

-- where there is no room, none is left
no_room : (capacity size : ℕ) → (size < capacity → ⊥) → capacity - size ≡ 0
no_room capacity size full =
    elim (cases_Bool (nat_lt size capacity)) [
      | inl less ↦ absurd (full (grind (arith, nat_tests)))
      | inr not_less ↦
          let most : capacity ≤ size = grind (arith, nat_tests) in
          omega arith
    ]

-- the queue is full
pub ends_full : (claim : Claim) (old between : Queue) → Clearing claim.woken old between → (length between.messages < between.capacity → ⊥)
    → between ≡ after_clear claim old
ends_full claim old between clearing full =
    cleared claim old between clearing
    (ap (λ count. first_waiters between.senders.discipline count between.senders.entries) (no_room between.capacity (length between.messages) full))

-- the first sender has moved up, if one waited
pub moves_on : (woken : List Who) (old between after : Queue) → Clearing woken old between → length between.messages < between.capacity
    → after ≡ moved_up (first_of between.senders) between → is_some (first_of between.senders) ≡ true → Clearing woken old after
moves_on woken old between after clearing has_room = by (first_of between.senders) refl
  where
    by : (found : Option Entry) → first_of between.senders ≡ found → after ≡ moved_up found between → is_some found ≡ true → Clearing woken old after
    by None is moved some = absurd (true≢false (sym some))
    by (Some first) is moved some =
        subst (λ (queue : Queue). Clearing woken old queue) (sym moved) (moves woken old between first clearing has_room is)

-- no sender waits any more
pub ends_empty : (claim : Claim) (old between after : Queue) → Clearing claim.woken old between → after ≡ moved_up (first_of between.senders) between
    → is_some (first_of between.senders) ≡ false → after ≡ after_clear claim old
ends_empty claim old between after clearing = by (first_of between.senders) refl
  where
    by : (found : Option Entry) → first_of between.senders ≡ found → after ≡ moved_up found between → is_some found ≡ false → after ≡ after_clear claim old
    by None is moved none =
        moved ∙ cleared claim old between clearing
        (firsts_none between.senders.discipline (between.capacity - length between.messages) between.senders.entries is)
    by (Some first) is moved none = absurd (true≢false none)
