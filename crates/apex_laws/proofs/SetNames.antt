-- Kinds, ends and waiting sets by their tests, and the one set in which a process waits.
use Rattle.std.proofs.Common.{◌≡◌, ℕ, List, Bool, true, false, nat_eq, refl, sym, true≢false, Option, Some, None, ap, ◌∙◌}
use Rattle.std.proofs.lemmas.Bool.{and_parts, eqb-true}
use Rattle.std.specs.Prelude.{[]}
use Rattle.apex_types.specs.declared.object_kind.ObjectKind.TheVariants as kind
use Rattle.apex_laws.proofs.Common.{End, Entry, ObjectKind, ObjectOf, Partition, Process, Receivers, Senders, Wait, WaitingSet, channel_set, entries_at_end, is_in, is_of_channel, is_of_object, is_same_end, is_same_kind, is_same_set}
use Rattle.apex_laws.proofs.Common.{is_the_set, objects_of, waits_at, waits_for_nothing, with_ends, with_objects}
use Rattle.apex_laws.proofs.Booleans.{is_itself}

-- Kinds, ends and waiting sets by their tests.

-- kinds

pub same_kind_is : (one other : ObjectKind) → is_same_kind one other ≡ true → one ≡ other
same_kind_is kind.Buffer kind.Buffer same = refl
same_kind_is kind.Blackboard kind.Blackboard same = refl
same_kind_is kind.Semaphore kind.Semaphore same = refl
same_kind_is kind.Event kind.Event same = refl
same_kind_is kind.Mutex kind.Mutex same = refl
same_kind_is kind.SamplingPort kind.SamplingPort same = refl
same_kind_is kind.QueuingPort kind.QueuingPort same = refl
same_kind_is _ _ same = absurd (true≢false (sym same))

pub kind_itself : (kind : ObjectKind) → is_same_kind kind kind ≡ true
kind_itself kind.Buffer = refl
kind_itself _ = refl

-- a fact about the objects of a kind, if those of one kind are replaced
pub put_holds : (kind : ObjectKind) (objects : List (ℕ × ObjectOf kind)) (partition : Partition) (other : ObjectKind) (Fact : (kind : ObjectKind) → List (ℕ × ObjectOf kind) → Type 0)
    → (is_same_kind kind other ≡ true → Fact kind objects) → (is_same_kind kind other ≡ false → Fact other (objects_of partition other))
    → Fact other (objects_of (with_objects kind objects partition) other)
put_holds kind.Buffer objects partition kind.Buffer Fact here there = here refl
put_holds kind.Blackboard objects partition kind.Blackboard Fact here there = here refl
put_holds kind.Semaphore objects partition kind.Semaphore Fact here there = here refl
put_holds kind.Event objects partition kind.Event Fact here there = here refl
put_holds kind.Mutex objects partition kind.Mutex Fact here there = here refl
put_holds kind.SamplingPort objects partition kind.SamplingPort Fact here there = here refl
put_holds kind.QueuingPort objects partition kind.QueuingPort Fact here there = here refl
put_holds kind.Buffer objects partition _ Fact here there = there refl
put_holds kind.Blackboard objects partition _ Fact here there = there refl
put_holds kind.Semaphore objects partition _ Fact here there = there refl
put_holds kind.Event objects partition _ Fact here there = there refl
put_holds kind.Mutex objects partition _ Fact here there = there refl
put_holds kind.SamplingPort objects partition _ Fact here there = there refl
put_holds kind.QueuingPort objects partition _ Fact here there = there refl

-- ends

pub same_end_is : (one other : End) → is_same_end one other ≡ true → one ≡ other
same_end_is Senders Senders same = refl
same_end_is Receivers Receivers same = refl
same_end_is _ _ same = absurd (true≢false (sym same))

pub end_itself : (end : End) → is_same_end end end ≡ true
end_itself Senders = refl
end_itself Receivers = refl

-- sets

-- the test says that these are one set
pub same_set_is : (one other : WaitingSet) → is_same_set one other ≡ true → one ≡ other
same_set_is one other same =
    let parts = and_parts (is_of_object one.kind one.number other) (is_same_end one.end other.end) same in
    let object = and_parts (is_same_kind one.kind other.kind) (nat_eq one.number other.number) parts.0 in
    λ i. record { kind = same_kind_is one.kind other.kind object.0 i; number = eqb-true one.number other.number object.1 i; end = same_end_is one.end other.end parts.1 i }

-- a set is the same as itself
pub set_itself : (wanted : WaitingSet) → is_same_set wanted wanted ≡ true
set_itself wanted = rw (kind_itself wanted.kind, is_itself wanted.number, end_itself wanted.end) refl

-- a channel's set is the set at an end of the channel of its number
pub channel_set_is : (wanted : WaitingSet) → is_of_channel wanted ≡ true → wanted ≡ channel_set wanted.number wanted.end
channel_set_is wanted is = λ i. record { kind = same_kind_is wanted.kind kind.QueuingPort is i; number = wanted.number; end = wanted.end }

-- the ends of an object

-- whether the objects of a kind have waiting sets at this end
abbrev pub has_end : ObjectKind → End → Bool
has_end kind.Buffer end = true
has_end kind.Blackboard Receivers = true
has_end kind.Semaphore Receivers = true
has_end kind.Event Receivers = true
has_end kind.Mutex Receivers = true
has_end _ end = false

-- where there is no end, no process waits
pub no_entries : (kind : ObjectKind) (end : End) (found : ObjectOf kind) → has_end kind end ≡ false → entries_at_end kind end found ≡ []
no_entries kind.Buffer Senders found none = absurd (true≢false none)
no_entries kind.Buffer Receivers found none = absurd (true≢false none)
no_entries kind.Blackboard Receivers found none = absurd (true≢false none)
no_entries kind.Semaphore Receivers found none = absurd (true≢false none)
no_entries kind.Event Receivers found none = absurd (true≢false none)
no_entries kind.Mutex Receivers found none = absurd (true≢false none)
no_entries _ _ found none = refl

-- a change of the entries at each end changes those at this one
pub end_changes : (kind : ObjectKind) (end : End) (change : End → List Entry → List Entry) (found : ObjectOf kind) → has_end kind end ≡ true
    → entries_at_end kind end (with_ends kind change found) ≡ change end (entries_at_end kind end found)
end_changes kind.Buffer Senders change found has = refl
end_changes kind.Buffer Receivers change found has = refl
end_changes kind.Blackboard Receivers change found has = refl
end_changes kind.Semaphore Receivers change found has = refl
end_changes kind.Event Receivers change found has = refl
end_changes kind.Mutex Receivers change found has = refl
end_changes _ _ change found has = absurd (true≢false (sym has))

-- two changes that agree at each end agree on the object; a port has none
pub ends_agree : (one : ObjectKind) (change other : End → List Entry → List Entry) (found : ObjectOf one)
    → (is_same_kind one kind.QueuingPort ≡ false → (end : End) → change end (entries_at_end one end found) ≡ other end (entries_at_end one end found))
    → with_ends one change found ≡ with_ends one other found
ends_agree kind.Buffer change other found same = λ i. record found { senders = same refl Senders i; receivers = same refl Receivers i }
ends_agree kind.Blackboard change other found same = λ i. record found { readers = same refl Receivers i }
ends_agree kind.Semaphore change other found same = λ i. record found { waiters = same refl Receivers i }
ends_agree kind.Event change other found same = λ i. record found { waiters = same refl Receivers i }
ends_agree kind.Mutex change other found same = λ i. record found { waiters = same refl Receivers i }
ends_agree _ change other found same = refl

-- an object with its ends as they are
pub ends_kept : (kind : ObjectKind) (found : ObjectOf kind) → with_ends kind (λ end entries. entries) found ≡ found
ends_kept kind.Buffer found = refl
ends_kept _ found = refl

-- Waiting sets by their names: a process waits in one at most.

-- the set that is found is the one that is wanted
pub found_set : (wanted : WaitingSet) (found : Option WaitingSet) → is_the_set wanted found ≡ true → found ≡ Some wanted
found_set wanted None is = absurd (true≢false (sym is))
found_set wanted (Some found) is = ap Some (same_set_is found wanted is)

-- what waits for nothing waits in no set
pub in_no_set : (wanted : WaitingSet) (one : Wait) → waits_for_nothing one ≡ true → is_in wanted one ≡ false
in_no_set wanted Wait.Nothing nothing = refl
in_no_set wanted _ nothing = absurd (true≢false (sym nothing))

-- one wait is in one set
one_wait : (one other : WaitingSet) (wait : Wait) → is_in one wait ≡ true → is_in other wait ≡ true → one ≡ other
one_wait one other (Wait.At found due) here also = sym (same_set_is found one here) ∙ same_set_is found other also
one_wait one other _ here also = absurd (true≢false (sym here))

-- so a process waits in one set
pub one_set : (one other : WaitingSet) (found : Option Process) → waits_at one found ≡ true → waits_at other found ≡ true → one ≡ other
one_set one other None here also = absurd (true≢false (sym here))
one_set one other (Some process) here also =
    one_wait one other process.wait (and_parts process.alive _ here).1 (and_parts process.alive _ also).1

-- so who waits in a set of an object waits in no channel's
pub off_channel : (wanted other : WaitingSet) (found : Option Process) → is_of_channel wanted ≡ false → waits_at wanted found ≡ true → waits_at other found ≡ true → is_of_channel other ≡ false
off_channel wanted other found off waits also = ap is_of_channel (one_set other wanted found also waits) ∙ off
