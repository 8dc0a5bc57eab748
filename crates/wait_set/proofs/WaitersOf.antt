-- Processes by their partition and number, and lists of them.
use Rattle.std.proofs.Common.{◌≡◌, List, [], ◌∷◌, true, false, ◌||◌, nat_eq, refl, sym, ap, ◌∙◌, inl, inr, true≢false}
use Rattle.std.proofs.lemmas.Bool.{and_from, and_parts, cases_Bool, eqb-true, eq-eqb}
use Rattle.std.specs.List.{list_any}
use Rattle.apex_types.specs.declared.record.Who.{Who}
use Rattle.apex_machine.specs.declared.state.Entry.{Entry}
use Rattle.apex_machine.specs.Answer.{waiters_of}
use Rattle.apex_machine.specs.Demands.{has_entry_in}
use Rattle.apex_machine.specs.State.{is_named, is_same}
use Rattle.wait_set.proofs.Orders.{number_swap}

-- one partition and one number name one process
pub same_is : (one other : Who) → is_same one other ≡ true → one ≡ other
same_is one other same =
    let parts = and_parts (nat_eq one.part other.part) (nat_eq one.proc other.proc) same in
    let part : one.part ≡ other.part = eqb-true one.part other.part parts.0 in
    let proc : one.proc ≡ other.proc = eqb-true one.proc other.proc parts.1 in
    λ i. record { part = part i; proc = proc i }

-- a process is itself
pub same_itself : (who : Who) → is_same who who ≡ true
same_itself who = and_from _ _ (eq-eqb who.part who.part refl) (eq-eqb who.proc who.proc refl)

-- sameness goes both ways
pub same_swap : (one other : Who) → is_same one other ≡ is_same other one
same_swap one other = rw (number_swap one.part other.part, number_swap one.proc other.proc) refl

-- a process that is different from this one, and the same as a third, is not this one if the third is not
pub same_apart : (who one other : Who) → is_same one other ≡ false → is_same who other ≡ true → is_same who one ≡ false
same_apart who one other differs same =
    elim (cases_Bool (is_same who one)) [
      | inl is ↦ absurd (true≢false (sym same ∙ ap (λ w. is_same w other) (same_is who one is) ∙ differs))
      | inr apart ↦ apart
    ]

-- a process with an entry in a set is named by the list of those that wait
pub is_member-named : (who : Who) (entries : List Entry) → is_named who (waiters_of entries) ≡ has_entry_in who entries
is_member-named who [] = refl
is_member-named who (entry ∷ entries) = ap (λ rest. is_same who entry.who || rest) (is_member-named who entries)

-- whether a list names a process, as a search
pub is_named-any : (who : Who) (named : List Who) → is_named who named ≡ list_any (is_same who) named
is_named-any who [] = refl
is_named-any who (other ∷ others) = ap (λ rest. is_same who other || rest) (is_named-any who others)
