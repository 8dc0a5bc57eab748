use Rattle.std.proofs.Common.{◌≡◌, refl, ap, sym, ◌∙◌, List, Some, None}
use Rattle.std.specs.Map.{values_of}
use Rattle.std.specs.Option.{is_some}
use Rattle.apex_machine.specs.declared.state.Entry.{Entry}
use Rattle.wait_set.specs.Kept.{place_of}
use Rattle.wait_set.specs.Sets.{entry_of}
use Rattle.wait_set.proofs.Entries.{found-is_member}
use Rattle.wait_set.proofs.Keeping.{Left, asked-entry, asked-place, left-kept}
use Rattle.wait_set.proofs.Leaving.{entry_of-absent, found-entry, without-absent}
use Rattle.wait_set.proofs.set.WaitSet.take.Goals as goal

-- the process has no place if none was found
absent_at : (c : goal.After-from_residual) → place_of c.args.who (values_of c.self.inside.entries.entries) ≡ None
absent_at c = sym (asked-place _ _ _ _ c.args.who _ c.self.invariant c.remove.ensures.value) ∙ c.in_err-place.was

pub returns-in_err-place-clause-taken : goal.returns-in_err-place-clause-taken
returns-in_err-place-clause-taken c = rw (← c.self.view_is) (c.from_residual.ensures ∙ sym (entry_of-absent c.args.who _ (absent_at c)))

pub returns-in_err-place-clause-left : goal.returns-in_err-place-clause-left
returns-in_err-place-clause-left c =
    let entries : List Entry = values_of c.self.inside.entries.entries in
    let same = without-absent c.args.who entries (sym (found-is_member c.args.who entries) ∙ ap is_some (absent_at c)) in
    rw (← c.self.view_is, same) refl

pub unreachable-requires : goal.unreachable-requires
unreachable-requires c =
    let entries : List Entry = values_of c.self.inside.entries.entries in
    let at : place_of c.args.who entries ≡ Some c.in_ok-place.place =
    sym (asked-place _ _ _ _ c.args.who _ c.self.invariant c.remove.ensures.value) ∙ c.in_ok-place.was in
    let has = found-entry c.args.who entries c.in_ok-place.place at in
    let found = asked-entry _ _ _ _ c.args.who c.in_ok-place.place _ c.self.invariant at c.remove-2.ensures.value in
    c.in_default.not-Some has.0 (found ∙ has.1)

-- the place that was found
at : (c : goal.After-remove-3) → place_of c.args.who (values_of c.self.inside.entries.entries) ≡ Some c.in_ok-place.place
at c = sym (asked-place _ _ _ _ c.args.who _ c.self.invariant c.remove.ensures.value) ∙ c.in_ok-place.was

-- the entry that was found
entry_at : (c : goal.After-remove-3) → Some c.in-Some.entry ≡ entry_of c.args.who (values_of c.self.inside.entries.entries)
entry_at c = asked-entry _ _ _ _ c.args.who c.in_ok-place.place _ c.self.invariant (at c) c.in-Some.ensures.value

left_after : (c : goal.After-remove-3) → Left c.self.inside.discipline c.args.who c.self.inside.entries.entries c.remove-2.new.self.entries
    c.remove.new.self.entries c.remove-3.new.self.keys
left_after c =
    left-kept c.self.inside.discipline c.args.who c.in_ok-place.place c.in-Some.entry c.self.inside.entries.entries c.remove-2.new.self.entries
    c.self.inside.places c.remove.new.self c.self.inside.ranks c.remove-3.new.self c.self.invariant (at c) (sym (entry_at c)) c.remove-2.ensures.entries
    c.remove.ensures.updates (rw c.new-rank.ensures at c.remove-3.ensures.updates)

pub invariant_of-self-2 : goal.invariant_of-self-2
invariant_of-self-2 c = (left_after c).kept

pub returns-clause-taken : goal.returns-clause-taken
returns-clause-taken c = rw (← c.self.view_is) (entry_at c)

pub returns-clause-left : goal.returns-clause-left
returns-clause-left c = rw ((left_after c).values, ← c.self.view_is) refl
