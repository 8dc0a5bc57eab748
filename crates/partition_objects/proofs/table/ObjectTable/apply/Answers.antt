-- The object of the number is found, and changed in place.
use Rattle.std.proofs.Common.{◌∙◌, None, Some, sym, ap, nat_eq}
use Rattle.std.proofs.lemmas.Int.{to_z-of_z}
use Rattle.std.proofs.lemmas.Result.{on_err_weaker, on_ok_weaker}
use Rattle.std.specs.Map.{set_value}
use Rattle.partition_objects.proofs.Numbers.{given-found}
use Rattle.partition_objects.proofs.Tables.{NumbersFit-written, change-written, kept-written, lookup-item_at}
use Rattle.partition_objects.proofs.table.ObjectTable.apply.Goals as goal

pub unreachable-requires : goal.unreachable-requires
unreachable-requires g c =
    let fits = c.ranges.number in
    let same = simp to_z-of_z at (rw (← c.self.view_is) at c.key_of-key.ensures.same) in
    c.requires.found (rw (← c.self.view_is) (given-found c.self.inside.objects.entries c.args.number c.key_of-key.result None same c.in-None.ensures.value))

pub apply-requires-clause-new : goal.apply-requires-clause-new
apply-requires-clause-new g c =
    let fits = c.ranges.number in
    let same = simp to_z-of_z at (rw (← c.self.view_is) at c.key_of-key.ensures.same) in
    rw (← c.self.view_is, given-found c.self.inside.objects.entries c.args.number c.key_of-key.result (Some c.in-Some.object.now) same c.in-Some.ensures.value) at c.requires.new

pub apply-requires-clause-needed : goal.apply-requires-clause-needed
apply-requires-clause-needed g c =
    let fits = c.ranges.number in
    let same = simp to_z-of_z at (rw (← c.self.view_is) at c.key_of-key.ensures.same) in
    rw (← c.self.view_is, given-found c.self.inside.objects.entries c.args.number c.key_of-key.result (Some c.in-Some.object.now) same c.in-Some.ensures.value) at c.requires.needed

pub invariant_of-self : goal.invariant_of-self
invariant_of-self g c =
    rw ((c.get_mut.follows.holds c.apply.new.self).0) (NumbersFit-written (nat_eq c.key_of-key.result) c.apply.new.self c.self.inside.objects.entries c.self.invariant)

pub returns-clause-ok : goal.returns-clause-ok
returns-clause-ok g c =
    let fits = c.ranges.number in
    let same = simp to_z-of_z at (rw (← c.self.view_is) at c.key_of-key.ensures.same) in
    rw (← c.self.view_is, given-found c.self.inside.objects.entries c.args.number c.key_of-key.result (Some c.in-Some.object.now) same c.in-Some.ensures.value) c.apply.ensures.ok

pub returns-clause-refused : goal.returns-clause-refused
returns-clause-refused g c =
    let fits = c.ranges.number in
    let same = simp to_z-of_z at (rw (← c.self.view_is) at c.key_of-key.ensures.same) in
    rw (← c.self.view_is, given-found c.self.inside.objects.entries c.args.number c.key_of-key.result (Some c.in-Some.object.now) same c.in-Some.ensures.value) c.apply.ensures.refused

pub returns-clause-after : goal.returns-clause-after
returns-clause-after g c =
    let found = sym (lookup-item_at c.key_of-key.result c.self.inside.objects.entries) ∙ sym c.in-Some.ensures.value in
    let change = g.Object.ApexObject.after c.args.actor c.args.operation.now c.args.claim.now in
    let fits = c.ranges.number in
    let natural = simp to_z-of_z at c.key_of-key.ensures.natural in
    rw (← c.self.view_is, ← natural)
    (on_ok_weaker c.apply.result
    (λ is. (c.get_mut.follows.holds c.apply.new.self).0
    ∙ change-written c.key_of-key.result change c.in-Some.object.now c.apply.new.self c.self.inside.objects.entries c.get_mut.ensures.unique found is)
    c.apply.ensures.after)

pub returns-clause-unchanged : goal.returns-clause-unchanged
returns-clause-unchanged g c =
    let found = sym (lookup-item_at c.key_of-key.result c.self.inside.objects.entries) ∙ sym c.in-Some.ensures.value in
    rw (← c.self.view_is)
    (on_err_weaker c.apply.result
    (λ is. (c.get_mut.follows.holds c.apply.new.self).0
    ∙ ap (set_value (nat_eq c.key_of-key.result) c.self.inside.objects.entries) is
    ∙ kept-written c.key_of-key.result c.in-Some.object.now c.self.inside.objects.entries found)
    c.apply.ensures.unchanged)

pub returns-clause-owners : goal.returns-clause-owners
returns-clause-owners g c =
    let fits = c.ranges.number in
    let same = simp to_z-of_z at (rw (← c.self.view_is) at c.key_of-key.ensures.same) in
    rw (← c.self.view_is, given-found c.self.inside.objects.entries c.args.number c.key_of-key.result (Some c.in-Some.object.now) same c.in-Some.ensures.value) c.apply.ensures.owners
