-- The object of the number is found, and marked in place.
use Rattle.std.proofs.Common.{◌∙◌, None, sym, nat_eq}
use Rattle.std.proofs.lemmas.Int.{to_z-of_z}
use Rattle.partition_objects.proofs.Numbers.{given-found}
use Rattle.partition_objects.proofs.Tables.{NumbersFit-written, change-written, lookup-item_at}
use Rattle.partition_objects.proofs.table.ObjectTable.mark.Goals as goal
use Rattle.partition_objects.proofs.table.ObjectTable.mark.Goals.{in-Some, in_default}

pub invariant_of-self : goal.invariant_of-self
invariant_of-self g c =
    elim c.match-get_mut.branch [
      | in-Some w ↦ rw (w.self-inside-is, (c.get_mut.follows.holds w.mark.new.self).0)
          (NumbersFit-written (nat_eq c.key_of-key.result) w.mark.new.self c.self.inside.objects.entries c.self.invariant)
      | in_default w ↦ rw (w.self-inside-is, c.get_mut.follows.holds-at-none) c.self.invariant
    ]

pub returns : goal.returns
returns g c =
    let entries = c.self.inside.objects.entries in
    let change = g.Object.Marked.marked c.args.claimed in
    let fits = c.ranges.number in
    let natural = simp to_z-of_z at c.key_of-key.ensures.natural in
    let same = simp to_z-of_z at (rw (← c.self.view_is) at c.key_of-key.ensures.same) in
    elim c.match-get_mut.branch [
      | in-Some w ↦ rw (w.self-inside-is, ← c.self.view_is, ← natural)
          ((c.get_mut.follows.holds w.mark.new.self).0
          ∙ change-written c.key_of-key.result change w.in-Some.object.now w.mark.new.self entries c.get_mut.ensures.unique
          (sym (lookup-item_at c.key_of-key.result entries) ∙ sym w.in-Some.ensures.value) w.mark.ensures)
      | in_default w ↦
          absurd (c.requires.found (rw (← c.self.view_is) (given-found entries c.args.number c.key_of-key.result None same (rw w.in_default.is at c.get_mut.ensures.value))))
    ]
