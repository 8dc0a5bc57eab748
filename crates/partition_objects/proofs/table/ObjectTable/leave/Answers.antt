-- The object of the number is changed in place, if there is one.
use Rattle.std.proofs.Common.{◌∙◌, sym, nat_eq}
use Rattle.partition_objects.proofs.Tables.{NumbersFit-written, change-absent, change-written, lookup-item_at}
use Rattle.partition_objects.proofs.table.ObjectTable.leave.Goals as goal
use Rattle.partition_objects.proofs.table.ObjectTable.leave.Goals.{in-Some, in_default}

pub invariant_of-self : goal.invariant_of-self
invariant_of-self g c =
    elim c.match-get_mut.branch [
      | in-Some w ↦ rw (w.self-inside-is, (c.get_mut.follows.holds w.leave.new.self).0)
          (NumbersFit-written (nat_eq c.args.number) w.leave.new.self c.self.inside.objects.entries c.self.invariant)
      | in_default w ↦ rw (w.self-inside-is, c.get_mut.follows.holds-at-none) c.self.invariant
    ]

pub returns : goal.returns
returns g c =
    let entries = c.self.inside.objects.entries in
    let change = g.Object.ApexObject.without_one c.args.who in
    elim c.match-get_mut.branch [
      | in-Some w ↦ rw (w.self-inside-is, ← c.self.view_is)
          ((c.get_mut.follows.holds w.leave.new.self).0
          ∙ change-written c.args.number change w.in-Some.object.now w.leave.new.self entries c.get_mut.ensures.unique
          (sym (lookup-item_at c.args.number entries) ∙ sym w.in-Some.ensures.value) w.leave.ensures.left)
      | in_default w ↦ rw (w.self-inside-is, ← c.self.view_is, c.get_mut.follows.holds-at-none)
          (sym (change-absent c.args.number change entries (sym (lookup-item_at c.args.number entries) ∙ sym (rw w.in_default.is at c.get_mut.ensures.value))))
    ]
