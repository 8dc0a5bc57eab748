-- The new object goes last.
use Rattle.std.proofs.Common.{◌∙◌}
use Rattle.indexmap.proofs.CallerLemmas.{insert_entry-new}
use Rattle.partition_objects.proofs.Numbers.{new-absent, new-fits}
use Rattle.partition_objects.proofs.Tables.{NumbersFit-push, lookup-item_at}
use Rattle.partition_objects.proofs.table.ObjectTable.insert.Goals as goal

pub invariant_of-self-2 : goal.invariant_of-self-2
invariant_of-self-2 g c =
    let new = rw (← c.self.view_is) at c.requires.new in
    rw (c.in_ok-insert.ensures.entries ∙ insert_entry-new _ c.self.inside.objects c.args.number _ (lookup-item_at c.args.number _ ∙ new-absent _ c.args.number new))
    (NumbersFit-push _ c.args.number _ c.self.invariant (new-fits _ c.args.number new))

pub returns-clause-added : goal.returns-clause-added
returns-clause-added g c =
    let new = rw (← c.self.view_is) at c.requires.new in
    rw (← c.self.view_is)
    (c.in_ok-insert.ensures.entries ∙ insert_entry-new _ c.self.inside.objects c.args.number _ (lookup-item_at c.args.number _ ∙ new-absent _ c.args.number new))
