use Rattle.std.proofs.Common.{◌∙◌}
use Rattle.partition_objects.proofs.Tables.{lookup-item_at}
use Rattle.partition_objects.proofs.table.ObjectTable.at.Goals as goal

pub returns : goal.returns
returns g c = rw (← c.self.view_is) (c.get.ensures.value ∙ lookup-item_at c.args.number c.self.inside.objects.entries)
