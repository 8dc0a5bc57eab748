use Rattle.partition_objects.proofs.Copies.{numbers_of_copies}
use Rattle.partition_objects.proofs.table.ObjectTableClone.clone.Goals as goal

pub invariant_of-result : goal.invariant_of-result
invariant_of-result g c = numbers_of_copies g.Object.Clone.is_clone _ _ c.in_ok-clone.ensures.cases c.self.invariant
