use Rattle.std.proofs.Common.{◌∙◌, ap, nat_eq}
use Rattle.run_view.proofs.Showing.{holds_lock, holds_object}
use Rattle.run_view.proofs.thing.is_partition.Goals as goal

pub returns-in-Partition : goal.returns-in-Partition
returns-in-Partition c =
    let same = ap (λ one. nat_eq one c.number-in-Partition.result) c.number.ensures ∙ ap (λ one. nat_eq c.in-Partition.number one) c.number-in-Partition.ensures in record {
      objects = λ kind object. same ∙ holds_object c.args.piece.now.part c.in-Partition.number c.args.part kind object c.in-Partition.ensures;
      lock = same ∙ holds_lock c.args.piece.now.part c.in-Partition.number c.args.part c.in-Partition.ensures;
    }
