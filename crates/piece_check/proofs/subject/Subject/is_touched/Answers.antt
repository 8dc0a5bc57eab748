use Rattle.piece_check.proofs.subject.Subject.is_touched.Goals as goal

pub returns-in-Partition : goal.returns-in-Partition
returns-in-Partition c = rw c.in-Partition.is (c.touches_partition.ensures c.args.config.now)
