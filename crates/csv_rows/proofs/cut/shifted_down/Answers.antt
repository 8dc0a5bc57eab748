use Rattle.std.proofs.Common.{◌%◌, ap, shr-shr}
use Rattle.csv_rows.proofs.cut.shifted_down.Goals as goal

pub returns : goal.returns
returns c k = ap (λ bits. bits % 2) (shr-shr c.args.marks c.args.by k)
