use Rattle.std.proofs.Common.{arith, w64}
use Rattle.std.proofs.lemmas.Nat.Bits.{bit_at-trailing_zeros}
use Rattle.csv_rows.proofs.cut.lowest.Goals as goal

pub returns : goal.returns
returns c =
    let first = bit_at-trailing_zeros w64 c.args.marks (omega (arith, c.requires)) c.ranges.marks.fits in
    record { bound = first.0; set = first.1; below = first.2 }
