use Rattle.std.proofs.Common.{subst, sym, w8, eqb, arith}
use Rattle.std.proofs.lemmas.Simd.{bitmask_splat, length-chunk}
use lib.Lanes.{chunk}
use Rattle.csv_rows.proofs.Masks.{AreMarksOf, marks_equal}
use Rattle.csv_rows.proofs.cut.marks_of.Goals as goal

pub returns : goal.returns
returns c =
    let text = c.args.text.now in
    let at = c.args.at in
    let byte = c.args.byte in
    let bytes = chunk at 32 text in
    subst (λ marks. AreMarksOf text at byte marks) (sym (bitmask_splat w8 eqb bytes 32 byte (length-chunk at 32 text c.requires) (omega arith)))
    (marks_equal text at byte c.requires)
