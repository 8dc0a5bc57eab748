use Rattle.std.proofs.Common.{◌≡◌, ◌↔◌, ◌<◌, ◌-◌, bit_and, subst, sym}
use Rattle.std.proofs.lemmas.Nat.{one_shl}
use Rattle.std.specs.Int.{bit_at}
use Rattle.csv_rows.proofs.Masks.{marks_kept}
use Rattle.csv_rows.proofs.cut.marks_before.Goals as goal

pub returns : goal.returns
returns c k =
    let marks = c.args.marks in
    let end = c.args.end in
    subst (λ bit. (bit_at (bit_and marks (bit - 1)) k ≡ 1) ↔ ((k < end) × (bit_at marks k ≡ 1))) (sym (one_shl end 64 c.requires)) (marks_kept marks end k)
