use Rattle.std.proofs.Common.{◌≡◌}
use Rattle.csv_rows.specs.Text.{KeepsRows, rows_left, unread_of}
use Rattle.csv_rows.proofs.ahead.Ahead.take_next.Given as goal

abbrev pub invariant-loop : goal.invariant-loop
invariant-loop g l = KeepsRows (rows_left (unread_of g.R.TextSource.remaining l.fn.self)) (rows_left (unread_of g.R.TextSource.remaining l.self))
    × (l.self.is_begun ≡ l.fn.self.is_begun)
    × (g.R.TextSource.failed l.self.source ≡ g.R.TextSource.failed l.fn.self.source)
