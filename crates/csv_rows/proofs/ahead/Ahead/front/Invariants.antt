use Rattle.std.proofs.Common.{◌≡◌}
use Rattle.std.specs.Io.KnownBytes.{Keeps}
use Rattle.csv_rows.specs.Text.{unread_of}
use Rattle.csv_rows.proofs.ahead.Ahead.front.Given as goal

abbrev pub invariant-loop : goal.invariant-loop
invariant-loop g l = Keeps (unread_of g.R.TextSource.remaining l.fn.self) (unread_of g.R.TextSource.remaining l.self)
    × (l.self.is_begun ≡ l.fn.self.is_begun)
    × (g.R.TextSource.failed l.self.source ≡ g.R.TextSource.failed l.fn.self.source)
