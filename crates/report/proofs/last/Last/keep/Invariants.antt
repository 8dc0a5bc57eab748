use Rattle.std.proofs.Common.{◌≡◌, ◌++◌, map, take}
use Rattle.circular_buffer.specs.Buffer.{buffer, keep_last}
use Rattle.report.specs.Last.{item_of, most_last}
use Rattle.report.proofs.last.Last.keep.Given as goal

abbrev pub invariant-late : goal.invariant-late
invariant-late l = l.self-inside.items ≡ buffer (keep_last most_last (l.fn.self ++ map item_of (take l.ordered-index l.late))) most_last
