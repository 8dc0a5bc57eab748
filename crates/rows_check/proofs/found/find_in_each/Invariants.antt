use Rattle.std.proofs.Common.{◌≡◌, ◌++◌}
use Rattle.std.specs.List.{AllZip}
use Rattle.rows_check.proofs.Progress.{IsFoundKnown}
use Rattle.rows_check.proofs.found.find_in_each.Given as goal

abbrev pub invariant-loop-source : goal.invariant-loop-source
invariant-loop-source g l = record {
  given : l.yielded ++ l.source-iterator.rest.items ≡ l.fn.sources.items;
  found : AllZip (λ source one. IsFoundKnown g.R.TextSource.can_fail (g.R.TextSource.remaining source) one) l.yielded l.found.items;
}
