use Rattle.std.proofs.Common.{◌≡◌, map}
use Rattle.std.specs.Map.Iter.{deref_pair}
use Rattle.run_view.specs.Objects.{numbers_in}
use Rattle.run_view.proofs.seen_object.numbers_in.Given as goal

abbrev pub invariant-loop-number : goal.invariant-loop-number
invariant-loop-number g l = l.numbers.items ≡ numbers_in (map deref_pair l.yielded)
