-- The number that a caller gives for an object fits 32 bits, and is not below 0.
use Rattle.std.proofs.Common.{arith}
use Rattle.std.proofs.lemmas.Int.{ints}
use Rattle.partition_objects.proofs.Numbers.{given_fits, given_natural}
use Rattle.partition_objects.proofs.table.ObjectTable.key_of.Goals as goal

pub overflow_cast-result : goal.overflow_cast-result
overflow_cast-result g c =
    let in_range = c.ranges.number in
    let found = rw (← c.self.view_is) at c.requires.found in
    let natural = given_natural c.self.inside.objects.entries c.args.number found in
    let fits = given_fits c.self.inside.objects.entries c.args.number c.self.invariant found in
    omega (arith, ints, natural, fits)
