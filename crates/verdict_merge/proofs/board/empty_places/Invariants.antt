use Rattle.std.proofs.Common.{◌≡◌, All, None, length}
use Rattle.std.specs.Vec.{vec_capacity}
use Rattle.verdict_merge.proofs.board.empty_places.Given as goal

abbrev pub invariant-places : goal.invariant-places
invariant-places l = (length l.places.items ≡ l._place) × (vec_capacity l.places ≡ l.count) × All (λ place. place ≡ None) l.places.items
