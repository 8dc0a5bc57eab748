use Rattle.std.proofs.Common.{◌≡◌, drop}
use Rattle.record_read.specs.Named.{service_among}
use Rattle.record_read.proofs.named.service_from.Given as goal

abbrev pub invariant-loop-row : goal.invariant-loop-row
invariant-loop-row l =
    service_among (λ name. name.now) l.row-items l.text ≡ service_among (λ name. name.now) (drop l.row-index l.row-items) l.text
