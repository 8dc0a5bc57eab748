use Rattle.std.proofs.Common.{◌≡◌, map}
use Rattle.std.specs.Option.{option_map}
use Rattle.record_read.specs.Row.{records_of}
use Rattle.order_run.proofs.lanes.Lanes.open.Given as goal

-- the recordings so far
abbrev pub invariant-loop-source : goal.invariant-loop-source
invariant-loop-source g l = l.lanes.items ≡ map (λ source. option_map records_of (g.R.TextSource.remaining source)) l.yielded
