use Rattle.std.proofs.Common.{◌≡◌, ◌++◌, ℕ, List, length}
use Rattle.piece_check.specs.Parts.{piece_at}
use Rattle.piece_check.specs.Touching.{reached, touching}
use Rattle.verdict_merge.specs.Keeping.{AreRising, HasRoom, seen_in}
use Rattle.verdict_merge.proofs.Coming.{HasCome}
use Rattle.verdict_merge.proofs.by_threads.go_over_untested.Given as goal

-- the kept views are those that the piece has seen so far
abbrev pub invariant-loop-index : goal.invariant-loop-index
invariant-loop-index l =
    (outcome : List ℕ)
    × (touching l.seat.lent.config.now (piece_at l.seat.lent.config.now l.seat.number) 0 l.seat.lent.records.now ≡ outcome ++ l.index-iterator)
    × HasCome l.seat.lent.config.now l.seat.number l.fn.piece l.seat.lent.records.now l.piece (seen_in l.kept.indices.items l.kept.views.items)
    (reached l.seat.lent.config.now (piece_at l.seat.lent.config.now l.seat.number) l.seat.lent.records.now (length outcome))
    × AreRising (seen_in l.kept.indices.items l.kept.views.items)
    × HasRoom (length l.seat.lent.records.now) l.kept
