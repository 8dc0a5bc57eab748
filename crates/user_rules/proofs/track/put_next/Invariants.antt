use Rattle.std.proofs.Common.{◌≡◌, ◌++◌, drop, take}
use Rattle.user_rules.specs.Meets.{with_values}
use Rattle.user_rules.specs.Memories.{mark_after, mark_at, put}
use Rattle.user_rules.proofs.track.put_next.Given as goal

-- the cells before are of other holders, and nothing is changed yet
abbrev pub invariant-cells : goal.invariant-cells
invariant-cells l =
    let cells = l.cells.items in
    let next = mark_after l.keeps (mark_at cells l.holder) (with_values l.view l.values) in
    (cells ≡ l.fn.cells.items) × (mark_at (drop l.index cells) l.holder ≡ mark_at cells l.holder)
    × (take l.index cells ++ put (drop l.index cells) l.holder next ≡ put cells l.holder next)
