use Rattle.std.proofs.Common.{◌≡◌, ◌+◌, drop, nat_lt}
use Rattle.std.specs.List.{position_or_len}
use Rattle.module_config.proofs.number.place_among.Given as goal

abbrev pub invariant-loop-index : goal.invariant-loop-index
invariant-loop-index g l =
    l.index + position_or_len (λ item. nat_lt l.number (g.Item.Numbered.number_of item)) (drop l.index l.items)
    ≡ position_or_len (λ item. nat_lt l.number (g.Item.Numbered.number_of item)) l.items
