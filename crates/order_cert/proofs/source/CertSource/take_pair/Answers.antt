use Rattle.std.proofs.Common.{◌+◌, List, Option, Some, Ok, ap, arith, subst, sym}
use Rattle.std.specs.Prelude.{IfSome, option_map}
use Rattle.apex_types.specs.declared.record.Pair.{Pair}
use Rattle.csv_rows.specs.Source.{Gives, items_from}
use Rattle.order_cert.specs.Row.{IsOutside, Item, item_of}
use Rattle.order_cert.proofs.Pairs.{pair_given}
use Rattle.order_cert.proofs.source.CertSource.take_pair.Goals as goal

pub returns-clause-gives : goal.returns-clause-gives
returns-clause-gives g c =
    let inside = c.self.inside in
    let core = c.in_ok-core.core in
    let seq = c.in_ok-core.seq in
    let can_fail = g.R.TextSource.can_fail in
    let after = c.take_pair.new.self.left in
    let P : Option (List Item) → Type 0 =
    λ known. IfSome known (λ items. Gives (IsOutside can_fail) items (Ok (Some c.pair_read.result)) (option_map (items_from item_of (inside.count + 1)) after)) in
    let Q : Pair → Type 0 =
    λ pair. IfSome (option_map (items_from item_of inside.count) inside.rows.left) (λ items. Gives (IsOutside can_fail) items (Ok (Some pair)) (option_map (items_from item_of (inside.count + 1)) after)) in
    subst P (ap (λ source. source.left) c.self.view_is)
    (subst Q (sym c.pair_read.ensures.pair) (pair_given can_fail core seq inside.count (inside.count + 1) inside.rows.left after c.in_ok-core.ensures.takes c.pair_read.ensures.bound.0 c.pair_read.ensures.bound.1 (omega (arith, c.if-self-ge-PLACE_COUNT.false)) (omega arith)))
