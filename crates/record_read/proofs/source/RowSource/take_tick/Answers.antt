use Rattle.std.proofs.Common.{◌+◌, List, Option, Some, Ok, ap, arith, subst}
use Rattle.std.specs.Prelude.{IfSome, option_map}
use Rattle.csv_rows.specs.Source.{Gives}
use Rattle.record_read.specs.Quiet.{quiet_tick}
use Rattle.record_read.specs.Row.{Item, records_left}
use Rattle.record_read.specs.Steps.{IsOutside}
use Rattle.record_read.proofs.QuietTicks.{tick_given}
use Rattle.record_read.proofs.source.RowSource.take_tick.Goals as goal

pub returns-clause-gives : goal.returns-clause-gives
returns-clause-gives g c =
    let inside = c.self.inside in
    let can_fail = g.R.TextSource.can_fail in
    let after = c.take_numbered.new.self.left in
    let P : Option (List Item) → Type 0 =
    λ known. IfSome known (λ items. Gives (IsOutside can_fail) items (Ok (Some (quiet_tick inside.count))) (option_map (records_left inside.format (inside.count + 1)) after)) in
    subst P (ap (λ source. source.left) c.self.view_is)
    (tick_given can_fail inside.format c.in_ok-format.format inside.count (inside.count + 1) c.quiet_line.result.now inside.rows.left after c.in_ok-format.was c.quiet_line.ensures.line
    (c.take_numbered.ensures.takes c.if-not-take_numbered.false) (omega (arith, c.if-number-ge-MOST_RECORDS.false)) (omega arith))
