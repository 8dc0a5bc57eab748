use Rattle.csv_rows.proofs.Seen.{seen_ends, seen_fields}
use Rattle.csv_rows.proofs.cut.cut_front.Goals as goal

pub returns-clause-ends : goal.returns-clause-ends
returns-clause-ends c = seen_ends c.args.text.now _ _ c.in_ok-stop.stop c.in_ok-stop.ensures.seen c.in_ok-push.ensures.items

pub returns-clause-fields : goal.returns-clause-fields
returns-clause-fields c = seen_fields c.args.text.now _ _ c.in_ok-stop.stop c.in_ok-stop.ensures.seen c.in_ok-push.ensures.items
