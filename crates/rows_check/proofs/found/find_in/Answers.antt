use Rattle.std.proofs.Common.{◌<◌, arith}
use Rattle.apex_types.specs.declared.limits.TheConstants.{MOST_RECORDS}
use Rattle.record_read.specs.Steps.{IsOutside}
use Rattle.rows_check.proofs.Progress.{found_by, none_beyond, one_more_read}
use Rattle.rows_check.proofs.found.find_in.Goals as goal

pub returns-in-Err : goal.returns-in-Err
returns-in-Err g c =
    found_by g.R.TextSource.can_fail (g.R.TextSource.remaining c.args.source) c.loop-records.records c.in-Err.fault c.loop-records.rows.left c.next.new.self.left c.found_before.result
    c.found_before.ensures.found c.found_before.ensures.starved c.loop-records.invariant.read (c.in-Err.ensures.gives c.loop-records.invariant.going)

pub loop-records-preserved : goal.loop-records-preserved
loop-records-preserved g c = record {
  going = c.in-Ok-Some.ensures.stops;
  read =
      let gives = rw c.in-Ok-Some.field-0-is at (c.in-Ok-Some.ensures.gives c.loop-records.invariant.going) in
      one_more_read (IsOutside g.R.TextSource.can_fail) (g.R.TextSource.remaining c.args.source) c.loop-records.records c.in-Ok-Some.field-0-0 c.loop-records.rows.left
      c.next.new.self.left c.loop-records.invariant.read gives;
}

pub returns : goal.returns
returns g c =
    let beyond : MOST_RECORDS < c.loop-records.records = let over = c.loop-records-test.false in omega arith in
    none_beyond g.R.TextSource.can_fail (g.R.TextSource.remaining c.args.source) c.loop-records.records c.loop-records.rows.left _ beyond c.loop-records.invariant.read
