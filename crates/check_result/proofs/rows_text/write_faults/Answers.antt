-- The line of each fault follows those before it.
use Rattle.std.proofs.Common.{◌∙◌, arith, rules}
use Rattle.std.proofs.lemmas.Option.{slice_get-get_or}
use Rattle.check_result.proofs.FaultLines.{line_cut, line_out}
use Rattle.check_result.proofs.rows_text.write_faults.Goals as goal

pub returns-in_err-write_fault-clause-cut : goal.returns-in_err-write_fault-clause-cut
returns-in_err-write_fault-clause-cut g c =
    let found = c.args.found.now in
    let core = c.loop-core.core in
    let cut = line_cut (g.W.Sink.bytes c.args.w.now) (g.W.Sink.bytes c.loop-core.w) (g.W.Sink.bytes c.write_fault.new.w) found core _ (slice_get-get_or found core _ (omega arith))
    c.loop-core.invariant.out c.in_err-write_fault.ensures.cut in
    search rules

pub loop-core-preserved : goal.loop-core-preserved
loop-core-preserved g c =
    let found = c.args.found.now in
    let core = c.loop-core.core in
    record {
      out = line_out (g.W.Sink.bytes c.args.w.now) (g.W.Sink.bytes c.loop-core.w) (g.W.Sink.bytes c.write_fault.new.w) found core _ (slice_get-get_or found core _ (omega arith))
          c.loop-core.invariant.out c.in_ok-write_fault.ensures.whole;
      same = c.in_ok-write_fault.ensures.same ∙ c.loop-core.invariant.same;
    }
