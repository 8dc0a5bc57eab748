use Rattle.std.proofs.Common.{◌++◌, ℕ, List, Option, Result, Ok, Err, OnErr, rules}
use Rattle.report.specs.Last.{last_lines}
use Rattle.report.specs.Text.{report_of}
use Rattle.sink.specs.Written.{IsCut, IsWritten}
use Rattle.sink.specs.declared.written.WriteFault.{WriteFault}
use Rattle.check_result.specs.Endings.{lines_after}
use Rattle.report.proofs.Onward.{first_cut, second_cut}
use Rattle.check_result.proofs.ending.write_outcome.Goals as goal

pub returns-in_err-write_report-clause-cut : goal.returns-in_err-write_report-clause-cut
returns-in_err-write_report-clause-cut g c =
    let cut = first_cut (g.W.Sink.bytes c.args.w.now) (g.W.Sink.bytes c.write_report.new.w) (report_of c.args.outcome.now) (lines_after c.args.last.now)
    c.in_err-write_report.ensures.cut in
    search rules

-- if the lines after it are cut
after_cut : {A : Type 0} (answer : Result A WriteFault) (before now after : Option (List ℕ)) (first second : List ℕ) → IsWritten before first now → OnErr answer (IsCut now second after)
    → OnErr answer (IsCut before (first ++ second) after)
after_cut (Ok value) before now after first second out cut = cut
after_cut (Err fault) before now after first second out cut = second_cut before now after first second out cut

pub returns-in-Some-clause-cut : goal.returns-in-Some-clause-cut
returns-in-Some-clause-cut g c =
    rw c.in-Some.is (after_cut c.write_last.result (g.W.Sink.bytes c.args.w.now) (g.W.Sink.bytes c.write_report.new.w) (g.W.Sink.bytes c.write_last.new.w) (report_of c.args.outcome.now)
    (last_lines c.in-Some.last) c.in_ok-write_report.ensures.whole c.write_last.ensures.cut)
