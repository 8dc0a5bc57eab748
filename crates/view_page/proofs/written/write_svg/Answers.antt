use Rattle.std.proofs.Common.{rules}
use Rattle.sink.specs.Written.{IsWritten}
use Rattle.view_page.specs.Sent.{svg_begins, svg_ends}
use Rattle.view_page.proofs.Sent.{between, ends_after, on_ok, sends_then}
use Rattle.view_page.proofs.written.write_svg.Goals as goal

pub returns-in_err-write_alone-clause-ends : goal.returns-in_err-write_alone-clause-ends
returns-in_err-write_alone-clause-ends g c = ends_after _ _ _ _ c.in_ok-put_with.ensures.ends (search rules)

pub returns-clause-ends : goal.returns-clause-ends
returns-clause-ends g c = ends_after _ _ _ _ (sends_then c.in_ok-put_with.ensures.ends c.in_ok-write_alone.ensures) c.put_with-2.ensures.ends

pub returns-clause-whole : goal.returns-clause-whole
returns-clause-whole g c =
    let begun : IsWritten (g.W.Sink.bytes c.args.output.now) svg_begins (g.W.Sink.bytes c.put_with.new.output) = rw c.new-out.ensures at c.in_ok-put_with.ensures.sent in
    on_ok c.put_with-2.result c.put_with-2.ensures.sent (λ sent. between _ _ svg_begins _ svg_ends begun c.in_ok-write_alone.ensures sent)
