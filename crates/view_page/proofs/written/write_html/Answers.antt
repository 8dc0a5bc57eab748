use Rattle.std.proofs.Common.{rules}
use Rattle.sink.specs.Written.{IsWritten}
use Rattle.view_page.specs.Sent.{page_begins, page_ends}
use Rattle.view_page.proofs.Sent.{between, ends_after, on_ok, sends_then}
use Rattle.view_page.proofs.written.write_html.Goals as goal

pub returns-in_err-write_page-clause-ends : goal.returns-in_err-write_page-clause-ends
returns-in_err-write_page-clause-ends g c = ends_after _ _ _ _ c.in_ok-put_with.ensures.ends (search rules)

pub returns-clause-ends : goal.returns-clause-ends
returns-clause-ends g c = ends_after _ _ _ _ (sends_then c.in_ok-put_with.ensures.ends c.in_ok-write_page.ensures) c.put_with-2.ensures.ends

pub returns-clause-whole : goal.returns-clause-whole
returns-clause-whole g c =
    let begun : IsWritten (g.W.Sink.bytes c.args.output.now) page_begins (g.W.Sink.bytes c.put_with.new.output) = rw c.new-out.ensures at c.in_ok-put_with.ensures.sent in
    on_ok c.put_with-2.result c.put_with-2.ensures.sent (λ sent. between _ _ page_begins _ page_ends begun c.in_ok-write_page.ensures sent)
