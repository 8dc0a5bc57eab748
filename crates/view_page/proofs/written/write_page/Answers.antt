use Rattle.std.proofs.Common.{rules}
use Rattle.view_page.proofs.Sent.{ends_after, sends_then}
use Rattle.view_page.proofs.written.write_page.Goals as goal

pub returns-in_err-write_pictures : goal.returns-in_err-write_pictures
returns-in_err-write_pictures g c = ends_after _ _ _ _ c.in_ok-put.ensures.ends (search rules)

pub returns : goal.returns
returns g c = ends_after _ _ _ _ (sends_then c.in_ok-put.ensures.ends c.in_ok-write_pictures.ensures) c.write_table.ensures
