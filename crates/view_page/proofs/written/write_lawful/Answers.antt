use Rattle.view_page.proofs.Sent.{ends_after}
use Rattle.view_page.proofs.written.write_lawful.Goals as goal

pub returns : goal.returns
returns g c = ends_after _ _ _ _ c.in_ok-put.ensures.ends c.write_all.ensures
