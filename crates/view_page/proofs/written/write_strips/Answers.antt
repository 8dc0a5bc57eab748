use Rattle.view_page.proofs.Sent.{ends_after}
use Rattle.view_page.proofs.written.write_strips.Goals as goal

pub returns : goal.returns
returns g c = ends_after _ _ _ _ c.in_ok-write_piece.ensures c.write_all.ensures
