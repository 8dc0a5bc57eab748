use Rattle.std.proofs.Common.{◌∙◌, ap}
use Rattle.apex_types.specs.declared.record.Ordered.{Ordered}
use Rattle.order_run.proofs.Lefts.{placed_again}
use Rattle.order_run.proofs.lane.Lane.set_place.Goals as goal
use Rattle.order_run.proofs.lane.Lane.set_place.Goals.{in-Some, in_default}

pub returns : goal.returns
returns g c = elim c.match-get_mut.branch [
  | in-Some w ↦
      let inside = c.self.inside in
      let old : Ordered = w.in-Some.ordered.now in
      let new : Ordered = record { pos = c.args.pos; core = old.core; rec = old.rec } in
      rw w.self-inside-is
      (placed_again (g.R.TextSource.remaining inside.first.value) inside.ahead.items c.args.index new inside.rows.left
      (ap (λ (ordered : Ordered). ordered.rec) (w.in-Some.ensures.item.3.1 new)) ∙ c.self.view_is)
  | in_default w ↦ rw w.self-inside-is c.self.view_is
]
