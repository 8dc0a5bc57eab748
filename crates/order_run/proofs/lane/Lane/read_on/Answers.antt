use Rattle.std.proofs.Common.{◌≡◌, ◌∙◌, List, ap}
use Rattle.apex_types.specs.declared.record.Ordered.{Ordered}
use Rattle.record_read.specs.Steps.{IsOutside}
use Rattle.order_run.specs.Left.{left_since}
use Rattle.order_run.proofs.Lefts.{read_ahead, read_known, read_none, was_going}
use Rattle.order_run.proofs.lane.Lane.read_on.Goals as goal
use Rattle.order_run.proofs.lane.Lane.read_on.Goals.{in-Ok, in-Err, in-Err+in-Call-1, in-Err+in-Ret-1, in-Err+in-Tick-1, in-Err+in-Disp-1, in-Err+in-Arrive-1, in-Err+in-Depart-1, in-Ok-1}

pub returns-in-None : goal.returns-in-None
returns-in-None g c =
    let inside = c.self.inside in
    let going = was_going inside.rows.stopped c.next.result c.in_ok-made.made c.next.ensures.ended c.in_ok-made.was in
    let gives = rw c.in-None.is at (c.in_ok-made.ensures.gives going) in
    read_none (IsOutside g.R.TextSource.can_fail) (g.R.TextSource.remaining inside.first.value) inside.ahead.items inside.rows.left c.next.new.self.left (c.self.invariant going) gives
    ∙ c.self.view_is

pub invariant_of-self-after-push_back : goal.invariant_of-self-after-push_back
invariant_of-self-after-push_back g c = λ still_going.
    let inside = c.self.inside in
    let going = was_going inside.rows.stopped c.next.result c.in_ok-made.made c.next.ensures.ended c.in_ok-made.was in
    read_known (IsOutside g.R.TextSource.can_fail) (g.R.TextSource.remaining inside.first.value) c.in_ok-made.made inside.rows.left c.next.new.self.left (c.self.invariant going)
    (c.in_ok-made.ensures.gives going)

pub returns-after-push_back : goal.returns-after-push_back
returns-after-push_back g c = elim c.match-push_back.branch [
  | in-Ok w ↦
      let inside = c.self.inside in
      let known = g.R.TextSource.remaining inside.first.value in
      let new = c.next.new.self.left in
      let going = was_going inside.rows.stopped c.next.result c.in_ok-made.made c.next.ensures.ended c.in_ok-made.was in
      let gives = rw c.in-Some.is at (c.in_ok-made.ensures.gives going) in
      let ahead : left_since known c.push_back.new.self.items new ≡ c.args.self.now =
      ap (λ (items : List Ordered). left_since known items new) w.in-Ok.ensures.items
      ∙ read_ahead (IsOutside g.R.TextSource.can_fail) known inside.ahead.items _ inside.rows.left new (c.self.invariant going) gives
      ∙ c.self.view_is in
      rw w.result-is (elim c.match-push_back-2.branch [
        | in-Err+in-Call-1 v ↦ v.self-is ∙ ahead
        | in-Err+in-Ret-1 v ↦ v.self-is ∙ ahead
        | in-Err+in-Tick-1 v ↦ v.self-is ∙ ahead
        | in-Err+in-Disp-1 v ↦ v.self-is ∙ ahead
        | in-Err+in-Arrive-1 v ↦ v.self-is ∙ ahead
        | in-Err+in-Depart-1 v ↦ v.self-is ∙ ahead
        | in-Ok-1 v ↦ v.self-is ∙ ahead
      ])
  | in-Err w ↦ rw w.result-is tt
]
