-- The object of one number more each time.
use Rattle.std.proofs.Common.{◌<◌, length, subst, arith}
use Rattle.std.proofs.lemmas.List.{get_or_read}
use Rattle.run_view.specs.declared.seen_object.SeenObject.{SeenObject}
use Rattle.run_view.specs.Things.{ShowsObject}
use Rattle.run_view.proofs.ShownObjects.{never_none, one_more_shown}
use Rattle.run_view.proofs.seen_object.shown_objects.Goals as goal
use Rattle.run_view.proofs.seen_object.shown_objects.Goals.{in-Some+in_ok-push, in_default}

pub loop-index-preserved : goal.loop-index-preserved
loop-index-preserved c =
    let numbers = c.in_ok-numbers.numbers.items in
    let number = c.index-number.result.now in
    let less : c.loop-index.index < length numbers = omega (arith, c.loop-index-test.true, c.len-index-end.ensures, c.in_ok-numbers.numbers.ok.0) in
    elim c.match-branch-3.branch [
      | in-Some+in_ok-push w ↦
          let object : SeenObject = record { number = number; view = w.in-Some.view } in
          let shows = subst (λ view. ShowsObject c.args.kind number c.args.state.now view) w.in-Some.is c.in_ok-view.ensures in
          rw w.shown-is (one_more_shown c.args.kind c.args.state.now numbers c.loop-index.index c.loop-index.shown.items _ object less
          (get_or_read numbers c.loop-index.index number less c.index-number.ensures 0) c.loop-index.invariant w.in_ok-push.ensures.items shows)
      | in_default w ↦
          let none = subst (λ view. ShowsObject c.args.kind number c.args.state.now view) w.in_default.is c.in_ok-view.ensures in
          absurd (never_none c.args.kind c.args.state.now numbers c.loop-index.index number number c.in_ok-numbers.ensures less c.index-number.ensures none)
    ]
