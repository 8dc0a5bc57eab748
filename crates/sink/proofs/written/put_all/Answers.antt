use Rattle.std.proofs.Common.{◌≡◌, ◌∙◌, arith, length}
use Rattle.std.proofs.lemmas.Grind.{common_steps}
use Rattle.sink.proofs.SoFar.{out_more, not_raised}
use Rattle.sink.proofs.written.put_all.Goals as goal

pub loop-left-preserved : goal.loop-left-preserved
loop-left-preserved g c =
    let some : length c.loop-left.left.now ≡ 0 → ⊥ = grind (arith, common_steps) in
    record {
      out = out_more (g.W.Sink.bytes c.args.w.now) (g.W.Sink.bytes c.loop-left.w) (g.W.Sink.bytes c.put.new.self) c.args.text.now c.loop-left.left.now c.in-Ok.count c.loop-left.invariant.out c.in-Ok.ensures.taken;
      same = not_raised c.loop-left.left.now c.in-Ok.count (g.W.Sink.failures c.loop-left.w) (g.W.Sink.failures c.put.new.self) some c.in-Ok.count-test.1 c.in-Ok.ensures.counted ∙ c.loop-left.invariant.same;
    }
