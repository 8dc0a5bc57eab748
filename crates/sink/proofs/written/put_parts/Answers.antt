use Rattle.std.proofs.Common.{◌∙◌, ◌+◌, ◌<◌, drop, get_or, length, arith, [], rules}
use Rattle.std.proofs.lemmas.List.{drop_more}
use Rattle.sink.proofs.SoFar.{part_out, part_cut}
use Rattle.sink.proofs.written.put_parts.Goals as goal

pub loop-part-preserved : goal.loop-part-preserved
loop-part-preserved g c =
    let below : c.loop-part.part-index < length c.args.parts.now = omega arith in
    let here = drop_more c.args.parts.now c.loop-part.part-index (record { ref_ptr = (0, 0); now = [] }) below in
    record {
      out = part_out (g.W.Sink.bytes c.args.w.now) (g.W.Sink.bytes c.loop-part.w) (g.W.Sink.bytes c.put_all.new.w) c.args.parts.now (drop (c.loop-part.part-index + 1) c.args.parts.now)
          (get_or c.args.parts.now c.loop-part.part-index (record { ref_ptr = (0, 0); now = [] }))
          (rw here at c.loop-part.invariant.out) c.in_ok-put_all.ensures.whole;
      same = c.in_ok-put_all.ensures.same ∙ c.loop-part.invariant.same;
    }

pub returns-in_err-put_all-clause-cut : goal.returns-in_err-put_all-clause-cut
returns-in_err-put_all-clause-cut g c =
    let below : c.loop-part.part-index < length c.args.parts.now = omega arith in
    let here = drop_more c.args.parts.now c.loop-part.part-index (record { ref_ptr = (0, 0); now = [] }) below in
    let cut = part_cut (g.W.Sink.bytes c.args.w.now) (g.W.Sink.bytes c.loop-part.w) (g.W.Sink.bytes c.put_all.new.w) c.args.parts.now (drop (c.loop-part.part-index + 1) c.args.parts.now)
    (get_or c.args.parts.now c.loop-part.part-index (record { ref_ptr = (0, 0); now = [] }))
    (rw here at c.loop-part.invariant.out) c.in_err-put_all.ensures.cut in
    search rules
