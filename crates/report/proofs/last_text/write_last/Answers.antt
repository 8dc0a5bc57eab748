use Rattle.std.proofs.Common.{◌≡◌, ◌<◌, ◌∙◌, Some, ap, sym, subst, rules}
use Rattle.std.specs.Option.{option_copied}
use Rattle.std.specs.Prelude.{slice_get}
use Rattle.report.proofs.LastLines.{line_cut, line_out, some_item}
use Rattle.report.proofs.last_text.write_last.Goals as goal
use Rattle.report.proofs.last_text.write_last.Goals.{in-Some+in_ok-write_item, in_default}

pub returns-in_err-write_item-clause-cut : goal.returns-in_err-write_item-clause-cut
returns-in_err-write_item-clause-cut g c =
    let found : slice_get c.args.last.now c.items.index ≡ Some c.in-Some.item.now = sym c.get.ensures ∙ ap option_copied c.in-Some.is in
    let cut = line_cut (g.W.Sink.bytes c.args.w.now) (g.W.Sink.bytes c.items.w) (g.W.Sink.bytes c.write_item.new.w) c.args.last.now c.items.index c.in-Some.item.now found c.items.invariant.out
    c.in_err-write_item.ensures.cut in
    search rules

pub items-preserved : goal.items-preserved
items-preserved g c =
    elim c.match-get.branch [
      | in-Some+in_ok-write_item w ↦
          let found : slice_get c.args.last.now c.items.index ≡ Some w.in-Some.item.now = sym c.get.ensures ∙ ap option_copied w.in-Some.is in
          rw w.w-is (record {
            out = line_out (g.W.Sink.bytes c.args.w.now) (g.W.Sink.bytes c.items.w) (g.W.Sink.bytes w.write_item.new.w) c.args.last.now c.items.index w.in-Some.item.now found c.items.invariant.out
                w.in_ok-write_item.ensures.whole;
            same = w.in_ok-write_item.ensures.same ∙ c.items.invariant.same;
          })
      | in_default w ↦
          absurd (some_item c.args.last.now c.items.index (subst (λ n. c.items.index < n) c.len-index-end.ensures.count c.items-test.true) (sym c.get.ensures ∙ ap option_copied w.in_default.is))
    ]
