use Rattle.std.proofs.Common.{◌+◌, drop, sym, ap, ◌∙◌}
use Rattle.wait_set.specs.Sets.{without_named}
use Rattle.wait_set.proofs.Leaving.{without-at, without-end}
use Rattle.wait_set.proofs.set.WaitSet.release.Goals as goal

pub loop-who-preserved : goal.loop-who-preserved
loop-who-preserved c = record {
  discipline = ap (λ set. set.discipline) c.leave.ensures.left ∙ c.loop-who.invariant.discipline;
  entries = ap (λ set. without_named (drop (c.loop-who.who-index + 1) c.args.named.now) set.entries) c.leave.ensures.left
      ∙ sym (without-at c.who-item.result c.loop-who.who-index c.args.named.now c.loop-who.self.entries c.loop-who-test.true c.who-item.is)
      ∙ c.loop-who.invariant.entries;
}

pub returns : goal.returns
returns c =
    let end = without-end c.loop-who.who-index c.args.named.now c.loop-who.self.entries c.loop-who-test.false in
    let entries = sym end ∙ c.loop-who.invariant.entries in
    λ i. record { discipline = c.loop-who.invariant.discipline i; entries = entries i }
