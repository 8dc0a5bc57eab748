use Rattle.std.proofs.Common.{◌≡◌, ◌+◌, ◌++◌, List, false, length, map}
use Rattle.apex_types.specs.declared.record.Ordered.{Ordered}
use Rattle.order_cert.specs.Kept.{place_of}
use Rattle.placement.specs.declared.placer.Filled.TheVariants.{Full}
use Rattle.placement.specs.Lanes.{AreHonest, IsFilled}
use Rattle.circular_buffer.specs.Buffer.{keep_last}
use Rattle.user_rules.specs.Rules.{required_of}
use Rattle.report.specs.Last.{item_of, most_last}
use Rattle.report.specs.Rounds.{MayJudge}
use Rattle.report.proofs.Going.{HoldBefore}
use Rattle.report.proofs.rounds.judge_all.Given as goal

abbrev pub invariant-rounds : goal.invariant-rounds
invariant-rounds g l = record {
  may : MayJudge l.terms.config.now l.judge l.round.items;
  outcome : (before : List Ordered) × (AreHonest g.R.TextSource.can_fail l.placer.lanes → IsFilled (record { recordings = g.R.TextSource.can_fail; certificate = g.C.TextSource.can_fail }) l.fn.placer (before ++ l.round.items) l.filled l.placer) × HoldBefore l.terms.config.now (required_of l.terms.memories.now l.terms.rules.now) before l.judge × (l.last ≡ keep_last most_last (map item_of before));
  going : l.filled ≡ Full → l.placer.ended ≡ false;
  place : l.filled ≡ Full → place_of l.placer.kept ≡ l.judge.count + length l.round.items;
  lanes : length l.placer.lanes ≡ l.terms.config.now.cores;
}
