use Rattle.std.proofs.Common.{◌≡◌, List, length, false}
use Rattle.apex_types.specs.declared.record.Ordered.{Ordered}
use Rattle.order_cert.specs.Kept.{place_of}
use Rattle.placement.specs.Lanes.{AreHonest, Lead}
use Rattle.report.proofs.Going.{HoldBefore}
use Rattle.user_rules.specs.Rules.{required_of}
use Rattle.verdict_merge.specs.Rounds.{AreGoing}
use Rattle.shown_run.specs.Judged.{judging_of}
use Rattle.shown_run.specs.Stretches.{GoesOn}
use Rattle.shown_run.proofs.gathered.gather_all.Given as goal

abbrev pub invariant-rounds : goal.invariant-rounds
invariant-rounds g l = record {
  going : l.placer.ended ≡ false;
  config : l.run.config ≡ l.fn.run.config;
  memories : l.run.memories ≡ l.fn.run.memories;
  rules : l.run.rules ≡ l.fn.run.rules;
  lanes : length l.placer.lanes ≡ l.fn.run.config.now.cores;
  place : place_of l.placer.kept ≡ l.first;
  pieces : AreGoing l.fn.run.config.now l.first l.run.walk;
  asked : l.gathering.asked ≡ l.fn.gathering.asked;
  outcome : (before : List Ordered) × (AreHonest g.S.TextSource.can_fail l.placer.lanes → Lead (record { recordings = g.S.TextSource.can_fail; certificate = g.C.TextSource.can_fail }) l.fn.placer before l.placer) × HoldBefore l.fn.run.config.now (required_of l.fn.run.memories.now l.fn.run.rules.now) before (judging_of l.first l.run.walk l.run.kept) × GoesOn l.fn.run.config.now before l.gathering;
}
