use Rattle.std.proofs.Common.{◌∙◌, subst}
use Rattle.std.proofs.lemmas.List.{take_all}
use Rattle.std.specs.List.{All}
use Rattle.user_rules.specs.FirstBroken.{MeetsAll}
use Rattle.user_rules.specs.Remembered.{valued_after}
use Rattle.user_rules.specs.Rules.{relations_of}
use Rattle.user_rules.proofs.Searching.{broken_here, kept_here, met_here}
use Rattle.user_rules.proofs.remembering.first_broken_remembered.Goals as goal

pub returns-in-Some-clause-broken : goal.returns-in-Some-clause-broken
returns-in-Some-clause-broken g c =
    broken_here c.args.memories.now c.args.recollection.now (relations_of c.args.rules.now) c.args.views.now c.loop-number.number _
    c.loop-number.recollection c.deref.result.now c.loop-number-test.true c.loop-number.invariant.0 c.loop-number.invariant.1
    (c.deref.ensures.value ∙ c.in_ok-read.ensures) c.in-Some.rule c.in-Some.ensures

pub loop-number-preserved : goal.loop-number-preserved
loop-number-preserved g c = (
  met_here c.args.memories.now c.args.recollection.now (relations_of c.args.rules.now) c.args.views.now c.loop-number.number _
      c.loop-number.recollection c.deref.result.now c.loop-number-test.true c.loop-number.invariant.0 c.loop-number.invariant.1
      (c.deref.ensures.value ∙ c.in_ok-read.ensures) c.in_default.ensures,
  kept_here c.args.memories.now c.args.recollection.now (relations_of c.args.rules.now) c.args.views.now c.loop-number.number _
      c.loop-number.recollection c.deref-in-loop-number.result.now c.loop-number-test.true c.loop-number.invariant.0 c.loop-number.invariant.1
      (c.deref-in-loop-number.ensures.value ∙ c.in_ok-read.ensures) _ c.in_ok-take_in.ensures,
)

pub returns-clause-broken : goal.returns-clause-broken
returns-clause-broken g c =
    subst (λ views. All (MeetsAll (relations_of c.args.rules.now)) (valued_after c.args.memories.now c.args.recollection.now views))
    (take_all c.loop-number.number c.args.views.now c.loop-number-test.false) c.loop-number.invariant.0
