use Rattle.std.proofs.Common.{◌++◌, ◌∙◌, Option, length, subst, sym}
use Rattle.apex_machine.specs.Runs.{ArePlaced}
use Rattle.user_rules.specs.Rules.{required_of}
use Rattle.order_run.specs.declared.proposal.BrokenRule.{BrokenRule}
use Rattle.order_run.specs.UnderWay.{HaveTested}
use Rattle.order_run.proofs.Onward.{none_refused, none_refused_tested, one_refused, round_judged, round_placed, round_tested_on, still_tested}
use Rattle.order_run.proofs.run.Run.judge.Goals as goal

pub returns-then-is_some-clause-judged : goal.returns-then-is_some-clause-judged
returns-then-is_some-clause-judged g c = λ settled waiting before put.
    one_refused c.args.config.now before c.args.self.now.round.items c.args.self.now.refused c.args.self.now.base (sym c.is_some.ensures ∙ c.if-is_some.true) put.judged

pub returns-then-is_some-clause-tested : goal.returns-then-is_some-clause-tested
returns-then-is_some-clause-tested g c = λ settled waiting before put.
    still_tested c.args.config.now (required_of c.args.memories.now c.args.rules.now) before c.args.self.now.round.items c.args.self.now.refused c.args.self.now.broken
    c.args.self.now.base.kept (sym c.is_some.ensures ∙ c.if-is_some.true) put.tested

pub judge_round-requires : goal.judge_round-requires
judge_round-requires g c =
    let run = c.args.self.now in
    let before = c.requires.2 in
    let put = c.requires.3 in
    let judged = none_refused c.args.config.now before run.refused run.base (sym c.is_some.ensures ∙ c.if-is_some.false) put.judged in
    rw c.deref.ensures.value (record {
      ready = judged.0;
      placed = subst (λ count. ArePlaced count run.round.items) (sym judged.2)
          (round_placed c.args.config.now (required_of c.args.memories.now c.args.rules.now) run c.requires.0 c.requires.1 before put);
      cores = put.of_cores;
    })

pub first_broken-self-requires : goal.first_broken-self-requires
first_broken-self-requires g c = rw c.deref-2.ensures.value (rw c.deref.ensures.value at c.in_ok-judged.ensures.within)

pub returns-clause-judged : goal.returns-clause-judged
returns-clause-judged g c = λ settled waiting before put.
    let run = c.args.self.now in
    let judged = none_refused c.args.config.now before run.refused run.base (sym c.is_some.ensures ∙ c.if-is_some.false) put.judged in
    round_judged c.args.config.now before run.round.items _ run.base c.judge_round.new.base judged
    (round_placed c.args.config.now (required_of c.args.memories.now c.args.rules.now) run settled waiting before put) (rw c.deref.ensures.value at c.in_ok-judged.ensures.round)

pub returns-clause-tested : goal.returns-clause-tested
returns-clause-tested g c = λ settled waiting before put.
    let run = c.args.self.now in
    let required = required_of c.args.memories.now c.args.rules.now in
    let none = sym c.is_some.ensures ∙ c.if-is_some.false in
    let judged = none_refused c.args.config.now before run.refused run.base none put.judged in
    let placed = round_placed c.args.config.now required run settled waiting before put in
    let found = c.in_ok-judged.judged in
    subst (λ (broken : Option BrokenRule). HaveTested c.args.config.now required (before ++ run.round.items) found.refused broken c.judge_round.new.base.kept)
    (sym ((rw c.deref-2.ensures.value at c.first_broken-self.ensures) (length before) placed))
    (round_tested_on c.args.config.now required before run.round.items run.broken found.refused found.breach run.base c.judge_round.new.base judged
    (none_refused_tested c.args.config.now required before run.refused run.broken run.base.kept none put.tested) placed
    (rw c.deref.ensures.value at c.in_ok-judged.ensures.round) (rw c.deref.ensures.value at c.in_ok-judged.ensures.tested))
