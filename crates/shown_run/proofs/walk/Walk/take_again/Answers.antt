-- No piece rejects a record over which each has a run.
use Rattle.shown_run.proofs.Taking.{none_rejects, taken_again}
use Rattle.shown_run.proofs.walk.Walk.take_again.Goals as goal

pub returns-clause-going : goal.returns-clause-going
returns-clause-going c =
    c.in_ok-_refusal.ensures.going
    (none_rejects c.args.config.now c.args.ordered.now c.args.self.now c.take.new.self c.in_ok-_refusal._refusal c.requires.accepted c.in_ok-_refusal.ensures.takes)

pub returns-clause-taken : goal.returns-clause-taken
returns-clause-taken c =
    taken_again c.args.config.now c.args.ordered.now c.args.self.now c.take.new.self c.in_ok-_refusal._refusal c.requires.accepted c.in_ok-_refusal.ensures.takes
