-- What the pieces make of a round is gathered.
use Rattle.std.proofs.Common.{◌+◌, List, length, subst, sym}
use Rattle.piece_check.specs.Parts.{Holding}
use Rattle.verdict_merge.specs.Rounds.{AreGoing, HaveRunOver}
use Rattle.shown_run.proofs.rounds.Rounds.take.Goals as goal

pub returns-clause-outcome : goal.returns-clause-outcome
returns-clause-outcome g c =
    let over = rw (c.keeping-lent.ensures.config, c.keeping-lent.ensures.first, c.keeping-lent.ensures.records, c.with_windows-lent.ensures.config, c.with_windows-lent.ensures.first, c.with_windows-lent.ensures.records, c.take_pieces.ensures, c.tested_at_once-at_once.ensures) at c.in-Ok.ensures in
    let gathered = rw (c.keeping-lent.ensures.config, c.keeping-lent.ensures.first, c.keeping-lent.ensures.records, c.with_windows-lent.ensures.config, c.with_windows-lent.ensures.first, c.with_windows-lent.ensures.records) at c.in-Ok-survey.ensures in
    subst (λ (new : List Holding). HaveRunOver c.args.config.now c.args.walk.now c.args.records.now c.in-Ok-survey.survey.found new) (sym c.set_pieces.ensures)
    (gathered c.args.walk.now c.requires.going over).outcome

pub returns-clause-tested : goal.returns-clause-tested
returns-clause-tested g c =
    let over = rw (c.keeping-lent.ensures.config, c.keeping-lent.ensures.first, c.keeping-lent.ensures.records, c.with_windows-lent.ensures.config, c.with_windows-lent.ensures.first, c.with_windows-lent.ensures.records, c.take_pieces.ensures, c.tested_at_once-at_once.ensures) at c.in-Ok.ensures in
    let gathered = rw (c.keeping-lent.ensures.config, c.keeping-lent.ensures.first, c.keeping-lent.ensures.records, c.with_windows-lent.ensures.config, c.with_windows-lent.ensures.first, c.with_windows-lent.ensures.records) at c.in-Ok-survey.ensures in
    (gathered c.args.walk.now c.requires.going over).tested

pub returns-clause-going : goal.returns-clause-going
returns-clause-going g c =
    let over = rw (c.keeping-lent.ensures.config, c.keeping-lent.ensures.first, c.keeping-lent.ensures.records, c.with_windows-lent.ensures.config, c.with_windows-lent.ensures.first, c.with_windows-lent.ensures.records, c.take_pieces.ensures, c.tested_at_once-at_once.ensures) at c.in-Ok.ensures in
    let gathered = rw (c.keeping-lent.ensures.config, c.keeping-lent.ensures.first, c.keeping-lent.ensures.records, c.with_windows-lent.ensures.config, c.with_windows-lent.ensures.first, c.with_windows-lent.ensures.records) at c.in-Ok-survey.ensures in
    subst (λ (new : List Holding). AreGoing c.args.config.now (c.args.first + length c.args.records.now) new) (sym c.set_pieces.ensures)
    (gathered c.args.walk.now c.requires.going over).going
