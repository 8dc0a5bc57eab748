-- The first piece that rejects the record still does; the view of an accepted record is tested.
use Rattle.std.proofs.Common.{◌<◌, ℕ, List, None, Some, length, slice_index_or, subst, sym}
use Rattle.piece_check.specs.Parts.{Holding, HoldsBefore}
use Rattle.user_rules.specs.Rules.{requirements_of}
use Rattle.verdict_merge.specs.Rounds.{parts_in}
use Rattle.shown_run.specs.Walks.{Takes}
use Rattle.shown_run.proofs.InPlace.{holds_each, refused_run, tested_next}
use Rattle.shown_run.proofs.run.Run.take_next.Goals as goal

pub view_at-view-requires : goal.view_at-view-requires
view_at-view-requires g c =
    subst (λ (all : List Holding). (k : ℕ) (d : Holding) → k < length all → HoldsBefore c.args.ordered.now.pos (slice_index_or all k d).part) (sym c.pieces.ensures)
    (holds_each c.args.self.now.config.now c.args.ordered.now.pos c.args.self.now.walk c.requires.going)

pub returns-in_ok-breach-in-Ok-None-clause-tested : goal.returns-in_ok-breach-in-Ok-None-clause-tested
returns-in_ok-breach-in-Ok-None-clause-tested g c =
    let run = c.args.self.now in
    let takes : Takes run.config.now c.args.ordered.now run.walk None c.take.new.self = rw c.in-Ok-None.field-0-is at c.in-Ok-None.ensures.takes in
    tested_next run.config.now (requirements_of run.memories.now run.kept run.rules.now) c.args.ordered.now run.walk (parts_in c.take.new.self) c.view_at-view.result c.in_ok-breach-in-Ok-None.breach
    c.test.new.kept c.requires.going takes (rw c.pieces.ensures at c.view_at-view.ensures.given) (rw c.pieces.ensures at c.view_at-view.ensures.none) c.in_ok-breach-in-Ok-None.ensures.broken
    c.in_ok-breach-in-Ok-None.ensures.reported c.in_ok-breach-in-Ok-None.ensures.kept

pub returns-in-Ok-Some-clause-outcome : goal.returns-in-Ok-Some-clause-outcome
returns-in-Ok-Some-clause-outcome g c =
    let takes : Takes c.args.self.now.config.now c.args.ordered.now c.args.self.now.walk (Some c.in-Ok-Some.refusal) c.take.new.self =
    rw c.in-Ok-Some.field-0-is at c.in-Ok-Some.ensures.takes in
    refused_run c.args.self.now.config.now c.args.ordered.now c.args.self.now.walk c.take.new.self c.in-Ok-Some.refusal takes
