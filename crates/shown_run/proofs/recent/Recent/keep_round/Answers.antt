-- A round is kept as the earlier span, and the later one begins after it.
use Rattle.std.proofs.Common.{◌≡◌, ◌∙◌, ◌+◌, ◌++◌, [], List, length, ap, subst, sym}
use Rattle.piece_check.specs.Parts.{Holding}
use Rattle.verdict_merge.specs.Rounds.{AllRun, AreGoing, cold_parts, parts_in}
use Rattle.shown_run.specs.declared.span.Span.{Span}
use Rattle.shown_run.proofs.Kept.{recent_round}
use Rattle.shown_run.proofs.recent.Recent.keep_round.Goals as goal

pub returns-clause-recent : goal.returns-clause-recent
returns-clause-recent c = λ configuration taken are placed cores run going.
    let pieces : c.replace.new.dest.before ≡ c.args.pieces.now =
    ap (λ (span : Span). span.before) c.replace.ensures.after ∙ c.new-next.ensures.before ∙ c.in_ok-clone.ensures.cases in
    let none : c.replace.new.dest.records.items ≡ [] = ap (λ (span : Span). span.records.items) c.replace.ensures.after ∙ c.new-next.ensures.records in
    recent_round configuration c.args.self.now _ taken c.args.records.items
    (ap (λ (span : Span). span.before) c.replace.ensures.value)
    (ap (λ (span : Span). span.records.items) c.replace.ensures.value ∙ c.from.ensures.0)
    c.requires.begun none are placed cores
    (subst (λ (holdings : List Holding). AllRun configuration (cold_parts configuration) (taken ++ c.args.records.items) (parts_in holdings)) (sym pieces) run)
    (subst (λ (holdings : List Holding). AreGoing configuration (length taken + length c.args.records.items) holdings) (sym pieces) going)
