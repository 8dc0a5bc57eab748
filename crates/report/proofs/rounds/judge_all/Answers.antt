use Rattle.std.proofs.Common.{◌≡◌, ◌+◌, ◌++◌, ◌∙◌, List, [], Some, None, Ok, ap, length, map, subst, sym, arith}
use Rattle.std.proofs.lemmas.List.{map-append}
use Rattle.apex_types.specs.declared.record.Ordered.{Ordered}
use Rattle.apex_machine.specs.Runs.{ArePlaced, AreOfCores}
use Rattle.circular_buffer.specs.Buffer.{keep_last}
use Rattle.order_cert.specs.Kept.{place_of}
use Rattle.placement.specs.Lanes.{AreHonest, IsFilled, Lead}
use Rattle.placement.specs.Reading.{CanFail}
use Rattle.user_rules.specs.Remembered.{with_kept}
use Rattle.user_rules.specs.Rules.{required_of}
use Rattle.verdict_merge.specs.Rounds.{cold_parts, parts_of}
use Rattle.verdict_merge.specs.Verdicts.{ViewsLead}
use Rattle.report.specs.Last.{item_of, most_last}
use Rattle.report.specs.Rounds.{IsDecided, LeavesItsBreach, LeavesItsPiece}
use Rattle.report.specs.Shown.{StillBreaks, StillRejects}
use Rattle.report.proofs.Breaking.{leads_nowhere, still_breaks}
use Rattle.report.proofs.Going.{after_on, decided_on, filled_on, last_on, required_after}
use Rattle.report.proofs.LastOnes.{kept_on}
use Rattle.report.proofs.Rejecting.{still_rejects}
use Rattle.report.proofs.rounds.judge_all.Goals as goal

pub rounds-init : goal.rounds-init
rounds-init g c =
    let config = c.args.terms.now.config.now in
    let required = required_of c.args.terms.now.memories.now c.args.terms.now.rules.now in
    let begun = c.in-Ok.ensures in
    let filled = c.fill-filled.ensures in
    let round : List Ordered = c.fill-filled.new.round.items in
    let first : place_of c.args.placer.now.kept ≡ c.in-Ok.judge.count = c.requires.first ∙ sym begun.count in
    record {
      may = record {
        ready = begun.ready;
        placed = subst (λ place. ArePlaced place round) first filled.placed;
        cores = subst (λ cores. AreOfCores cores round) c.requires.cores filled.cores;
      };
      outcome = (
        [],
        filled.filled,
        (
          begun.cold,
          subst (λ kept. ViewsLead config required (cold_parts config) [] (with_kept required kept)) (sym begun.kept) (leads_nowhere config required (cold_parts config)),
          begun.count,
        ),
        c.clear.ensures,
      );
      going = filled.going;
      place = λ full. omega (arith, first, filled.place full);
      lanes = filled.lanes ∙ c.requires.cores;
    }

pub tell-requires-clause-rejects : goal.tell-requires-clause-rejects
tell-requires-clause-rejects g c =
    let config = c.args.terms.now.config.now in
    let outcome = c.rounds.invariant.outcome in
    let round : List Ordered = c.rounds.round.items in
    let leaves : LeavesItsPiece config c.rounds.judge round c.judge_last-answer.result c.judge_last-answer.new.judge =
    rw c.deref.ensures.value at c.judge_last-answer.ensures.leaves in
    rw c.deref-in-Ended-2.ensures.value
    (still_rejects config c.rounds.judge c.judge_last-answer.new.judge outcome.0 round c.judge_last-answer.result outcome.2.0 outcome.2.2 c.rounds.invariant.may.placed leaves)

pub tell-requires-in-Ok-Some-clause-rejects : goal.tell-requires-in-Ok-Some-clause-rejects
tell-requires-in-Ok-Some-clause-rejects g c =
    let config = c.args.terms.now.config.now in
    let required = required_of c.args.terms.now.memories.now c.args.terms.now.rules.now in
    let outcome = c.rounds.invariant.outcome in
    let round : List Ordered = c.rounds.round.items in
    let verdict = c.in-Ok-Some.verdict in
    let judged = c.judge_and_fill-decided.new.judge in
    let decided : IsDecided config (required_after required c.rounds.judge) c.rounds.judge round (Some verdict) judged =
    rw c.in-Ok-Some.field-0-is at (rw c.in-Ok-Some.is at (rw c.deref-in-rounds.ensures.value at c.judge_and_fill-decided.ensures.decided)) in
    subst (λ records. StillRejects config records (Ok verdict) judged) (sym c.deref-in-Ok-Some-2.ensures.value)
    (still_rejects config c.rounds.judge judged outcome.0 round (Ok verdict) outcome.2.0 outcome.2.2 c.rounds.invariant.may.placed decided.2)

pub tell-requires-clause-breaks : goal.tell-requires-clause-breaks
tell-requires-clause-breaks g c =
    let config = c.args.terms.now.config.now in
    let required = required_of c.args.terms.now.memories.now c.args.terms.now.rules.now in
    let outcome = c.rounds.invariant.outcome in
    let round : List Ordered = c.rounds.round.items in
    let judged = c.judge_last-answer.new.judge in
    let leaves : LeavesItsBreach config (required_after required c.rounds.judge) c.rounds.judge round c.judge_last-answer.result judged = rw c.deref.ensures.value at c.judge_last-answer.ensures.breach in
    let counted : c.rounds.judge.count ≡ 0 + length outcome.0 = omega (arith, outcome.2.2) in
    rw c.deref-in-Ended-2.ensures.value
    (still_breaks config required c.rounds.judge.kept (cold_parts config) (parts_of c.rounds.judge) 0 c.rounds.judge.count outcome.0 round c.judge_last-answer.result judged.breach judged.kept
    outcome.2.0 outcome.2.1 counted leaves)

pub tell-requires-in-Ok-Some-clause-breaks : goal.tell-requires-in-Ok-Some-clause-breaks
tell-requires-in-Ok-Some-clause-breaks g c =
    let config = c.args.terms.now.config.now in
    let required = required_of c.args.terms.now.memories.now c.args.terms.now.rules.now in
    let outcome = c.rounds.invariant.outcome in
    let round : List Ordered = c.rounds.round.items in
    let verdict = c.in-Ok-Some.verdict in
    let judged = c.judge_and_fill-decided.new.judge in
    let left : LeavesItsBreach config (required_after required c.rounds.judge) c.rounds.judge c.deref-in-rounds.result.now (Ok verdict) judged =
    rw c.in-Ok-Some.field-0-is at (rw c.in-Ok-Some.is at c.judge_and_fill-decided.ensures.breach) in
    let leaves : LeavesItsBreach config (required_after required c.rounds.judge) c.rounds.judge round (Ok verdict) judged =
    subst (λ (list : List Ordered). LeavesItsBreach config (required_after required c.rounds.judge) c.rounds.judge list (Ok verdict) judged) c.deref-in-rounds.ensures.value left in
    let counted : c.rounds.judge.count ≡ 0 + length outcome.0 = omega (arith, outcome.2.2) in
    subst (λ records. StillBreaks config required records (Ok verdict) judged) (sym c.deref-in-Ok-Some-2.ensures.value)
    (still_breaks config required c.rounds.judge.kept (cold_parts config) (parts_of c.rounds.judge) 0 c.rounds.judge.count outcome.0 round (Ok verdict) judged.breach judged.kept
    outcome.2.0 outcome.2.1 counted leaves)

pub returns-in-Ended : goal.returns-in-Ended
returns-in-Ended g c = λ honest.
    let can_fail : CanFail = record { recordings = g.R.TextSource.can_fail; certificate = g.C.TextSource.can_fail } in
    let outcome = c.rounds.invariant.outcome in
    let round : List Ordered = c.rounds.round.items in
    rw (rw (c.deref-in-Ended.ensures.value, c.count-first.ensures, outcome.3) at c.keep_after_answer.ensures)
    (last_on can_fail c.args.terms.now.config.now (required_of c.args.terms.now.memories.now c.args.terms.now.rules.now) c.args.placer.now c.rounds.placer c.rounds.judge outcome.0 round c.in-Ended.end c.judge_last-answer.result
    (subst (λ filled. IsFilled can_fail c.args.placer.now (outcome.0 ++ round) filled c.rounds.placer) c.in-Ended.is (outcome.1 honest)) outcome.2 c.rounds.invariant.may.placed
    (rw c.deref.ensures.value at c.judge_last-answer.ensures.answer))

pub returns-in-Ok-Some : goal.returns-in-Ok-Some
returns-in-Ok-Some g c =
    let can_fail : CanFail = record { recordings = g.R.TextSource.can_fail; certificate = g.C.TextSource.can_fail } in
    let config = c.args.terms.now.config.now in
    let required = required_of c.args.terms.now.memories.now c.args.terms.now.rules.now in
    let outcome = c.rounds.invariant.outcome in
    let round : List Ordered = c.rounds.round.items in
    let verdict = c.in-Ok-Some.verdict in
    let lead : AreHonest can_fail.recordings c.rounds.placer.lanes → Lead can_fail c.args.placer.now (outcome.0 ++ round) c.rounds.placer =
    λ honest. subst (λ filled. IsFilled can_fail c.args.placer.now (outcome.0 ++ round) filled c.rounds.placer) c.in-Full.is (outcome.1 honest) in
    let decided : IsDecided config (required_after required c.rounds.judge) c.rounds.judge round (Some verdict) c.judge_and_fill-decided.new.judge =
    rw c.in-Ok-Some.field-0-is at (rw c.in-Ok-Some.is at (rw c.deref-in-rounds.ensures.value at c.judge_and_fill-decided.ensures.decided)) in λ honest.
    rw (rw (c.deref-in-Ok-Some.ensures.value, c.count-first.ensures, outcome.3) at c.keep_after_answer-in-Ok-Some.ensures)
    (decided_on can_fail config required c.args.placer.now c.rounds.placer c.rounds.judge c.judge_and_fill-decided.new.judge outcome.0 round verdict
    (lead (c.judge_and_fill-decided.ensures.placed.honest honest)) outcome.2 c.rounds.invariant.may.placed decided)

pub rounds-preserved : goal.rounds-preserved
rounds-preserved g c =
    let can_fail : CanFail = record { recordings = g.R.TextSource.can_fail; certificate = g.C.TextSource.can_fail } in
    let config = c.args.terms.now.config.now in
    let required = required_of c.args.terms.now.memories.now c.args.terms.now.rules.now in
    let is = c.rounds.invariant in
    let outcome = is.outcome in
    let round : List Ordered = c.rounds.round.items in
    let next : List Ordered = c.judge_and_fill-decided.new.next.items in
    let placed = c.judge_and_fill-decided.ensures.placed in
    let lead : AreHonest can_fail.recordings c.rounds.placer.lanes → Lead can_fail c.args.placer.now (outcome.0 ++ round) c.rounds.placer =
    λ honest. subst (λ filled. IsFilled can_fail c.args.placer.now (outcome.0 ++ round) filled c.rounds.placer) c.in-Full.is (outcome.1 honest) in
    let decided : IsDecided config (required_after required c.rounds.judge) c.rounds.judge round None c.judge_and_fill-decided.new.judge =
    rw c.in-Ok-None.field-0-is at (rw c.in-Ok-None.is at (rw c.deref-in-rounds.ensures.value at c.judge_and_fill-decided.ensures.decided)) in
    let count = decided.1 ∙ sym (is.place c.in-Full.is) in
    let kept : c.keep.new.self ≡ keep_last most_last (map item_of (outcome.0 ++ round)) =
    rw c.deref-in-Ok-None.ensures.value at c.keep.ensures
    ∙ ap (λ before. keep_last most_last (before ++ map item_of round)) outcome.3
    ∙ kept_on most_last (map item_of outcome.0) (map item_of round) ∙ ap (keep_last most_last) (sym (map-append item_of outcome.0 round)) in
    rw c.swap.ensures.x_after record {
      may = record {
        ready = decided.3;
        placed = subst (λ place. ArePlaced place next) (sym count) placed.placed;
        cores = subst (λ cores. AreOfCores cores next) is.lanes placed.cores;
      };
      outcome = (
        outcome.0 ++ round,
        (λ honest. filled_on can_fail c.args.placer.now c.rounds.placer c.judge_and_fill-decided.new.placer (outcome.0 ++ round) next c.judge_and_fill-decided.result.1 (lead (placed.honest honest)) (placed.known honest)),
        after_on config required c.rounds.judge c.judge_and_fill-decided.new.judge outcome.0 round outcome.2 decided,
        kept,
      );
      going = placed.going;
      place = λ full. omega (arith, count, placed.place full);
      lanes = omega (arith, placed.lanes, is.lanes);
    }
