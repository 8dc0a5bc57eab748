use Rattle.std.proofs.Common.{◌≡◌, ◌∙◌, Ok, ap, subst, sym}
use Rattle.std.specs.Prelude.{option_copied}
use Rattle.user_rules.specs.FirstBroken.{IsFirstRuleBroken}
use Rattle.user_rules.specs.Remembered.{valued_at}
use Rattle.user_rules.specs.Rules.{relations_of, required_of}
use Rattle.verdict_merge.specs.declared.verdict.Verdict.TheVariants.{Broken, No}
use Rattle.report.specs.Shown.{IsSeenAt, StillBreaks, StillRejects}
use Rattle.report.proofs.Breaking.{breach_shown}
use Rattle.report.proofs.Rejecting.{rejects_shown}
use Rattle.report.proofs.witness.tell.Goals as goal

pub refused-requires-clause-reached : goal.refused-requires-clause-reached
refused-requires-clause-reached g c =
    let config = c.args.config.now in
    let records = c.args.records.now in
    let judging = c.args.judge.now in
    let no = c.in-Ok-No in
    let shown = c.in-Some-Some in
    let answer : c.args.answer.now ≡ Ok (No no.pos no.piece no.cause) = no.is ∙ ap (λ verdict. Ok verdict) (rw no.is at no.field-0-is) in
    let rejects = subst (λ answer. StillRejects config records answer judging) answer c.requires.rejects in
    let both = rejects_shown config judging c.args.first records no.pos no.piece no.cause shown.piece.now shown.ordered.now c.requires.placed rejects
    (sym c.piece.ensures ∙ ap (λ piece. option_copied piece) shown.is-0) (sym c.record_at-found.ensures ∙ ap (λ ordered. option_copied ordered) shown.is-1) in
    both.0

pub refused-requires-clause-rejects : goal.refused-requires-clause-rejects
refused-requires-clause-rejects g c =
    let config = c.args.config.now in
    let records = c.args.records.now in
    let judging = c.args.judge.now in
    let no = c.in-Ok-No in
    let shown = c.in-Some-Some in
    let answer : c.args.answer.now ≡ Ok (No no.pos no.piece no.cause) = no.is ∙ ap (λ verdict. Ok verdict) (rw no.is at no.field-0-is) in
    let rejects = subst (λ answer. StillRejects config records answer judging) answer c.requires.rejects in
    let both = rejects_shown config judging c.args.first records no.pos no.piece no.cause shown.piece.now shown.ordered.now c.requires.placed rejects
    (sym c.piece.ensures ∙ ap (λ piece. option_copied piece) shown.is-0) (sym c.record_at-found.ensures ∙ ap (λ ordered. option_copied ordered) shown.is-1) in
    both.1

pub broken-requires-clause-seen : goal.broken-requires-clause-seen
broken-requires-clause-seen g c =
    let required = required_of c.args.memories.now c.args.rules.now in
    let records = c.args.records.now in
    let broken = c.in-Ok-Broken in
    let shown = c.in-Some-Some-2 in
    let answer : c.args.answer.now ≡ Ok (Broken broken.pos broken.rule) = broken.is ∙ ap (λ verdict. Ok verdict) (rw broken.is at broken.field-0-is) in
    let breaks = subst (λ answer. StillBreaks c.args.config.now required records answer c.args.judge.now) answer c.requires.breaks in
    let both = breach_shown c.args.config.now required c.args.first records broken.pos broken.rule c.args.judge.now shown.breach shown.ordered.now c.requires.placed breaks
    (sym c.breach.ensures ∙ shown.is-1) (sym c.record_at-found-in-Ok-Broken.ensures ∙ ap (λ ordered. option_copied ordered) shown.is-0) in
    subst (IsSeenAt c.args.config.now required shown.ordered.now shown.breach.seen.view) (sym c.recollection.ensures) both.0

pub broken-requires-clause-broken : goal.broken-requires-clause-broken
broken-requires-clause-broken g c =
    let required = required_of c.args.memories.now c.args.rules.now in
    let records = c.args.records.now in
    let broken = c.in-Ok-Broken in
    let shown = c.in-Some-Some-2 in
    let answer : c.args.answer.now ≡ Ok (Broken broken.pos broken.rule) = broken.is ∙ ap (λ verdict. Ok verdict) (rw broken.is at broken.field-0-is) in
    let breaks = subst (λ answer. StillBreaks c.args.config.now required records answer c.args.judge.now) answer c.requires.breaks in
    let both = breach_shown c.args.config.now required c.args.first records broken.pos broken.rule c.args.judge.now shown.breach shown.ordered.now c.requires.placed breaks
    (sym c.breach.ensures ∙ shown.is-1) (sym c.record_at-found-in-Ok-Broken.ensures ∙ ap (λ ordered. option_copied ordered) shown.is-0) in
    subst (λ kept. IsFirstRuleBroken (relations_of c.args.rules.now) (valued_at c.args.memories.now kept shown.breach.seen.view) broken.rule) (sym c.recollection.ensures) both.1
