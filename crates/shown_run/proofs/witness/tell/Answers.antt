-- The witness is shown the piece that the No names, or the view that breaks a rule, and the record at its place.
use Rattle.std.proofs.Common.{◌∙◌, Ok, ap, subst, sym}
use Rattle.std.specs.Prelude.{option_copied}
use Rattle.report.proofs.Breaking.{breach_shown}
use Rattle.report.proofs.Rejecting.{rejects_shown}
use Rattle.report.specs.Shown.{StillBreaks, StillRejects}
use Rattle.user_rules.specs.Rules.{required_of}
use Rattle.shown_run.specs.Judged.{judging_of, judging_with}
use Rattle.shown_run.proofs.witness.tell.Goals as goal

pub refused-requires-clause-reached : goal.refused-requires-clause-reached
refused-requires-clause-reached g c =
    let config = c.args.config.now in
    let records = c.args.records.now in
    let judging = judging_of c.args.first c.args.walk.now c.args.asked.now.recollection.now in
    let no = c.in-No in
    let shown = c.in-Some-Some in
    let rejects = subst (λ verdict. StillRejects config records (Ok verdict) judging) no.is c.requires.rejects in
    let both = rejects_shown config judging c.args.first records no.pos no.piece no.cause shown.piece.now shown.ordered.now c.requires.placed rejects
    (sym c.piece_at.ensures ∙ ap (λ piece. option_copied piece) shown.is-0) (sym c.record_at-found.ensures ∙ ap (λ ordered. option_copied ordered) shown.is-1) in
    both.0

pub refused-requires-clause-rejects : goal.refused-requires-clause-rejects
refused-requires-clause-rejects g c =
    let config = c.args.config.now in
    let records = c.args.records.now in
    let judging = judging_of c.args.first c.args.walk.now c.args.asked.now.recollection.now in
    let no = c.in-No in
    let shown = c.in-Some-Some in
    let rejects = subst (λ verdict. StillRejects config records (Ok verdict) judging) no.is c.requires.rejects in
    let both = rejects_shown config judging c.args.first records no.pos no.piece no.cause shown.piece.now shown.ordered.now c.requires.placed rejects
    (sym c.piece_at.ensures ∙ ap (λ piece. option_copied piece) shown.is-0) (sym c.record_at-found.ensures ∙ ap (λ ordered. option_copied ordered) shown.is-1) in
    both.1

pub broken-requires-clause-seen : goal.broken-requires-clause-seen
broken-requires-clause-seen g c =
    let required = required_of c.args.asked.now.memories.now c.args.asked.now.rules.now in
    let judging = judging_with c.args.first c.args.walk.now c.args.asked.now.recollection.now c.args.breach in
    let records = c.args.records.now in
    let broken = c.in-Broken in
    let shown = c.in-Some-Some-2 in
    let breaks = subst (λ verdict. StillBreaks c.args.config.now required records (Ok verdict) judging) broken.is c.requires.breaks in
    let both = breach_shown c.args.config.now required c.args.first records broken.pos broken.rule judging shown.breach shown.ordered.now c.requires.placed breaks
    shown.is-1 (sym c.record_at-found-in-Broken.ensures ∙ ap (λ ordered. option_copied ordered) shown.is-0) in
    both.0

pub broken-requires-clause-broken : goal.broken-requires-clause-broken
broken-requires-clause-broken g c =
    let required = required_of c.args.asked.now.memories.now c.args.asked.now.rules.now in
    let judging = judging_with c.args.first c.args.walk.now c.args.asked.now.recollection.now c.args.breach in
    let records = c.args.records.now in
    let broken = c.in-Broken in
    let shown = c.in-Some-Some-2 in
    let breaks = subst (λ verdict. StillBreaks c.args.config.now required records (Ok verdict) judging) broken.is c.requires.breaks in
    let both = breach_shown c.args.config.now required c.args.first records broken.pos broken.rule judging shown.breach shown.ordered.now c.requires.placed breaks
    shown.is-1 (sym c.record_at-found-in-Broken.ensures ∙ ap (λ ordered. option_copied ordered) shown.is-0) in
    both.1
