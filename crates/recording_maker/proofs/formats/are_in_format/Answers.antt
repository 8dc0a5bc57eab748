use Rattle.std.proofs.Common.{rules, ◌≡◌, ℕ, true, All, Global, Vec, subst}
use Rattle.std.proofs.lemmas.List.{take_all}
use Rattle.std.proofs.lemmas.List.Elements.{All-more}
use Rattle.apex_types.specs.declared.format.Format.{Format}
use Rattle.recording_maker.specs.Formats.{IsInFormat}
use Rattle.recording_maker.proofs.formats.are_in_format.Goals as goal

abbrev HasFormat : Format → Vec ℕ Global → Type 0
HasFormat format recording = IsInFormat format recording.items

pub loop-recording-preserved : goal.loop-recording-preserved
loop-recording-preserved c =
    let recording = c.recording-item.result in
    let is : c.in_ok-is_in_format.field-0 ≡ true = search rules in
    let here : HasFormat c.args.format recording = subst (IsInFormat c.args.format) c.deref.ensures.value (c.in_ok-is_in_format.ensures.yes is) in
    All-more (HasFormat c.args.format) c.args.recordings.now c.loop-recording.recording-index recording c.loop-recording-test.true c.loop-recording.invariant
    (subst (HasFormat c.args.format) c.recording-item.is here)

pub returns-clause-yes : goal.returns-clause-yes
returns-clause-yes c =
    λ is. subst (All (HasFormat c.args.format)) (take_all c.loop-recording.recording-index c.args.recordings.now c.loop-recording-test.false) c.loop-recording.invariant
