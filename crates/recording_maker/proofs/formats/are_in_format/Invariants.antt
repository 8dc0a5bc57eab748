use Rattle.std.proofs.Common.{All, take}
use Rattle.recording_maker.specs.Formats.{IsInFormat}
use Rattle.recording_maker.proofs.formats.are_in_format.Given as goal

abbrev pub invariant-loop-recording : goal.invariant-loop-recording
invariant-loop-recording l = All (λ recording. IsInFormat l.format recording.items) (take l.recording-index l.recordings)
