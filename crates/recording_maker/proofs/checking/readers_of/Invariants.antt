use Rattle.std.proofs.Common.{◌≡◌, Some, map, take}
use Rattle.std.specs.Io.Cursor.{cursor_remaining}
use Rattle.recording_maker.proofs.checking.readers_of.Given as goal

abbrev pub invariant-loop-recording : goal.invariant-loop-recording
invariant-loop-recording l =
    map (λ reader. cursor_remaining (λ text. Some text.items) reader) l.readers.items ≡ map Some (map (λ recording. recording.items) (take l.recording-index l.recordings))
